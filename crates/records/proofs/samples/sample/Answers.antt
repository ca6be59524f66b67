-- A sample for each whole stride, one after the other. By the laws of samples at each turn. Assumes nothing.
use Rattle.std.proofs.Common.{arith}
use Rattle.records.proofs.SampleLaws.{sampling_none, digest-small, sampling_written, stride_fits, sampling_more}
use Rattle.records.proofs.samples.sample.Goals as goal

pub loop-k-init : goal.loop-k-init
loop-k-init c = sampling_written _ _ _ _ c.requires (omega arith) _ _ _ _ (sampling_none _ _ _ _) _ _ (omega arith) c.put_pair.ensures

pub roll-d-requires : goal.roll-d-requires
roll-d-requires c = (stride_fits _ _ _ _ (omega arith) _ _ _ _ c.loop-k.invariant c.loop-k-test.true, digest-small _ _ _ _ _ _ _ _ _ c.loop-k.invariant)

pub loop-k-preserved : goal.loop-k-preserved
loop-k-preserved c =
    sampling_written _ _ _ _ c.requires (omega arith) _ _ _ _
    (sampling_more _ _ _ _ (omega arith) _ _ _ _ c.loop-k.invariant _ _ _ c.loop-k-test.true c.roll_power-factor.ensures.0 c.roll-d.ensures.0 c.times-power.ensures.0)
    _ _ (omega arith) c.put_pair-in-loop-k.ensures
