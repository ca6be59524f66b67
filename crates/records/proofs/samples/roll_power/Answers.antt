-- The power of n bytes, byte by byte. One step of the definition at each turn. Assumes nothing.
use Rattle.std.proofs.Common.{refl, arith}
use Rattle.records.specs.Samples.{roll_power}
use Rattle.records.proofs.SampleLaws.{power_one}
use Rattle.records.proofs.samples.roll_power.Goals as goal

pub loop-i-init : goal.loop-i-init
unfolding roll_power
loop-i-init c = (refl, omega arith)

pub loop-i-preserved : goal.loop-i-preserved
loop-i-preserved c = (power_one _ _ _ c.loop-i.invariant.0 c.roll_byte-x.ensures.0, c.roll_byte-x.ensures.1)
