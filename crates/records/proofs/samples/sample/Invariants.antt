-- A sample for each whole stride, one after the other. The invariant: digest and power are those of sample k, and the samples up to it are written.
-- Assumes nothing.
use Rattle.std.proofs.Common.{◌+◌}
use Rattle.records.proofs.SampleLaws.{Sampling}
use Rattle.records.proofs.samples.sample.Given as goal

abbrev pub invariant-loop-k : goal.invariant-loop-k
invariant-loop-k l = Sampling l.text l.stride l.at l.fn.scratch l.k (l.k + 1) l.d l.power l.scratch
