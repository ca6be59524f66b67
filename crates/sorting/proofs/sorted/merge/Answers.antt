-- Two runs are merged, entry for entry. By the laws of merging. Assumes nothing.
use Rattle.std.proofs.Common.{arith}
use Rattle.sorting.proofs.MergeLaws.{merging_end}
use Rattle.sorting.proofs.sorted.merge.Goals as goal

pub returns : goal.returns
returns c = record { arranged = merging_end _ _ _ _ _ _ c.loop-k.invariant.0 c.loop-k-test.false (omega (arith, c.requires.places.rises)) _ c.requires.places c.loop-k.invariant.1; only_there = c.loop-k.invariant.1 }
