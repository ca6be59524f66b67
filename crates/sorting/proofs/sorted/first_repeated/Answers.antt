-- The lowest record that repeats a key. By the laws of such entries. Assumes nothing.
use Rattle.std.proofs.Common.{arith, ◌-◌}
use Rattle.sorting.proofs.GroupLaws.{looked_more, looked_all}
use Rattle.sorting.proofs.sorted.first_repeated.Goals as goal

pub loop-i-preserved : goal.loop-i-preserved
loop-i-preserved c = looked_more _ _ _ _ _ c.requires _ c.loop-i.i (c.loop-i.i - 1) _ _ _ (omega arith) c.loop-i-test.true c.loop-i.invariant c.repeated_behind.ensures c.min-lowest.ensures

pub returns : goal.returns
returns c = looked_all _ _ _ _ _ c.requires _ _ _ c.loop-i-test.false c.loop-i.invariant
