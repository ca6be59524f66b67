-- The first record with an entry's key: that of the entry before where both have the same, else its own.
-- By the laws of the first with a key. Assumes nothing.
use Prim.Native.Nat.{◌-◌}
use native.Mathlib.Omega.{arith}
use Rattle.sorting.proofs.GroupLaws.{first_goes_on, first-new}
use Rattle.sorting.proofs.sorted.first_up_to.Goals as goal

pub returns-then-same_as_next : goal.returns-then-same_as_next
returns-then-same_as_next c = first_goes_on _ _ _ _ _ c.requires.sorted_records c.args.i (c.args.i - 1) _ (omega (arith, c.if-i-eq0.false)) c.same_as_next.ensures _ c.if-same_as_next.true c.requires.by_index

pub returns : goal.returns
returns c = first-new _ _ _ _ _ c.requires.sorted_records c.args.i (c.args.i - 1) _ (omega (arith, c.if-i-eq0.false)) c.same_as_next.ensures _ c.if-same_as_next.false c.load-r.ensures
