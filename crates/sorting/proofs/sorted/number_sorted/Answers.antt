-- Each sorted record gets its number. The invariant: those passed have theirs, and the first with the last one's key is known.
-- By the laws of numbers written. Assumes nothing.
use Prim.Native.Nat.{◌+◌}
use native.Mathlib.Omega.{arith}
use borrow.Author.Rules.{rules}
use Rattle.sorting.proofs.GroupLaws.{fewer, sorted_still, up_to_now, up_to_then, number_fits, numbered_more}
use Rattle.sorting.proofs.sorted.number_sorted.Goals as goal

pub first_up_to-first-requires : goal.first_up_to-first-requires
first_up_to-first-requires c = record { sorted_records = fewer _ _ _ _ _ (sorted_still _ _ _ _ _ _ c.requires.0 c.requires.1 _ _ c.loop-i.invariant.1) (c.loop-i.i + 1) (omega (arith, c.loop-i-test.true)); by_index = up_to_now _ _ _ _ _ _ c.requires.0 c.requires.1 _ _ c.loop-i.invariant.1 _ c.loop-i-test.true c.loop-i.invariant.0 }

pub put_word-requires : goal.put_word-requires
put_word-requires c = number_fits _ _ _ _ _ _ c.requires.0 c.requires.1 _ _ c.loop-i.invariant.1 c.loop-i-test.true _ c.first_up_to-first.ensures _ c.load-r.ensures

pub loop-i-preserved : goal.loop-i-preserved
loop-i-preserved c = (up_to_then _ _ _ _ _ _ c.requires.0 c.requires.1 _ _ c.loop-i.invariant.1 c.loop-i-test.true _ c.first_up_to-first.ensures, numbered_more _ _ _ _ _ _ c.requires.0 c.requires.1 _ _ c.loop-i.invariant.1 c.loop-i-test.true _ c.first_up_to-first.ensures _ c.load-r.ensures _ (search rules) c.put_word.ensures)
