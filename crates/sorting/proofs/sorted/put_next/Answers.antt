-- The next one of two runs is put out: the head of the left, or of the right.
-- By the laws of an entry put out, over what the choice and the writing ensure. Assumes nothing.
use native.Mathlib.Omega.{arith}
use borrow.Author.Rules.{rules}
use Rattle.sorting.proofs.MergeLaws.{left_put, right_put, put_only}
use Rattle.sorting.proofs.sorted.put_next.Goals as goal

pub returns-then-choice : goal.returns-then-choice
returns-then-choice c = record { merging = left_put _ _ _ _ _ _ c.requires.0 _ _ _ _ _ c.requires.1 c.choose_head-choice.ensures c.if-choice.true (search rules) (omega (arith, c.struct_known-then-choice-1.given.1.1.0)) c.load-a.ensures c.put_pair.ensures c.shared_before-after.ensures; only_there = put_only _ _ _ _ _ _ c.requires.0 _ _ _ 0 0 c.requires.1 c.choose_head-choice.ensures _ _ c.put_pair.ensures }

pub returns : goal.returns
returns c = record { merging = right_put _ _ _ _ _ _ c.requires.0 _ _ _ _ _ c.requires.1 c.choose_head-choice.ensures c.if-choice.false (search rules) (omega (arith, c.struct_known-2-1.given.1.1.1.0)) c.load-b.ensures c.put_pair-2.ensures c.shared_before-after-2.ensures; only_there = put_only _ _ _ _ _ _ c.requires.0 _ _ _ 0 0 c.requires.1 c.choose_head-choice.ensures _ _ c.put_pair-2.ensures }
