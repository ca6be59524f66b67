-- A visit: four words are written, one after the other.
-- By the words that `put_word` writes, and the room that the contract leaves for the count. Assumes nothing.
use native.Mathlib.Omega.{arith}
use Rattle.expressions.specs.Slots.{visits_at}
use Rattle.expressions.proofs.TurnLaws.{visit_is}
use Rattle.expressions.proofs.turns.visit.Goals as goal

pub overflow_add-visits : goal.overflow_add-visits
unfolding visits_at
overflow_add-visits c = record { fits = omega (arith, c.load-visits.ensures, c.requires.scratch_bound) }

pub returns : goal.returns
unfolding visits_at
returns c = visit_is _ _ _ _ _ _ _ c.load-visits.ensures _ _ _ _ c.put_word.ensures c.put_word-2.ensures c.put_word-3.ensures c.put_word-4.ensures
