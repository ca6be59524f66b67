-- Whether the type of a record was worked out in this turn, by the word at its place among the turns.
-- By the definition of that word. Assumes nothing.
use Rattle.expressions.specs.Slots.{turn_at, in_turn}
use Rattle.expressions.proofs.turns.is_typed.Goals as goal

pub returns : goal.returns
unfolding in_turn turn_at
returns c = rw c.entry.ensures
