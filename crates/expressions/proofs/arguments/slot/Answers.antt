-- The word at an expression's slot, behind the listed functions.
-- By the definition of the slot. Assumes nothing.
use Rattle.expressions.specs.Slots.{slot_at}
use Rattle.expressions.proofs.arguments.slot.Goals as goal

pub returns : goal.returns
unfolding slot_at
returns c = c.entry.ensures
