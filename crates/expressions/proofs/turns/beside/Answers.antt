-- What is kept beside a type is the word at its place behind the turns.
-- By the definition of that word. Assumes nothing.
use Rattle.expressions.specs.Slots.{beside_at}
use Rattle.expressions.proofs.turns.beside.Goals as goal

pub returns : goal.returns
unfolding beside_at
returns c = c.entry.ensures
