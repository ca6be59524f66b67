-- The word that counts the visits, behind the turns.
-- By the definition of that word. Assumes nothing.
use Rattle.expressions.specs.Slots.{visits_at}
use Rattle.expressions.proofs.turns.visits.Goals as goal

pub returns : goal.returns
unfolding visits_at
returns c = c.load.ensures
