-- Between minus the limit and the limit: the two tests of the definition. Assumes nothing.
use mathlib.Core.Path.{refl, ◌∙◌}
use Rattle.types.proofs.FloatFacts.{small_above, small_below}
use Rattle.types.proofs.float_value.is_small.Goals as goal

pub returns-then-x : goal.returns-then-x
returns-then-x c = small_above _ _ c.if-x.true refl

pub returns-else-x : goal.returns-else-x
returns-else-x c = c.if-x.false ∙ small_below _ _ c.if-x.false refl
