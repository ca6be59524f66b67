-- n times a size, as it is handed on: by the case of the element and of n.
-- Each answer is a law on products of `SizeCases`. Assumes nothing.
use mathlib.Core.Path.{sym, ◌∙◌}
use Rattle.types.proofs.SizeCases.{times_nothing, over_zero, over-more, exactly-zero, exactly-fits, exactly-over}
use Rattle.types.proofs.size.times.Goals as goal

pub returns-then-n-eq0 : goal.returns-then-n-eq0
returns-then-n-eq0 c o h = over_zero _ c.if-n-eq0.true o (sym c.in-Over.is ∙ h)

pub returns-then-n-eq0-2 : goal.returns-then-n-eq0-2
returns-then-n-eq0-2 c o h = exactly-zero _ _ c.if-n-eq0-2.true o (sym c.in-Exactly.is ∙ h)

pub returns-then-b-n : goal.returns-then-b-n
returns-then-b-n c o h = exactly-fits _ _ c.if-n-eq0-2.false c.if-b-n.true o (sym c.in-Exactly.is ∙ h)

pub returns-in-Nothing : goal.returns-in-Nothing
returns-in-Nothing c o h = times_nothing _ o (sym c.in-Nothing.is ∙ h)

pub returns-else-n-eq0 : goal.returns-else-n-eq0
returns-else-n-eq0 c o h = over-more _ c.if-n-eq0.false o (sym c.in-Over.is ∙ h)

pub returns-else-b-n : goal.returns-else-b-n
returns-else-b-n c o h = exactly-over _ _ c.if-n-eq0-2.false c.if-b-n.false o (sym c.in-Exactly.is ∙ h)
