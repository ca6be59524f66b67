-- A literal that does not fit. Each answer is a case of `FitsCases`. Assumes nothing.
use mathlib.Core.Path.{◌∙◌}
use Rattle.types.proofs.FitsCases.{range_yes, range_no}
use Rattle.types.proofs.fits.range_error.Goals as goal

pub returns-then-is_literal : goal.returns-then-is_literal
returns-then-is_literal c text = range_yes _ text _ _ _ _ (c.is_literal.ensures text) c.if-is_literal.true _ (c.fits.ensures text)

pub returns-else-is_literal : goal.returns-else-is_literal
returns-else-is_literal c text = c.if-is_literal.false ∙ range_no _ text _ _ _ _ (c.is_literal.ensures text) c.if-is_literal.false
