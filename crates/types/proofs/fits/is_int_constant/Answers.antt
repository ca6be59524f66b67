-- Whether an expression folds to an integer: a case of `FitsCases`. Assumes nothing.
use mathlib.Core.Path.{◌∙◌}
use Rattle.types.proofs.FitsCases.{int-is_some}
use Rattle.types.proofs.fits.is_int_constant.Goals as goal

pub returns : goal.returns
returns c text = c.is_some.ensures ∙ int-is_some _ c.int_value.result (c.int_value.ensures text)
