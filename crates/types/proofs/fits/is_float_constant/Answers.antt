-- Whether an expression folds to a float, a NaN too: a case of `FitsCases`. Assumes nothing.
use mathlib.Core.Path.{◌∙◌}
use Rattle.types.proofs.FitsCases.{float-is_some}
use Rattle.types.proofs.fits.is_float_constant.Goals as goal

pub returns : goal.returns
returns c text = c.is_some.ensures ∙ float-is_some _ c.float_value.result (c.float_value.ensures text)
