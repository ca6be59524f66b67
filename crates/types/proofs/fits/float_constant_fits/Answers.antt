-- A float constant in a range, by what it folds to; a NaN fits nowhere. Each answer is a case of `FitsCases`. Assumes nothing.
use Rattle.std.proofs.Common.{◌≡◌, rules}
use mathlib.Core.Path.{ap, ◌∙◌}
use Rattle.std.specs.Prelude.{Some}
use Rattle.types.specs.declared.float_value.FloatValue.TheVariants.{Nan}
use Rattle.types.proofs.FitsCases.{float_fits-value, float_fits_nan, float_fits_nothing}
use Rattle.types.proofs.fits.float_constant_fits.Goals as goal

pub returns-in-Some-Value : goal.returns-in-Some-Value
returns-in-Some-Value c text = float_fits-value _ c.float_value.result (c.float_value.ensures text) _ (c.in-Some-Value.is ∙ ap Some c.in-Some-Value.field-0-is) _ _ _ c.is_short.ensures c.float_fits.ensures

pub returns-in_default : goal.returns-in_default
returns-in_default c text = let nan : c.in_default.field-0 ≡ Nan = search rules in float_fits_nan _ c.float_value.result (c.float_value.ensures text) (c.in_default.is ∙ ap Some nan) _

pub returns-in_default-2 : goal.returns-in_default-2
returns-in_default-2 c text = float_fits_nothing _ c.float_value.result (c.float_value.ensures text) c.in_default.is _
