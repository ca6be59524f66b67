-- Finite and, for a short one, small: the cases of `float_fits`. By the laws of `FloatFacts`. Assumes nothing.
use mathlib.Core.Bool.{not}
use mathlib.Core.Path.{sym, ap, ◌∙◌}
use Rattle.types.proofs.FloatFacts.{fits-small, fits-long, fits_not}
use Rattle.types.proofs.float_value.float_fits.Goals as goal

pub returns-then-not-short : goal.returns-then-not-short
returns-then-not-short c = ap not c.if-not-short.true ∙ fits-long _ _ (sym c.is_finite.ensures ∙ c.if-is_finite.true) c.if-not-short.true

pub returns-else-not-short : goal.returns-else-not-short
returns-else-not-short c = c.is_small.ensures ∙ fits-small _ _ (sym c.is_finite.ensures ∙ c.if-is_finite.true) c.if-not-short.false

pub returns-else-is_finite : goal.returns-else-is_finite
returns-else-is_finite c = c.if-is_finite.false ∙ fits_not _ _ (sym c.is_finite.ensures ∙ c.if-is_finite.false)
