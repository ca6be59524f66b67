-- It fits, or the literal is out of range, or the error of the place.
-- By the two tests of the definition. Assumes nothing.
use mathlib.Core.Path.{sym, ◌∙◌}
use Rattle.statements.proofs.FitLaws.{check_done, check_range, check-place}
use Rattle.statements.proofs.fits.check_fits.Goals as goal

pub returns-then-fits : goal.returns-then-fits
returns-then-fits c = λ text F. check_done _ text F _ _ _ _ _ (sym (c.fits.ensures text) ∙ c.if-fits.true)

pub returns-then-range_error : goal.returns-then-range_error
returns-then-range_error c = λ text F. check_range _ text F _ _ _ _ _ (sym (c.fits.ensures text) ∙ c.if-fits.false) c.requires.0 (sym (c.range_error.ensures text) ∙ c.if-range_error.true) _ c.error_at.ensures

pub returns : goal.returns
returns c = λ text F. check-place _ text F _ _ _ _ _ (sym (c.fits.ensures text) ∙ c.if-fits.false) (sym (c.range_error.ensures text) ∙ c.if-range_error.false) _ c.error_at-2.ensures
