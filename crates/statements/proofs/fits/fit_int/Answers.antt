-- An Int takes the marks of the place's Int type, and stays as it is at any other.
-- By the form of the type. Assumes nothing.
use Rattle.statements.proofs.FitLaws.{int_marked, int_stays}
use Rattle.statements.proofs.fits.fit_int.Goals as goal

pub returns-then-form-eq-FORM_INT : goal.returns-then-form-eq-FORM_INT
returns-then-form-eq-FORM_INT c = λ k text l short unsigned e room. int_marked _ text _ _ c.form.ensures _ _ short unsigned e room _ _ c.if-form-eq-FORM_INT.true c.is_short.ensures c.is_unsigned.ensures

pub returns : goal.returns
returns c = λ k text l short unsigned e room. int_stays _ text _ _ c.form.ensures _ _ short unsigned e room c.if-form-eq-FORM_INT.false
