-- A float takes the mark of the place's Float type, and stays as it is at any other.
-- By the form of the type. Assumes nothing.
use Rattle.statements.proofs.FitLaws.{float_marked, float_stays}
use Rattle.statements.proofs.fits.fit_float.Goals as goal

pub returns-then-form-eq-FORM_FLOAT : goal.returns-then-form-eq-FORM_FLOAT
returns-then-form-eq-FORM_FLOAT c = λ text. float_marked _ text _ _ c.form.ensures _ _ c.if-form-eq-FORM_FLOAT.true c.is_short.ensures (c.refloat.ensures _)

pub returns : goal.returns
returns c = λ text. float_stays _ text _ _ c.form.ensures _ c.if-form-eq-FORM_FLOAT.false c.requires.0.room
