-- A constant of the expected form. Each answer is a case of `FitsCases`. Assumes nothing.
use Rattle.types.proofs.FitsCases.{literal_int, literal_int_no, literal_float, literal_float_no, literal-rest}
use Rattle.types.proofs.fits.is_literal.Goals as goal

pub returns-in-1-eq1 : goal.returns-in-1-eq1
returns-in-1-eq1 c text = literal_int _ text _ _ _ _ c.form.ensures _ c.form-2.ensures c.in-1-eq1.is-0 c.in-1-eq1.is-1 _ (c.is_int_constant.ensures text)

pub returns-in-2-eq2 : goal.returns-in-2-eq2
returns-in-2-eq2 c text = literal_float _ text _ _ _ _ c.form.ensures _ c.form-2.ensures c.in-2-eq2.is-0 c.in-2-eq2.is-1 _ (c.is_float_constant.ensures text)

pub returns-in_default : goal.returns-in_default
returns-in_default c text = literal_int_no _ text _ _ _ _ c.form.ensures _ c.form-2.ensures c.in_default.is-0 c.in_default.is-1.1

pub returns-in_default-2 : goal.returns-in_default-2
returns-in_default-2 c text = literal_float_no _ text _ _ _ _ c.form.ensures _ c.form-2.ensures c.in_default.is-0 c.in_default.is-1.1

pub returns-in_default-3 : goal.returns-in_default-3
returns-in_default-3 c text = literal-rest _ text _ _ _ _ c.form.ensures _ c.form-2.ensures c.in_default.is-0.0.1 c.in_default.is-0.1
