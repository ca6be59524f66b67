-- Types that are not equal, by their forms. Each answer is a case of `FitsCases`. Assumes nothing.
use native.Mathlib.Omega.{arith}
use Rattle.types.proofs.FitsCases.{into_int, into_int_no, into_float, into_float_no, into_address, into_null, into_rest, into_far}
use Rattle.types.proofs.ValueCases.{null_is}
use Rattle.types.proofs.fits.fits_into.Goals as goal

pub returns-in-1-eq1 : goal.returns-in-1-eq1
returns-in-1-eq1 c text = into_int _ text _ _ _ _ c.form.ensures _ c.form-2.ensures c.in-1-eq1.is-0 c.in-1-eq1.is-1 _ (c.int_constant_fits.ensures text)

pub returns-in-2-eq2 : goal.returns-in-2-eq2
returns-in-2-eq2 c text = into_float _ text _ _ _ _ c.form.ensures _ c.form-2.ensures c.in-2-eq2.is-0 c.in-2-eq2.is-1 _ (c.float_constant_fits.ensures text)

pub returns-in-6-eq6 : goal.returns-in-6-eq6
returns-in-6-eq6 c text = into_address _ text _ _ _ _ c.form.ensures _ c.form-2.ensures c.in-6-eq6.is-0 c.in-6-eq6.is-1 _ c.to_nothing.ensures

pub returns-in-9-eq6 : goal.returns-in-9-eq6
returns-in-9-eq6 c text = into_null _ text _ _ _ _ c.form.ensures _ c.form-2.ensures c.in-9-eq6.is-0 c.in-9-eq6.is-1 _ (null_is _ text _ _ c.kind.ensures c.requires.expr.expression)

pub returns-in_default : goal.returns-in_default
returns-in_default c text = into_int_no _ text _ _ _ _ c.form.ensures _ c.form-2.ensures c.in_default.is-0 c.in_default.is-1.1

pub returns-in_default-2 : goal.returns-in_default-2
returns-in_default-2 c text = into_float_no _ text _ _ _ _ c.form.ensures _ c.form-2.ensures c.in_default.is-0 c.in_default.is-1.1

pub returns-in_default-3 : goal.returns-in_default-3
returns-in_default-3 c text = into_far _ text _ _ _ _ c.form.ensures _ c.form-2.ensures (omega arith) (omega arith) c.in_default.is-1.1

pub returns-in_default-4 : goal.returns-in_default-4
returns-in_default-4 c text = into_far _ text _ _ _ _ c.form.ensures _ c.form-2.ensures (omega arith) (omega arith) c.in_default.is-1.1

pub returns-in_default-5 : goal.returns-in_default-5
returns-in_default-5 c text = into_rest _ text _ _ _ _ c.form.ensures _ c.form-2.ensures c.in_default.is-0.0.0.0.1 c.in_default.is-0.0.0.1 c.in_default.is-0.0.1 c.in_default.is-0.1 c.requires.fact.least c.requires.fact.most
