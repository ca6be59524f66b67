-- The zero value of a variable, by its type's form; a Custom has none.
-- By the law of each form. Assumes nothing.
use native.Mathlib.Omega.{arith}
use Rattle.statements.proofs.DeclareLaws.{zero_int, zero_float_lem, zero_array, zero_custom, zero-other}
use Rattle.statements.proofs.statements.zero_value.Goals as goal

pub returns-then-f-eq-FORM_INT : goal.returns-then-f-eq-FORM_INT
returns-then-f-eq-FORM_INT c = λ text F. zero_int _ text F _ _ _ c.form-f.ensures c.if-f-eq-FORM_INT.true c.is_short-short.ensures c.is_unsigned.ensures (omega arith) c.emit_copy.ensures

pub returns-then-f-eq-FORM_FLOAT : goal.returns-then-f-eq-FORM_FLOAT
returns-then-f-eq-FORM_FLOAT c = λ text F. zero_float_lem _ text F _ _ _ c.form-f.ensures c.if-f-eq-FORM_FLOAT.true c.is_short-short.ensures c.zero_float.ensures

pub returns-then-f-eq-FORM_ARRAY : goal.returns-then-f-eq-FORM_ARRAY
returns-then-f-eq-FORM_ARRAY c = λ text F. zero_array _ text F _ _ _ c.form-f.ensures c.if-f-eq-FORM_ARRAY.true (omega arith) c.emit_zero.ensures

pub returns-then-f-eq-FORM_CUSTOM : goal.returns-then-f-eq-FORM_CUSTOM
returns-then-f-eq-FORM_CUSTOM c = λ text F. zero_custom _ text F _ _ _ c.form-f.ensures c.if-f-eq-FORM_CUSTOM.true c.error_at.ensures

pub returns : goal.returns
returns c = λ text F. zero-other _ text F _ _ _ c.form-f.ensures (omega (arith, c.requires.1.least, c.form-f.ensures)) c.if-f-eq-FORM_INT.false c.if-f-eq-FORM_FLOAT.false c.if-f-eq-FORM_ARRAY.false c.if-f-eq-FORM_CUSTOM.false c.zero_operand.ensures (omega arith) c.emit_copy-2.ensures
