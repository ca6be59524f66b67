-- `accepts_unary` meets its contract: the test of each operator is the definition's.
-- By the operator's number; any other number than 1 and 2 stands for Neg. Assumes nothing.
use native.Mathlib.Omega.{arith}
use Rattle.expressions.proofs.OperandLaws.{unary_int, unary_bool, unary_number_lem}
use Rattle.expressions.proofs.operands.accepts_unary.Goals as goal

pub returns-in-1 : goal.returns-in-1
returns-in-1 c = λ text. unary_int _ text _ _ c.in-1.is _ c.form.ensures

pub returns-in-2 : goal.returns-in-2
returns-in-2 c = λ text. unary_bool _ text _ _ c.in-2.is

pub returns-in_default : goal.returns-in_default
returns-in_default c = λ text. unary_number_lem _ text _ _ (λ e. omega arith) (λ e. omega arith) _ c.is_number.ensures
