-- Whether a type is a number, by its form. Each answer is a case of `TypeCases`. Assumes nothing.
use Rattle.types.proofs.TypeCases.{number_form, number_none, number_other}
use native.Mathlib.Omega.{arith}
use Rattle.types.proofs.form.is_number.Goals as goal

pub returns-in-1 : goal.returns-in-1
returns-in-1 c text = number_form _ text _ _ c.form.ensures (omega arith) (omega arith)

pub returns-in_default : goal.returns-in_default
returns-in_default c text = search number_none

pub returns-in_default-2 : goal.returns-in_default-2
returns-in_default-2 c text = search number_other
