-- The class of a type, by its form, is the one that the definition gives.
-- Each answer is a case of `TypeCases`. Assumes nothing.
use Rattle.types.proofs.TypeCases.{class_short, class_long, class_address, class_rest, class_none, class_scalar, class_null}
use native.Mathlib.Omega.{arith}
use Rattle.types.proofs.casts.cast_class.Goals as goal

pub returns-in-1 : goal.returns-in-1
returns-in-1 c text = search class_long

pub returns-in-6 : goal.returns-in-6
returns-in-6 c text = search class_address

pub returns-in-7 : goal.returns-in-7
returns-in-7 c text = search (class_rest, arith)

pub returns-in_default : goal.returns-in_default
returns-in_default c text = search class_none

pub returns-in_default-2 : goal.returns-in_default-2
returns-in_default-2 c text = search class_null

pub returns-in-1-2 : goal.returns-in-1-2
returns-in-1-2 c text = search class_short

pub returns-in-1-2-2 : goal.returns-in-1-2-2
returns-in-1-2-2 c text = class_scalar _ text _ _ c.form.ensures (omega arith) (omega arith)
