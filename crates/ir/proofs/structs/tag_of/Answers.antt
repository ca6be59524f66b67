-- An operand's tag, case by case.
-- Each arm by what its match says of the operand. Assumes nothing.
use Rattle.conversion.specs.Written.{tag, bool_number}
use Rattle.ir.proofs.structs.tag_of.Goals as goal

pub returns-in-Var : goal.returns-in-Var
unfolding tag bool_number
returns-in-Var c = rw c.in-Var.is

pub returns-in-true-true : goal.returns-in-true-true
unfolding tag bool_number
returns-in-true-true c = rw (c.in-Int.is, c.in-true-true.is-0, c.in-true-true.is-1)

pub returns-in-true-false : goal.returns-in-true-false
unfolding tag bool_number
returns-in-true-false c = rw (c.in-Int.is, c.in-true-false.is-0, c.in-true-false.is-1)

pub returns-in-false-true : goal.returns-in-false-true
unfolding tag bool_number
returns-in-false-true c = rw (c.in-Int.is, c.in-false-true.is-0, c.in-false-true.is-1)

pub returns-in-false-false : goal.returns-in-false-false
unfolding tag bool_number
returns-in-false-false c = rw (c.in-Int.is, c.in-false-false.is-0, c.in-false-false.is-1)

pub returns-in-Float : goal.returns-in-Float
unfolding tag bool_number
returns-in-Float c = rw c.in-Float.is

pub returns-in-Bool : goal.returns-in-Bool
unfolding tag bool_number
returns-in-Bool c = rw c.in-Bool.is

pub returns-in-DataAddress : goal.returns-in-DataAddress
unfolding tag bool_number
returns-in-DataAddress c = rw c.in-DataAddress.is

pub returns-in-Null : goal.returns-in-Null
unfolding tag bool_number
returns-in-Null c = rw c.in-Null.is
