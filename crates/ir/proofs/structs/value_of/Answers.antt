-- An operand's value, case by case; an Int's is its bits again.
-- Each arm by what its match says of the operand. Assumes nothing.
use mathlib.Core.Path.{◌≡◌, refl, sym}
use mathlib.Core.Bool.{Bool, true, false}
use mir.Syntax.{w64}
use mir.Val.{bool_byte}
use mir.Facts.{of_z-to_z}
use Rattle.conversion.specs.Written.{operand_value, bool_number}
use borrow.Author.Rules.{rules}
use Rattle.ir.proofs.structs.value_of.Goals as goal

byte_is : (b : Bool) → bool_byte b ≡ bool_number b
unfolding bool_number
byte_is true = refl
byte_is false = refl

pub returns-in-Var : goal.returns-in-Var
unfolding operand_value bool_number
returns-in-Var c = rw c.in-Var.is

pub returns-in-Int : goal.returns-in-Int
unfolding operand_value bool_number
returns-in-Int c = rw c.in-Int.is (sym (of_z-to_z {w = w64} (search rules)))

pub returns-in-Float : goal.returns-in-Float
unfolding operand_value bool_number
returns-in-Float c = rw c.in-Float.is

pub returns-in-Bool : goal.returns-in-Bool
unfolding operand_value bool_number
returns-in-Bool c = rw c.in-Bool.is (byte_is c.in-Bool.b)

pub returns-in-DataAddress : goal.returns-in-DataAddress
unfolding operand_value bool_number
returns-in-DataAddress c = rw c.in-DataAddress.is

pub returns-in-Null : goal.returns-in-Null
unfolding operand_value bool_number
returns-in-Null c = rw c.in-Null.is
