-- Each operand is fitted as its constructor says.
-- What the functions for one constructor owe, at the operand that is one. Assumes nothing.
use mathlib.Core.Path.{refl}
use native.Mathlib.Omega.{arith}
use Rattle.ir.proofs.AmountLaws.{less}
use Rattle.statements.proofs.FitLaws.{fitted_as, plain-fits, variable_in_lem}
use Rattle.statements.proofs.fits.fit_operand.Goals as goal

pub fit_variable-requires : goal.fit_variable-requires
fit_variable-requires c = (record { room = c.requires.room_for.0.room; affords = less c.requires.room_for.0.affords (omega arith) }, c.requires.room_for.1, c.requires.type_at.0, variable_in_lem _ _ _ c.in-Var.is c.requires.type_at.1)

pub returns-in-Var : goal.returns-in-Var
returns-in-Var c = λ text. fitted_as text _ _ _ c.in-Var.is (omega arith) (c.fit_variable.ensures text)

pub returns-in-Float : goal.returns-in-Float
returns-in-Float c = λ text. fitted_as text _ _ _ c.in-Float.is (omega arith) (c.fit_float.ensures text)

pub returns-in-Int : goal.returns-in-Int
returns-in-Int c = λ text. fitted_as text _ _ _ c.in-Int.is (omega arith) (c.fit_int.ensures c.args.k.now text _ c.in-Int.field-1 c.in-Int.field-2 refl c.requires.room_for.0.room)

pub returns-in-Bool : goal.returns-in-Bool
returns-in-Bool c = λ text. plain-fits text _ _ c.requires.room_for.0.room c.in-Bool.is
