-- A variable is cast if its type and the place's are Floats that differ, and stays as it is if not.
-- By the three tests of the definition. Assumes nothing.
use Rattle.statements.proofs.FitLaws.{variable-cast, variable-stays}
use Rattle.statements.proofs.fits.fit_variable.Goals as goal

pub returns-then-floats-ty : goal.returns-then-floats-ty
returns-then-floats-ty c = λ text. variable-cast _ text _ _ c.form.ensures _ _ c.form-2.ensures c.if-floats-ty.true (c.cast_operand.ensures _ c.requires.2)

pub returns : goal.returns
returns c = λ text. variable-stays _ text _ _ c.form.ensures _ _ c.form-2.ensures c.if-floats-ty.false c.requires.3 c.requires.0.room
