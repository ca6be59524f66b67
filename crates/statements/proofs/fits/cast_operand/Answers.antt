-- A new variable, then the cast into it.
-- By the law of both steps in a row. Assumes nothing.
use native.Mathlib.Omega.{arith}
use Rattle.statements.proofs.FitLaws.{cast_fits}
use Rattle.statements.proofs.fits.cast_operand.Goals as goal

pub returns : goal.returns
returns c = λ tree t. cast_fits _ _ _ (omega arith) c.new_var-dest.ensures c.emit_cast.ensures c.new_var-dest.ensures.typed t
