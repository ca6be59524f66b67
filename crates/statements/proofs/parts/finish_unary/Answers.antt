-- The operator goes into a new variable.
-- A variable and an instruction in a row. Assumes nothing.
use Rattle.statements.proofs.AroundLaws.{unary-adds, variable_type_lem}
use native.Mathlib.Omega.{arith}
use Rattle.statements.proofs.parts.finish_unary.Goals as goal

pub returns : goal.returns
returns c = λ tree t. unary-adds (omega arith) c.new_var-dest.ensures (omega arith) c.emit_unary.ensures (variable_type_lem c.new_var-dest.ensures.typed t)
