-- Between the sides of And.
-- A copy and a jump in a row. Assumes nothing.
use Rattle.statements.proofs.AroundLaws.{and-adds}
use native.Mathlib.Omega.{arith}
use Rattle.statements.proofs.parts.join_and.Goals as goal

pub returns : goal.returns
returns c = and-adds _ (omega arith) c.emit_copy.ensures c.jump_if_not.ensures
