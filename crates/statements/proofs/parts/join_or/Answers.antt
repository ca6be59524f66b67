-- Between the sides of Or.
-- A copy, two jumps and a label in a row. Assumes nothing.
use Rattle.statements.proofs.AroundLaws.{or-adds}
use native.Mathlib.Omega.{arith}
use Rattle.statements.proofs.parts.join_or.Goals as goal

pub returns : goal.returns
returns c = or-adds _ (omega arith) c.emit_copy.ensures c.jump_if_not.ensures c.jump.ensures c.place_label.ensures
