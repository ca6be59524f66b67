-- Behind the right side of an And or Or.
-- A copy and a label in a row. Assumes nothing.
use Rattle.statements.proofs.AroundLaws.{end_adds}
use native.Mathlib.Omega.{arith}
use Rattle.statements.proofs.parts.end_logic.Goals as goal

pub returns : goal.returns
returns c = λ tree t. end_adds _ (omega arith) c.emit_copy.ensures c.place_label.ensures t
