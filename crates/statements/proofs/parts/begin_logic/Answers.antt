-- The variable of an And or Or, and its two labels.
-- Three steps in a row. Assumes nothing.
use Rattle.statements.proofs.AroundLaws.{begin_adds}
use native.Mathlib.Omega.{arith}
use Rattle.statements.proofs.parts.begin_logic.Goals as goal

pub returns : goal.returns
returns c = record { adds = begin_adds (omega arith) c.new_var-dest.ensures (omega arith) c.label.ensures (omega arith) c.label-2.ensures; typed = c.new_var-dest.ensures.typed }
