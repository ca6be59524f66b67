-- The zero of a Float: its float, and then the copy.
-- By the law of both steps in a row. Assumes nothing.
use native.Mathlib.Omega.{arith}
use Rattle.statements.proofs.DeclareLaws.{zero_float-adds}
use Rattle.statements.proofs.statements.zero_float.Goals as goal

pub returns : goal.returns
returns c = zero_float-adds _ _ c.float_entry.ensures (omega arith) c.float_id-zero.ensures (omega arith) c.emit_copy.ensures
