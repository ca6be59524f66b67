-- A cast of the first value; without one it is refused.
-- By whether there is one. Assumes nothing.
use Rattle.statements.proofs.AroundLaws.{cast-none, cast_some}
use native.Mathlib.Omega.{arith}
use Rattle.statements.proofs.parts.cast_first.Goals as goal

pub returns-then-count-eq0 : goal.returns-then-count-eq0
returns-then-count-eq0 c = cast-none _ _ c.if-count-eq0.true c.error_at.ensures

pub returns : goal.returns
returns c = cast_some _ _ _ c.if-count-eq0.false c.operand_at-first.ensures (omega arith) c.emit_cast.ensures c.requires.e_bound.1
