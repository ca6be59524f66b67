-- An Arg for each value: what is left owes what the whole owes, and the rest has room.
-- By one turn, and the end. Assumes nothing.
use native.Mathlib.Omega.{arith}
use Rattle.statements.proofs.FitTurns.{emit-turn, emit_end}
use Rattle.statements.proofs.fits.emit_args.Goals as goal

pub loop-j-preserved : goal.loop-j-preserved
loop-j-preserved c = (emit-turn _ _ _ _ _ _ _ _ _ c.loop-j.invariant.0 c.loop-j-test.true _ c.operand_at-o.ensures _ _ (omega arith) c.emit_arg.ensures, omega (arith, c.loop-j.invariant.1, c.k-1.given))

pub returns : goal.returns
returns c = emit_end _ _ _ _ _ _ _ _ _ c.loop-j.invariant.0 (omega arith)
