-- An operand, fitted to the variable's type and copied into it.
-- The operand fitted, and then an instruction. Assumes nothing.
use mathlib.Core.List.{[]}
use native.Mathlib.Omega.{arith}
use Rattle.syntax.specs.Decode.{program}
use Rattle.statements.proofs.InitLaws.{copy-adds}
use Rattle.statements.proofs.statements.copy_fitted.Goals as goal

pub emit_copy-requires : goal.emit_copy-requires
emit_copy-requires c = ((c.fit_operand-fitted.ensures []).adds.next.room, omega (arith, c.requires.0.affords, (c.fit_operand-fitted.ensures []).adds.spent))

pub returns : goal.returns
returns c = λ text. copy-adds (program _ text) c.args.v c.args.src (c.fit_operand-fitted.ensures text) (omega (arith, c.arena-2-1.given)) c.emit_copy.ensures
