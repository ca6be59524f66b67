-- Whether the variable is below the bound, or the For ends.
-- An operand fitted, a variable, an instruction and a jump in a row. Assumes nothing.
use mathlib.Core.List.{[]}
use native.Mathlib.Omega.{arith}
use Rattle.syntax.specs.Decode.{program}
use Rattle.statements.proofs.HeadLaws.{test-adds}
use Rattle.statements.proofs.loops.test_bound.Goals as goal

pub new_var-cond-requires : goal.new_var-cond-requires
new_var-cond-requires c = ((c.fit_operand-bound.ensures []).adds.next.room, omega (arith, c.requires.0.affords, (c.fit_operand-bound.ensures []).adds.spent))

pub emit_binary-requires : goal.emit_binary-requires
emit_binary-requires c = (c.new_var-cond.ensures.next.room, omega (arith, c.requires.0.affords, (c.fit_operand-bound.ensures []).adds.spent, c.new_var-cond.ensures.spent))

pub jump_if_not-requires : goal.jump_if_not-requires
jump_if_not-requires c = (record { room = c.emit_binary.ensures.next.room; affords = omega (arith, c.requires.0.affords, (c.fit_operand-bound.ensures []).adds.spent, c.new_var-cond.ensures.spent, c.emit_binary.ensures.spent) }, omega (arith, c.requires.1, (c.fit_operand-bound.ensures []).adds.spent, c.new_var-cond.ensures.spent, c.emit_binary.ensures.spent))

pub returns : goal.returns
returns c = λ text. test-adds (program _ text) _ c.args.until (c.fit_operand-bound.ensures text) (omega (arith, c.arena-2-1.given)) c.new_var-cond.ensures (omega (arith, c.arena-3-1.given)) c.emit_binary.ensures c.jump_if_not.ensures
