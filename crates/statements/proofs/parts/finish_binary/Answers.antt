-- Any other binary, behind its sides.
-- Two operands fitted, a variable and an instruction in a row. Assumes nothing.
use Rattle.statements.proofs.AroundLaws.{binary-adds, variable_type_lem}
use Rattle.syntax.specs.Decode.{program}
use mathlib.Core.List.{[]}
use native.Mathlib.Omega.{arith}
use Rattle.statements.proofs.parts.finish_binary.Goals as goal

pub fit_operand-b-requires : goal.fit_operand-b-requires
fit_operand-b-requires c = record { room_for = (record { room = (c.fit_operand-a.ensures []).adds.next.room; affords = omega (arith, c.requires.room_for.0.affords, (c.fit_operand-a.ensures []).adds.spent) }, c.requires.room_for.2); type_at = (c.requires.type_at.1, c.requires.operand_in.1) }

pub new_var-dest-requires : goal.new_var-dest-requires
new_var-dest-requires c = ((c.fit_operand-b.ensures []).adds.next.room, omega (arith, c.requires.room_for.0.affords, (c.fit_operand-a.ensures []).adds.spent, (c.fit_operand-b.ensures []).adds.spent))

pub emit_binary-requires : goal.emit_binary-requires
emit_binary-requires c = (c.new_var-dest.ensures.next.room, omega (arith, c.requires.room_for.0.affords, (c.fit_operand-a.ensures []).adds.spent, (c.fit_operand-b.ensures []).adds.spent, c.new_var-dest.ensures.spent))

pub returns : goal.returns
returns c = λ text. binary-adds (program _ text) _ c.args.left c.args.right (c.fit_operand-a.ensures text) (c.fit_operand-b.ensures text) (omega (arith, c.arena-3-1.given)) c.new_var-dest.ensures (omega (arith, c.arena-4-1.given)) c.emit_binary.ensures (variable_type_lem c.new_var-dest.ensures.typed c.requires.type_at.0)
