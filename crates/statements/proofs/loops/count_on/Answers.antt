-- Where the For counts on.
-- A jump, two labels and an instruction in a row. Assumes nothing.
use native.Mathlib.Omega.{arith}
use Rattle.statements.proofs.HeadLaws.{count-adds}
use Rattle.statements.proofs.loops.count_on.Goals as goal

pub returns : goal.returns
returns c = count-adds _ c.is_short.ensures c.is_unsigned.ensures c.jump.ensures c.place_label.ensures (omega (arith, c.arena-3-1.given)) c.emit_binary.ensures c.place_label-2.ensures
