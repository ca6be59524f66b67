-- An instruction more: a Unary.
-- What `with_one` makes is how it is written. Assumes nothing.
use mathlib.Core.Path.{◌∙◌}
use Rattle.conversion.specs.Written.{encode_instr, fields_of}
use Rattle.ir.specs.Instructions.{one_bytes}
use Rattle.ir.proofs.structs.emit_unary.Goals as goal

pub returns : goal.returns
unfolding one_bytes encode_instr fields_of
returns c = c.push.ensures _ (c.with_one.ensures ∙ rw c.unary_number.ensures)
