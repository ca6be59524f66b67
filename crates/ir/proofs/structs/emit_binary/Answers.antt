-- An instruction more: a Binary.
-- What `with_two` makes is how it is written. Assumes nothing.
use mathlib.Core.Path.{◌∙◌}
use Rattle.conversion.specs.Written.{encode_instr, fields_of}
use Rattle.ir.specs.Instructions.{two_bytes}
use Rattle.ir.proofs.structs.emit_binary.Goals as goal

pub returns : goal.returns
unfolding two_bytes encode_instr fields_of
returns c = c.push.ensures _ (c.with_two.ensures ∙ rw c.binary_number.ensures)
