-- An instruction more: a Zero.
-- What `with_none` makes is how it is written. Assumes nothing.
use Rattle.conversion.specs.Written.{encode_instr, fields_of}
use Rattle.ir.specs.Instructions.{none_bytes}
use Rattle.ir.proofs.structs.emit_zero.Goals as goal

pub returns : goal.returns
unfolding none_bytes encode_instr fields_of
returns c = c.push.ensures _ c.with_none.ensures
