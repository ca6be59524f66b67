-- An instruction more: a Copy.
-- What `with_one` makes is how it is written. Assumes nothing.
use Rattle.conversion.specs.Written.{encode_instr, fields_of}
use Rattle.ir.specs.Instructions.{one_bytes}
use Rattle.ir.proofs.structs.emit_copy.Goals as goal

pub returns : goal.returns
unfolding one_bytes encode_instr fields_of
returns c = c.push.ensures _ c.with_one.ensures
