-- The fields of an instruction are its bytes.
-- By what each operand's part is. Assumes nothing.
use Rattle.conversion.specs.Written.{tag_of, operand_word, word, wide, bytes_of, encode_fields}
use Rattle.ir.specs.Instructions.{field_bytes, none_bytes, one_bytes, two_bytes}
use Rattle.ir.proofs.structs.with_none.Goals as goal

pub returns : goal.returns
unfolding tag_of operand_word word wide bytes_of field_bytes encode_fields none_bytes one_bytes two_bytes
returns c = rw (c.no_part.ensures.0, c.no_part.ensures.1, c.no_part-2.ensures.0, c.no_part-2.ensures.1)
