-- The eight words of an instruction are its 32 bytes.
-- By the law of two runs, and the words of the fields. Assumes nothing.
use Rattle.ir.proofs.FieldLaws.{put_fields}
use borrow.Author.Rules.{rules}
use Rattle.ir.proofs.structs.put_fields.Goals as goal

pub returns : goal.returns
returns c = put_fields _ _ _ _ _ _ _ _ _ _ _ _ _ c.requires c.number_of_kind.ensures (search rules) c.number_of_tag.ensures c.number_of_tag-2.ensures c.low.ensures c.high.ensures.0 c.low-2.ensures c.high-2.ensures.0 c.put_four.ensures c.put_four-2.ensures
