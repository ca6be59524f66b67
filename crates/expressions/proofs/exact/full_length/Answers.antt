-- The verb's length and its suffixes' bytes are the whole name's length.
-- All suffixes are the first `count` of them. Assumes nothing.
use Rattle.expressions.proofs.ExactLaws.{full_is}
use Rattle.expressions.proofs.exact.full_length.Goals as goal

pub returns : goal.returns
returns c = full_is _ _ _ _ _ c.requires c.suffix_bytes.ensures.0
