-- The digest of a text with `$...` behind it.
-- Four bytes more. Assumes nothing.
use Rattle.expressions.proofs.PrefixLaws.{marked-rolled}
use Rattle.expressions.proofs.exact.marked_digest.Goals as goal

pub returns : goal.returns
returns c = marked-rolled _ _ _ _ _ c.roll_byte.ensures.0 c.roll_byte-2.ensures.0 c.roll_byte-3.ensures.0 c.roll_byte-4.ensures.0
