-- Eight bytes are the same exactly if both words are. By the law of two parts. Assumes nothing.
use Rattle.std.proofs.Common.{refl}
use Rattle.records.proofs.TextLaws.{same-joined}
use Rattle.records.proofs.texts.same_eight.Goals as goal

pub returns : goal.returns
returns c = same-joined _ _ _ _ 4 4 8 _ _ refl c.same_word.ensures c.same_word-2.ensures
