-- Four bytes copied are one word, written over the bytes at `at`. By the bytes of a word. Assumes nothing.
use Rattle.std.proofs.Common.{◌∙◌, refl, arith}
use Rattle.std.proofs.lemmas.Slice.{put_mid-paste}
use Rattle.laws.specs.Splice.{splice}
use Rattle.records.specs.Words.{word, bytes_of}
use Rattle.records.proofs.WordLaws.{word_bytes}
use Rattle.records.proofs.words.put_word.Goals as goal

pub returns : goal.returns
unfolding splice word bytes_of
returns c = put_mid-paste c.args.at _ c.args.buf.now _ (word c.args.v) 4 (c.copy_from_slice.ensures.after ∙ c.to_le_bytes.ensures ∙ word_bytes c.args.v) (omega arith) refl
