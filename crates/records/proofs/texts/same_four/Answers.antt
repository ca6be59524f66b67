-- Four bytes are the same exactly if each is.
-- By the law of four bytes, from what is read. Assumes nothing.
use native.Mathlib.Omega.{arith}
use Rattle.records.specs.Words.{byte_at}
use Rattle.records.proofs.EightLaws.{four_singly}
use Rattle.records.proofs.texts.same_four.Goals as goal

pub returns : goal.returns
unfolding byte_at
returns c = four_singly _ _ _ _ (omega arith) (omega arith)
