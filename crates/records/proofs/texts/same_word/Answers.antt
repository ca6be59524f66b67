-- Four bytes are the same exactly if their words are. By the law of four bytes, each below 256. Assumes nothing.
use Rattle.std.proofs.Common.{arith}
use Rattle.records.specs.Words.{byte_at}
use Rattle.records.proofs.EightLaws.{four_same}
use Rattle.records.proofs.texts.same_word.Goals as goal

pub returns : goal.returns
unfolding byte_at
returns c = rw (c.load.ensures, c.load-2.ensures) (four_same _ _ _ _ c.requires.0 c.requires.1 (λ k. omega (arith, c.type_inv.s k)) (λ k. omega (arith, c.type_inv.t k)))
