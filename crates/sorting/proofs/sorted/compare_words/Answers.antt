-- Three words of two records compared, one after the other. By the laws of words that differ there, and of those that do not. Assumes nothing.
use Rattle.std.proofs.Common.{arith}
use Rattle.sorting.proofs.KeyLaws.{word_other, words_same}
use Rattle.sorting.proofs.sorted.compare_words.Goals as goal

pub returns-then-x-y : goal.returns-then-x-y
returns-then-x-y c = word_other _ _ _ c.loop-k.k _ _ c.loop-k-test.true c.loop-k.invariant c.word-x.ensures c.word-y.ensures c.if-x-y.true

pub returns : goal.returns
returns c = words_same _ _ _ (λ j h. c.loop-k.invariant j (omega arith))
