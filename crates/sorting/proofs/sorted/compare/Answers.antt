-- Two records compared: by their words, by their texts, or a text with words.
-- By the laws of keys, over what the calls ensure, and from each byte of the text being below 256. Assumes nothing.
use native.Mathlib.Omega.{arith}
use Rattle.sorting.proofs.KeyLaws.{both_words, one-words, texts-from, both-texts}
use Rattle.sorting.proofs.sorted.compare.Goals as goal

pub returns-then-i-j : goal.returns-then-i-j
returns-then-i-j c = both_words _ _ _ _ _ _ c.has_words-i.ensures c.has_words-j.ensures _ _ c.if-i-j.true c.compare_types.ensures

pub returns-then-i-j-2 : goal.returns-then-i-j-2
returns-then-i-j-2 c = one-words _ _ _ _ _ _ c.has_words-i.ensures c.has_words-j.ensures (λ k. omega (arith, c.shared_slice_known-2-1.given k)) c.if-i-j.false c.if-i-j-2.true

pub compare_texts-requires : goal.compare_texts-requires
compare_texts-requires c = record { a_bound = c.requires.a_bound; from_bound = texts-from _ _ _ _ _ _ c.has_words-i.ensures c.has_words-j.ensures c.if-i-j-2.false _ c.requires.from_bound }

pub returns : goal.returns
returns c = both-texts _ _ _ _ _ _ c.has_words-i.ensures c.has_words-j.ensures c.if-i-j-2.false _ _ c.compare_texts.ensures
