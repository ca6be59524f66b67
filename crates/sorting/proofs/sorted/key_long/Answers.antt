-- How long the key of a record is: a form and three words, or its text.
-- By the laws of keys, over what the calls ensure. Assumes nothing.
use Rattle.sorting.proofs.KeyLaws.{words_long, text-long}
use Rattle.sorting.proofs.sorted.key_long.Goals as goal

pub returns-then-has_words : goal.returns-then-has_words
returns-then-has_words c = words_long _ _ _ _ c.has_words.ensures c.if-has_words.true

pub returns : goal.returns
returns c = text-long _ _ _ _ c.has_words.ensures _ c.if-has_words.false c.text_long.ensures
