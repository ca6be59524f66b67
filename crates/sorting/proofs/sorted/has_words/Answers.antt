-- A record is told apart by its words, if it is a type and no Custom.
-- By the law of what the code tests, over what the calls ensure. Assumes nothing.
use Rattle.sorting.proofs.KeyLaws.{words-told}
use Rattle.sorting.proofs.sorted.has_words.Goals as goal

pub returns : goal.returns
returns c = words-told _ _ _ _ c.kind.ensures c.detail.ensures
