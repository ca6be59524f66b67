use borrow.Author.Rules.{rules}
use Rattle.records.specs.Words.{word_of}
use Rattle.records.proofs.words.word.Goals as goal

pub returns : goal.returns
unfolding word_of
returns c = search rules
