use borrow.Author.Rules.{rules}
use Rattle.records.specs.Words.{kind_of, byte_at}
use Rattle.records.proofs.words.kind.Goals as goal

pub returns : goal.returns
unfolding kind_of byte_at
returns c = search rules
