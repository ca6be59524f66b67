use borrow.Author.Rules.{rules}
use Rattle.records.specs.Words.{detail_of, byte_at}
use Rattle.records.proofs.words.detail.Goals as goal

pub returns : goal.returns
unfolding detail_of byte_at
returns c = search rules
