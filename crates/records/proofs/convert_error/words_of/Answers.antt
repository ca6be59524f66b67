-- The four words of a refusal, from what `number` and `span_word` ensure. Assumes nothing.
use Rattle.records.specs.Answer.{words_of}
use Rattle.records.proofs.convert_error.words_of.Goals as goal

pub returns : goal.returns
unfolding words_of
returns c = cc
