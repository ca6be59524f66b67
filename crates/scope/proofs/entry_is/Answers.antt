-- Whether an open name is said by two words.
-- By what `load` ensures of its words. Assumes nothing.
use Rattle.scope.specs.Open.{words_are}
use Rattle.scope.proofs.entry_is.Goals as goal

pub returns : goal.returns
unfolding words_are
returns c = cc
