-- The words of an entry, compared one by one.
-- By what `load` ensures of each. Assumes nothing.
use Rattle.ir.specs.Search.{float_words_at}
use Rattle.ir.proofs.search.is_float_at.Goals as goal

pub returns : goal.returns
unfolding float_words_at
returns c = cc
