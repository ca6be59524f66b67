-- The words of an entry, compared one by one.
-- By what `load` ensures of each. Assumes nothing.
use Rattle.ir.specs.Search.{label_words_at}
use Rattle.ir.proofs.search.is_label_at.Goals as goal

pub returns : goal.returns
unfolding label_words_at
returns c = cc
