-- A mark of a function: whether it is variadic.
-- By the law of the bit in its detail. Assumes nothing.
use Rattle.keys.proofs.KeySearch.{variadic-read}
use Rattle.keys.proofs.keys.is_variadic.Goals as goal

pub returns : goal.returns
returns c = variadic-read _ _ c.requires.good _ c.requires.function_at c.detail.result c.detail.ensures
