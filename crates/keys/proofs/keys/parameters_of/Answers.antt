-- The first cell of a function's parameters.
-- By the law of the list that its word opens. Assumes nothing.
use Rattle.keys.proofs.KeySearch.{params-read}
use Rattle.keys.proofs.keys.parameters_of.Goals as goal

pub returns : goal.returns
returns c = params-read _ _ c.requires.good _ c.requires.function_at c.reference.result c.reference.ensures
