-- A mark of a function: whether it is external.
-- By the law of the bit in its detail. Assumes nothing.
use Rattle.keys.proofs.KeySearch.{external-read}
use Rattle.keys.proofs.keys.is_external.Goals as goal

pub returns : goal.returns
returns c = external-read _ _ c.requires.good _ c.requires.function_at c.detail.result c.detail.ensures
