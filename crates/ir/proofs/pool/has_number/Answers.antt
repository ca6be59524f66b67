-- Whether a string has a text of this number.
-- Beyond the strings there is none, below their count the number beside the string tells. Assumes nothing.
use mathlib.Core.Path.{◌∙◌}
use Rattle.ir.proofs.StringLaws.{number_beyond, number-within}
use Rattle.ir.proofs.pool.has_number.Goals as goal

pub returns-then-i-k : goal.returns-then-i-k
returns-then-i-k c = number_beyond _ _ _ _ c.if-i-k.true

pub returns : goal.returns
returns c = number-within _ _ _ _ c.if-i-k.false _ (c.index.ensures ∙ c.load.ensures)
