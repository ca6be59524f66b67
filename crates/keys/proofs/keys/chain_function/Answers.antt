-- A function is chained by its key and, where it is mangled, by its name.
-- By the laws of the chains, over what the calls ensure. Assumes nothing.
use mathlib.Core.Path.{sym, ◌∙◌}
use Rattle.keys.proofs.ChainLaws.{passed_plain}
use Rattle.keys.proofs.keys.chain_function.Goals as goal

pub returns-else-is_mangled-clause-chaining : goal.returns-else-is_mangled-clause-chaining
returns-else-is_mangled-clause-chaining c = passed_plain _ _ _ _ (sym c.is_mangled.ensures ∙ c.if-is_mangled.false) c.chain_key.ensures.chaining
