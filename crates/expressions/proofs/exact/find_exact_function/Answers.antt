-- The verb as a key, then the whole name, then the longest prefix with `$...`: the first that finds a function.
-- By the three answers one after the other. Assumes nothing.
use Rattle.std.proofs.Common.{rules}
use Rattle.expressions.proofs.ExactLaws.{first_found, exactly_is}
use Rattle.expressions.proofs.exact.find_exact_function.Goals as goal

pub returns : goal.returns
returns c = exactly_is _ _ _ _ c.requires.called _ (first_found _ _ c.or_else.result c.or_else-2.result _ _ (first_found _ _ c.by_name.result c.or_else.result _ _ c.by_name.ensures (search rules)) (search rules))
