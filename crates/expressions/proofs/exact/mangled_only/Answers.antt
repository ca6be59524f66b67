-- The function where it is mangled, and else none.
-- By whether it is. Assumes nothing.
use Rattle.expressions.proofs.ExactLaws.{mangled_then}
use Rattle.expressions.proofs.exact.mangled_only.Goals as goal

pub returns : goal.returns
returns c = rw c.then_some.ensures (mangled_then _ _ _ _ c.requires.function_at c.is_mangled.ensures)
