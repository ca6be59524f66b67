-- The function with the longest prefix and `$...`: each prefix is looked for, and the last found is kept.
-- The invariant: what was asked is what is left from the cell at hand on, or else the best so far. Assumes nothing.
use Rattle.syntax.proofs.Lists.{left}
use Rattle.expressions.proofs.PrefixLaws.{Prefixed}
use Rattle.expressions.proofs.exact.by_prefix.Given as goal

abbrev pub invariant-loop-cell : goal.invariant-loop-cell
invariant-loop-cell l = Prefixed l.tree l.text l.scratch l.call l.best l.digest l.size l.cell l.k

abbrev pub decreases-loop-cell : goal.decreases-loop-cell
decreases-loop-cell l = left l.cell
