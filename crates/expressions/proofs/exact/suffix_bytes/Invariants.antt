-- The sum is the bytes of all suffixes, and small.
-- The loop keeps that the sum so far and what the cells left have make up the whole. Assumes nothing.
use Rattle.syntax.proofs.Lists.{left}
use Rattle.expressions.proofs.SuffixLaws.{Summed}
use Rattle.expressions.proofs.exact.suffix_bytes.Given as goal

abbrev pub invariant-loop-cell : goal.invariant-loop-cell
invariant-loop-cell l = Summed l.tree l.text l.scratch l.first l.n l.cell

abbrev pub decreases-loop-cell : goal.decreases-loop-cell
decreases-loop-cell l = left l.cell
