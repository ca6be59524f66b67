-- The digest of the verb with all suffixes. The invariant: what was asked is the digest at hand, gone on over the cells that are left.
-- By the laws of that digest, cell by cell. Assumes nothing.
use Rattle.syntax.proofs.Lists.{left}
use Rattle.expressions.proofs.NameDigest.{Rolled}
use Rattle.expressions.proofs.exact.full_digest.Given as goal

abbrev pub invariant-loop-cell : goal.invariant-loop-cell
invariant-loop-cell l = Rolled l.tree l.text l.scratch l.initial.d l.initial.cell l.d l.cell

abbrev pub decreases-loop-cell : goal.decreases-loop-cell
decreases-loop-cell l = left l.cell
