-- The first value of a list of arguments goes to the parameter beside it, where every type before it took one.
-- By the laws of the walk past a type and of its two ends, and a number that falls with each cell. Assumes nothing.
use Rattle.syntax.proofs.Lists.{left}
use Rattle.statements.proofs.PositionLaws.{Walked}
use Rattle.statements.proofs.fits.first_value.Given as goal

abbrev pub invariant-loop-cell : goal.invariant-loop-cell
invariant-loop-cell l = Walked l.tree l.text l.argument l.parameter l.cell l.beside

abbrev pub decreases-loop-cell : goal.decreases-loop-cell
decreases-loop-cell l = left l.cell
