-- `parameter_variables` meets its contract: a variable for each parameter, one turn for each.
-- The invariant: what is left makes, with what was added, the whole; the measure is the cell's number. Assumes nothing.
use Rattle.ir.specs.Counted.{counted}
use Rattle.syntax.proofs.Lists.{left}
use Rattle.functions.proofs.BodyLaws.{VarsLeft}
use Rattle.functions.proofs.bodies.parameter_variables.Given as goal

abbrev pub invariant-loop-cell : goal.invariant-loop-cell
invariant-loop-cell l = VarsLeft l.tree l.text l.f (counted l.initial.k) l.initial.arena (counted l.k) l.arena l.cell

abbrev pub decreases-loop-cell : goal.decreases-loop-cell
decreases-loop-cell l = left l.cell
