-- The scope with which the body of a function begins: its parameters, one turn for each.
-- The invariant: what was asked equals what is left of the parameters, from the scope so far; the measure is the cell's number. Assumes nothing.
use Rattle.syntax.proofs.Lists.{left}
use Rattle.functions.proofs.ParameterLaws.{Turn}
use Rattle.functions.proofs.parameters.declare_parameters.Given as goal

abbrev pub invariant-loop-cell : goal.invariant-loop-cell
invariant-loop-cell l = Turn l.tree l.text l.f l.initial.scratch l.scratch l.cell l.scope

abbrev pub decreases-loop-cell : goal.decreases-loop-cell
decreases-loop-cell l = left l.cell
