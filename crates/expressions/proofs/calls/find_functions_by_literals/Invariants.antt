-- The chain of the verb's number is walked. The invariant: those of all functions are those before the place at hand and behind them what was found so far.
-- By the laws of a walk along a chain of names; the measure is the place. Assumes nothing.
use Rattle.expressions.proofs.CallLaws.{NameWalk}
use Rattle.expressions.proofs.calls.find_functions_by_literals.Given as goal

abbrev pub invariant-loop-at : goal.invariant-loop-at
invariant-loop-at l = NameWalk l.tree l.text l.scratch l.call l.at l.found

abbrev pub decreases-loop-at : goal.decreases-loop-at
decreases-loop-at l = l.at
