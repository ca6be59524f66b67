-- All functions are listed and entered by distinct keys, or the first that is not fine is refused: what was asked equals what is left from the place at hand on.
-- The laws of the turns: the start, one more, a refusal, the end. Assumes nothing.
use Rattle.functions.proofs.FunctionCases.{Entered}
use Rattle.functions.proofs.functions.get_all_functions.Given as goal

abbrev pub invariant-loop-j : goal.invariant-loop-j
invariant-loop-j l = Entered l.tree l.text l.initial.scratch l.scratch l.count l.j
