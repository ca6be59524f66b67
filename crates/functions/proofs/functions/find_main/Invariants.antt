-- The first function named `main` is what the definition finds: what was asked equals what is left from the place at hand on.
-- The laws of the search at each turn, at a hit and at the end. Assumes nothing.
use Rattle.functions.proofs.Turns.{MainLeft}
use Rattle.functions.proofs.functions.find_main.Given as goal

abbrev pub invariant-loop-j : goal.invariant-loop-j
invariant-loop-j l = MainLeft l.tree l.text l.j
