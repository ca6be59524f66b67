-- The functions in chains, one of the list after the other. The invariant: those before the place at hand are chained, and no other bytes written.
-- By the laws of the heads that are cleared and of all functions passed. Assumes nothing.
use Rattle.keys.proofs.ChainLaws.{Passing}
use Rattle.keys.proofs.keys.chain_functions.Given as goal

abbrev pub invariant-loop-j : goal.invariant-loop-j
invariant-loop-j l = Passing l.tree l.text l.initial.scratch l.scratch l.j
