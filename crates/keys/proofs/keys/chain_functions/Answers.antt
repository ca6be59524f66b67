-- The functions in chains, one of the list after the other. The invariant: those before the place at hand are chained, and no other bytes written.
-- By the laws of the heads that are cleared and of all functions passed. Assumes nothing.
use native.Mathlib.Omega.{arith}
use Rattle.keys.proofs.ChainLaws.{chaining_none, passing_none, chained-below, passing_more, all-chained}
use Rattle.keys.proofs.keys.chain_functions.Goals as goal

pub loop-j-init : goal.loop-j-init
loop-j-init c = passing_none _ _ _ (chaining_none _ _ _ _ _ c.requires.0 c.clear_run.ensures c.clear_run-2.ensures)

pub chain_function-requires : goal.chain_function-requires
chain_function-requires c = let found = c.function_at-f.ensures in
    (chained-below _ _ _ _ _ c.loop-j.invariant _ (omega (arith, c.loop-j-test.true, c.requires.1)) found.0, found.1)

pub loop-j-preserved : goal.loop-j-preserved
loop-j-preserved c = let found = c.function_at-f.ensures in
    passing_more _ _ _ _ _ _ _ c.loop-j.invariant (omega (arith, c.loop-j-test.true, c.requires.1)) found.0 found.1 c.chain_function.ensures.chaining c.chain_function.ensures.chain_keeps

pub returns-clause-keyed : goal.returns-clause-keyed
returns-clause-keyed c = all-chained _ _ _ _ _ c.loop-j.invariant (omega (arith, c.loop-j.auto.j-end, c.loop-j-test.false, c.requires.1))
