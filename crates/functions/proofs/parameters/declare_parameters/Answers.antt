-- The scope with which the body of a function begins: its parameters, one turn for each.
-- The invariant: what was asked equals what is left of the parameters, from the scope so far; the measure is the cell's number. Assumes nothing.
use native.Mathlib.Omega.{arith}
use mathlib.Core.Path.{refl}
use Rattle.std.proofs.lemmas.Result.{err_from_is_err_and}
use Rattle.syntax.proofs.Lists.{next_falls}
use Rattle.functions.proofs.ParameterLaws.{names-only, only-turns, start, turn_end, still_few, turn-refused, turn-next}
use Rattle.functions.proofs.parameters.declare_parameters.Goals as goal

pub loop-cell-init : goal.loop-cell-init
loop-cell-init c = start _ _ _ _ _ _ c.requires.keyed c.parameters_of-cell.ensures.0 c.parameters_of-cell.ensures.1 refl

pub declare_parameter-requires-clause-fact : goal.declare_parameter-requires-clause-fact
declare_parameter-requires-clause-fact c = (c.loop-cell-test.true, still_few _ _ _ _ _ _ _ c.loop-cell.invariant c.loop-cell-test.true)

pub returns-in_err-scope : goal.returns-in_err-scope
returns-in_err-scope c =
    let p = err_from_is_err_and c.from_residual.result c.from_residual.ensures.1 in
    let met = (turn-refused _ _ _ _ _ _ _ c.loop-cell.invariant c.loop-cell-test.true _ _ (rw c.in_err-scope.was at c.declare_parameter.ensures.one_more)).0 in
    rw (p.1, p.2) (record { parameters_meet = met; turns = only-turns (names-only met) })

pub next_cell-cell-requires : goal.next_cell-cell-requires
next_cell-cell-requires c = omega (arith, still_few _ _ _ _ _ _ _ c.loop-cell.invariant c.loop-cell-test.true)

pub loop-cell-smaller : goal.loop-cell-smaller
loop-cell-smaller c = next_falls _ _ c.loop-cell.invariant.ready.keyed.good _ _ _ c.loop-cell.invariant.cells c.loop-cell-test.true c.next_cell-cell.ensures

pub loop-cell-preserved : goal.loop-cell-preserved
loop-cell-preserved c = turn-next _ _ _ _ _ _ _ c.loop-cell.invariant c.loop-cell-test.true _ _ _ c.next_cell-cell.ensures (rw c.in_ok-scope.was at c.declare_parameter.ensures.one_more)

pub returns : goal.returns
returns c = let met = turn_end _ _ _ _ _ _ _ c.loop-cell.invariant c.loop-cell-test.false in
    record { parameters_meet = met; turns = only-turns (names-only met) }
