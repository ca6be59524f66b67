-- All functions are listed and entered by distinct keys, or the first that is not fine is refused: what was asked equals what is left from the place at hand on.
-- The laws of the turns: the start, one more, a refusal, the end. Assumes nothing.
use Rattle.std.proofs.lemmas.Result.{err_from_is_err_and}
use Rattle.functions.proofs.FunctionCases.{start_keeps, entered_start, entered-next, entered-refused, entered-done}
use Rattle.functions.proofs.functions.get_all_functions.Goals as goal

pub loop-j-init : goal.loop-j-init
loop-j-init c = entered_start _ _ _ _ c.requires.good.0 c.requires.tree_in_bounds _ _ c.list_functions-count.ensures c.clear_keys.ensures c.requires.good.1

pub returns-in_err-check_function : goal.returns-in_err-check_function
returns-in_err-check_function c =
    let p = err_from_is_err_and c.from_residual.result c.from_residual.ensures.1 in
    let clears = c.clear_keys.ensures in
    let lists = c.list_functions-count.ensures in
    rw (p.1, p.2) (entered-refused _ _ _ _ c.requires.good.0 _ _ c.loop-j.invariant c.loop-j-test.true _ c.check_function.ensures _ (start_keeps _ _ _ _ c.requires.good.0 c.requires.tree_in_bounds _ _ lists clears) _ c.in_err-check_function.was)

pub loop-j-preserved : goal.loop-j-preserved
loop-j-preserved c = entered-next _ _ _ _ c.requires.good.0 _ _ c.loop-j.invariant c.loop-j-test.true _ c.check_function.ensures c.in_ok-check_function.was _ c.function_at-added.ensures _ c.enter_key.ensures

pub returns : goal.returns
returns c = let clears = c.clear_keys.ensures in
    let lists = c.list_functions-count.ensures in
    entered-done _ _ _ _ c.requires.good.0 _ (start_keeps _ _ _ _ c.requires.good.0 c.requires.tree_in_bounds _ _ lists clears) _ _ c.loop-j.invariant c.loop-j-test.false
