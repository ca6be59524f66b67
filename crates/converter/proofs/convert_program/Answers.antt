-- A good tree is converted as the definition converts its program: the functions by key, `main`, then each function, once all types are forgotten.
-- The laws of the three steps; a refusal of one is the definition's. Assumes nothing.
use mathlib.Core.Path.{◌∙◌}
use native.Mathlib.Omega.{arith}
use Rattle.std.proofs.lemmas.Result.{err_from_is_err_and}
use Rattle.converter.proofs.AllLaws.{forgets_keyed, forgets_turns, keys-done, listed-room, tree_unkeyed, tree_mainless, tree_all, room-numbered, tree_numbered}
use Rattle.converter.proofs.convert_program.Goals as goal

pub check_main-requires : goal.check_main-requires
check_main-requires c = let made = keys-done _ _ _ _ _ c.get_all_functions.ensures _ c.in_ok-count.was in
    record { good = c.requires.good.0; listed = (made.0.listed, made.1) }

pub chain_functions-requires : goal.chain_functions-requires
chain_functions-requires c = let made = keys-done _ _ _ _ _ c.get_all_functions.ensures _ c.in_ok-count.was in
    (made.0, made.1)

pub forget-requires : goal.forget-requires
forget-requires c = let room = listed-room _ _ _ _ _ c.get_all_functions.ensures c.requires.good.0 (room-numbered c.number_texts.ensures.1 c.requires.good.2) in
    omega arith

pub convert_all-requires : goal.convert_all-requires
convert_all-requires c = let counted = (keys-done _ _ _ _ _ c.get_all_functions.ensures _ c.in_ok-count.was).1 in
    record { keyed = (forgets_keyed _ _ _ c.forget.ensures _ c.chain_functions.ensures.keyed, counted, c.requires.good.1); turns = (forgets_turns _ _ _ c.forget.ensures c.requires.good.3, c.requires.k_value) }

pub returns-in_err-count : goal.returns-in_err-count
returns-in_err-count c =
    let p = err_from_is_err_and c.from_residual.result c.from_residual.ensures.1 in
    let numbered = c.number_texts.ensures.1 in
    rw (p.1, p.2) (tree_numbered numbered
    (tree_unkeyed _ _ _ _ _ c.get_all_functions.ensures c.requires.good.0 (room-numbered numbered c.requires.good.2) _ _ _ c.in_err-count.was))

pub returns-in_err-check_main : goal.returns-in_err-check_main
returns-in_err-check_main c =
    let p = err_from_is_err_and c.from_residual-in_err-check_main.result c.from_residual-in_err-check_main.ensures.1 in
    let numbered = c.number_texts.ensures.1 in
    rw (p.1, p.2) (tree_numbered numbered
    (tree_mainless _ _ _ _ _ c.get_all_functions.ensures c.requires.good.0 (room-numbered numbered c.requires.good.2) _ _ c.in_ok-count.was _ c.check_main.ensures _ _ c.in_err-check_main.was))

pub returns : goal.returns
returns c = let numbered = c.number_texts.ensures.1 in
    tree_numbered numbered
    (tree_all _ _ _ _ _ c.get_all_functions.ensures c.requires.good.0 (room-numbered numbered c.requires.good.2) _ _ c.in_ok-count.was _ c.check_main.ensures c.in_ok-check_main.was
    _ (c.forget.ensures.same_length ∙ omega arith) _ _ _ _ c.convert_all.ensures)
