-- All functions are converted one after the other: those done stand in the arena, and what was asked equals what is left from the place at hand on.
-- The laws of the loop: the start, one function more, a refusal, the end. Assumes nothing.
use mathlib.Core.Path.{refl, ap, ◌∙◌}
use native.Mathlib.Omega.{arith}
use Rattle.std.proofs.lemmas.Result.{err_from_is_err_and}
use Rattle.statements.specs.Lent.{finished_with}
use Rattle.converter.proofs.AllLaws.{all_start, one_afforded, all-next, all-refused, all_end}
use Rattle.converter.proofs.convert_all.Goals as goal

pub loop-j-init : goal.loop-j-init
loop-j-init c = (all_start _ _ _ _ _ _ c.requires.keyed.0 c.requires.keyed.1 c.requires.keyed.2 c.requires.turns.0 c.requires.turns.1, refl)

pub function_at-f-requires : goal.function_at-f-requires
function_at-f-requires c = let w = c.loop-j.invariant.0 in
    record { listed = w.keyed.listed; j_in_bounds = omega (arith, c.loop-j-test.true, w.counted) }

pub convert_func-requires : goal.convert_func-requires
convert_func-requires c = let w = c.loop-j.invariant.0 in
    record { keyed = (w.keyed, c.function_at-f.ensures.1); room = (w.room, w.records_are, one_afforded _ _ _ _ _ _ _ _ _ w (omega (arith, c.loop-j-test.true)) _ c.function_at-f.ensures.0); turns = w.turns }

pub returns-in_err-convert_func : goal.returns-in_err-convert_func
returns-in_err-convert_func c =
    let p = err_from_is_err_and c.from_residual.result c.from_residual.ensures.1 in
    rw (p.1, p.2) (all-refused _ _ _ _ _ _ _ _ _ c.loop-j.invariant.0 (omega (arith, c.loop-j-test.true)) _ c.function_at-f.ensures.0 _ _ _ c.convert_func.ensures.converts_function c.convert_func.ensures.visits _ (ap (finished_with _) c.in_err-convert_func.was))

pub loop-j-preserved : goal.loop-j-preserved
loop-j-preserved c = (all-next _ _ _ _ _ _ _ _ _ c.loop-j.invariant.0 (omega (arith, c.loop-j-test.true)) _ c.function_at-f.ensures.0 _ _ _ c.convert_func.ensures.converts_function c.convert_func.ensures.visits _ (ap (finished_with _) c.in_ok-convert_func.was), c.k-1.given ∙ c.loop-j.invariant.1)

pub returns : goal.returns
returns c = all_end _ _ _ _ _ _ _ _ _ c.loop-j.invariant.0 c.loop-j-test.false
