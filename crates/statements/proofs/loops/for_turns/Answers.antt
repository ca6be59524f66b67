-- A For from its variable on: the variable is an Int, both bounds are checked, then the first is copied and the second tested.
-- By the form of the variable's type and what each part owes, one after the other. Assumes nothing.
use Rattle.std.proofs.lemmas.Result.{err_from_is_err_and}
use mathlib.Core.Path.{ap}
use Rattle.statements.proofs.HeadLaws.{refused-finished}
use native.Mathlib.Omega.{arith}
use Rattle.statements.proofs.StayLaws.{names_refl, names_then, frame-names}
use Rattle.statements.proofs.StatedLaws.{finishes_most, finished-next, finished_converting}
use Rattle.statements.proofs.ForLaws.{turns-not_int, checks_converting, turns_bounds_not, turns_begin_not, turns_then, checked_in_turn, test-in_turn, turns-typed}
use Rattle.statements.specs.Lent.{at, finished_with}
use Rattle.statements.proofs.loops.for_turns.Goals as goal

pub returns-then-form-ne-FORM_INT : goal.returns-then-form-ne-FORM_INT
returns-then-form-ne-FORM_INT c = record { turns_as = (turns-not_int _ _ c.requires.converting.0 c.form.ensures c.if-form-ne-FORM_INT.true c.error_at.ensures, names_refl _ _); types = refused-finished }

pub for_begin-requires : goal.for_begin-requires
for_begin-requires c = record { converting = (checks_converting c.requires.converting.0 (c.for_bounds.ensures.by_index_2 c.args.k.now), omega (arith, c.requires.converting.1)); kind = c.requires.kind; in_turn = checked_in_turn (at c.args.c c.args.k.now) c.requires.converting.0.ready.scoped (c.for_bounds.ensures.by_index_2 c.args.k.now) (c.for_bounds.ensures.types c.args.k.now) c.in_ok-for_bounds.was }

pub for_test-requires : goal.for_test-requires
for_test-requires c = record { converting = (finished_converting c.for_begin.ensures.bound_as.0 (ap (finished_with _) c.in_ok-for_begin.was) (checks_converting c.requires.converting.0 (c.for_bounds.ensures.by_index_2 c.args.k.now)), omega (arith, c.requires.converting.1, (finished-next c.for_begin.ensures.bound_as.0 (ap (finished_with _) c.in_ok-for_begin.was)).spent)); kind = c.requires.kind; in_turn = test-in_turn _ c.requires.converting.0 (c.for_bounds.ensures.by_index_2 c.args.k.now) c.for_begin.ensures.bound_as.0 c.for_begin.ensures.types (ap (finished_with _) c.in_ok-for_begin.was) }

pub returns-in_err-for_bounds : goal.returns-in_err-for_bounds
returns-in_err-for_bounds c = let p = err_from_is_err_and c.from_residual.result c.from_residual.ensures.1 in rw (p.1, p.2) (record { turns_as = (turns_bounds_not _ _ c.requires.converting.0 c.form.ensures c.if-form-ne-FORM_INT.false (c.for_bounds.ensures.by_index_2 c.args.k.now) c.in_err-for_bounds.was, frame-names (c.for_bounds.ensures.by_index_2 c.args.k.now).frame); types = refused-finished })

pub returns-in_err-for_begin : goal.returns-in_err-for_begin
returns-in_err-for_begin c = let p = err_from_is_err_and c.from_residual-in_err-for_begin.result c.from_residual-in_err-for_begin.ensures.1 in rw (p.1, p.2) (record { turns_as = (turns_begin_not _ _ c.requires.converting.0 c.form.ensures c.if-form-ne-FORM_INT.false (c.for_bounds.ensures.by_index_2 c.args.k.now) c.in_ok-for_bounds.was c.for_begin.ensures.bound_as.0 (ap (finished_with _) c.in_err-for_begin.was), names_then (frame-names (c.for_bounds.ensures.by_index_2 c.args.k.now).frame) c.for_begin.ensures.bound_as.1); types = refused-finished })

pub returns : goal.returns
returns c = record { turns_as = (finishes_most (omega arith) (turns_then _ _ c.requires.converting.0 c.form.ensures c.if-form-ne-FORM_INT.false (c.for_bounds.ensures.by_index_2 c.args.k.now) c.in_ok-for_bounds.was c.for_begin.ensures.bound_as.0 (ap (finished_with _) c.in_ok-for_begin.was) c.for_test.ensures.bound_as.0), names_then (names_then (frame-names (c.for_bounds.ensures.by_index_2 c.args.k.now).frame) c.for_begin.ensures.bound_as.1) c.for_test.ensures.bound_as.1); types = turns-typed _ c.requires.converting.0 (c.for_bounds.ensures.by_index_2 c.args.k.now) c.for_begin.ensures.bound_as.0 c.for_begin.ensures.types (ap (finished_with _) c.in_ok-for_begin.was) (c.for_bounds.ensures.types c.args.k.now) c.in_ok-for_bounds.was c.for_test.ensures.types }
