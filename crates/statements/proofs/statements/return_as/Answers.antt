-- A Return of a value whose type is known, in a function that returns a type.
-- The value is held against that type, converted, fitted to it and returned. Assumes nothing.
use mathlib.Core.Path.{ap}
use native.Mathlib.Omega.{arith}
use Rattle.types.proofs.FromGood.{is-type}
use Rattle.statements.proofs.PlainTurns.{refused-stated}
use Rattle.statements.proofs.ReturnLaws.{return-expr, value_afforded, value_room, fitted-room, return_unfit, return-stop, return-done, return-types}
use Rattle.statements.specs.Lent.{at, converted}
use Rattle.statements.proofs.statements.return_as.Goals as goal

pub check_fits-requires : goal.check_fits-requires
check_fits-requires c = (return-expr c.requires.converting.0.ready.keyed.good c.reference-e.ensures c.requires.kind.0, is-type _ _ c.requires.converting.0.ready.keyed.good _ c.requires.kind.1.below c.requires.kind.1.kind, is-type _ _ c.requires.converting.0.ready.keyed.good _ c.requires.kind.2.below c.requires.kind.2.kind, omega (arith, (return-expr c.requires.converting.0.ready.keyed.good c.reference-e.ensures c.requires.kind.0).inside, c.requires.converting.0.ready.keyed.good.few), omega (arith, c.requires.kind.0.below, c.requires.converting.0.ready.keyed.good.few))

pub convert_expr-requires : goal.convert_expr-requires
convert_expr-requires c = record { converting = (c.requires.converting.0, value_afforded c.requires.converting.0 c.requires.converting.1 c.requires.kind.0 c.reference-e.ensures); expr = return-expr c.requires.converting.0.ready.keyed.good c.reference-e.ensures c.requires.kind.0; in_turn = c.requires.in_turn }

pub fit_operand-fitted-requires : goal.fit_operand-fitted-requires
fit_operand-fitted-requires c = record { room_for = (value_room c.requires.converting.0 c.requires.converting.1 c.requires.kind.0 c.reference-e.ensures c.convert_expr.ensures.converts_as (ap (converted _) c.in-Ok-convert_expr.is), omega (arith, c.requires.kind.2.below, c.requires.converting.0.ready.keyed.good.few)); type_at = (c.requires.kind.2, c.convert_expr.ensures.converts_as.operand _ _ (ap (converted _) c.in-Ok-convert_expr.is)) }

pub emit_return-requires : goal.emit_return-requires
emit_return-requires c = fitted-room c.requires.converting.0 c.requires.converting.1 c.requires.kind.0 c.reference-e.ensures c.convert_expr.ensures.converts_as (ap (converted _) c.in-Ok-convert_expr.is) _ (c.fit_operand-fitted.ensures _)

pub returns-in-Err : goal.returns-in-Err
returns-in-Err c = record { states_as = return_unfit c.requires.converting.0 c.requires.converting.1 c.requires.kind.0 c.reference-e.ensures _ _ _ (c.check_fits.ensures _ _) c.in-Err.is; types = refused-stated }

pub returns-in-Err-convert_expr : goal.returns-in-Err-convert_expr
returns-in-Err-convert_expr c = record { states_as = return-stop c.requires.converting.0 c.requires.converting.1 c.requires.kind.0 c.reference-e.ensures _ _ _ (c.check_fits.ensures _ _) c.in-Ok.is c.convert_expr.ensures.converts_as (ap (converted _) c.in-Err-convert_expr.is); types = refused-stated }

pub returns-in-Ok-convert_expr : goal.returns-in-Ok-convert_expr
returns-in-Ok-convert_expr c = record { states_as = return-done c.requires.converting.0 c.requires.converting.1 c.requires.kind.0 c.reference-e.ensures _ _ _ (c.check_fits.ensures _ _) c.in-Ok.is c.convert_expr.ensures.converts_as (ap (converted _) c.in-Ok-convert_expr.is) (c.fit_operand-fitted.ensures _) (omega arith) c.emit_return.ensures; types = λ _ _ _. return-types (at c.args.c c.args.k.now) c.args.r c.reference-e.ensures (c.convert_expr.ensures.types _ _ (ap (converted _) c.in-Ok-convert_expr.is)) }
