-- An Init of a known variable: its value is converted, then typed, checked and copied.
-- Each answer is the definition's, part by part. Assumes nothing.
use mathlib.Core.Path.{ap}
use Rattle.statements.proofs.PlainTurns.{typing_in, refused-stated}
use Rattle.statements.proofs.ConvertLaws.{converting_after}
use Rattle.statements.proofs.InitLaws.{value-expr, value_afforded, value_checks, copy-room, assign-stop, assign_untyped, assign_unfit, assign-done, assign-turn, assign_types_lem}
use Rattle.statements.specs.Lent.{converted}
use Rattle.statements.proofs.statements.assign_to.Goals as goal

pub convert_expr-requires : goal.convert_expr-requires
convert_expr-requires c = record { converting = (c.requires.converting.0, value_afforded c.requires.converting.0.ready.keyed.good c.requires.kind.0 c.reference-e.ensures c.requires.converting.1); expr = value-expr c.requires.converting.0.ready.keyed.good c.requires.kind.0 c.reference-e.ensures; in_turn = c.requires.in_turn }

pub get_type-requires : goal.get_type-requires
get_type-requires c = record { typing = typing_in (converting_after c.convert_expr.ensures.converts_as (ap (converted _) c.in-Ok.is) c.requires.converting.0) (assign-turn c.requires.converting.0 c.requires.converting.1 c.requires.kind.0 c.args.v c.reference-e.ensures c.convert_expr.ensures.converts_as (c.convert_expr.ensures.types _ _ (ap (converted _) c.in-Ok.is))); expr = value-expr c.requires.converting.0.ready.keyed.good c.requires.kind.0 c.reference-e.ensures }

pub check_fits-requires : goal.check_fits-requires
check_fits-requires c = value_checks c.requires.converting.0.ready.keyed.good c.requires.kind.0 c.reference-e.ensures c.get_type.ensures.typed c.in-Ok-get_type.is c.requires.kind.1

pub copy_fitted-requires : goal.copy_fitted-requires
copy_fitted-requires c = (copy-room c.requires.converting.0 c.requires.converting.1 c.requires.kind.0 c.args.v c.reference-e.ensures c.convert_expr.ensures.converts_as (ap (converted _) c.in-Ok.is), c.requires.kind.1, c.convert_expr.ensures.converts_as.operand _ _ (ap (converted _) c.in-Ok.is))

pub returns-in-Err : goal.returns-in-Err
returns-in-Err c = record { states_as = assign-stop c.requires.converting.0 c.requires.converting.1 c.requires.kind.0 c.args.v c.reference-e.ensures c.convert_expr.ensures.converts_as (ap (converted _) c.in-Err.is); types = refused-stated }

pub returns-in-Err-get_type : goal.returns-in-Err-get_type
returns-in-Err-get_type c = record { states_as = assign_untyped c.requires.converting.0 c.requires.converting.1 c.requires.kind.0 c.args.v c.reference-e.ensures c.convert_expr.ensures.converts_as (ap (converted _) c.in-Ok.is) c.get_type.ensures c.in-Err-get_type.is; types = refused-stated }

pub returns-in-Err-check_fits : goal.returns-in-Err-check_fits
returns-in-Err-check_fits c = record { states_as = assign_unfit c.requires.converting.0 c.requires.converting.1 c.requires.kind.0 c.args.v c.reference-e.ensures c.convert_expr.ensures.converts_as (ap (converted _) c.in-Ok.is) c.get_type.ensures c.in-Ok-get_type.is (c.check_fits.ensures _ _) c.in-Err-check_fits.is; types = refused-stated }

pub returns-in-Ok-check_fits : goal.returns-in-Ok-check_fits
returns-in-Ok-check_fits c = record { states_as = assign-done c.requires.converting.0 c.requires.converting.1 c.requires.kind.0 c.args.v c.reference-e.ensures c.convert_expr.ensures.converts_as (ap (converted _) c.in-Ok.is) c.get_type.ensures c.in-Ok-get_type.is (c.check_fits.ensures _ _) c.in-Ok-check_fits.is (c.copy_fitted.ensures _); types = λ _ _ _. assign_types_lem c.requires.converting.0 c.requires.converting.1 c.requires.kind.0 c.args.v c.reference-e.ensures c.convert_expr.ensures.converts_as (c.convert_expr.ensures.types _ _ (ap (converted _) c.in-Ok.is)) c.get_type.ensures c.in-Ok-get_type.is }
