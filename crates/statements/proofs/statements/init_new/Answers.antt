-- An Init of a new name: its value is typed, then converted, and then the name is declared.
-- Each answer is the definition's, part by part. Assumes nothing.
use mathlib.Core.Path.{ap}
use Rattle.statements.proofs.PlainTurns.{typing_in, refused-stated}
use Rattle.statements.proofs.TypedLaws.{typed-in_turn}
use Rattle.statements.proofs.StatedLaws.{type_converting}
use Rattle.statements.proofs.InitLaws.{value-expr, value_afforded, new_untyped, new-stop, new_converting, new_afforded, new-typed, new-done, value-turn, value_types_lem}
use Rattle.statements.specs.Lent.{converted}
use Rattle.statements.proofs.statements.init_new.Goals as goal

pub get_type-requires : goal.get_type-requires
get_type-requires c = record { typing = typing_in c.requires.converting.0 c.requires.in_turn; expr = value-expr c.requires.converting.0.ready.keyed.good c.requires.kind c.reference-e.ensures }

pub convert_expr-requires : goal.convert_expr-requires
convert_expr-requires c = record { converting = (type_converting c.requires.converting.0 c.get_type.ensures, value_afforded c.requires.converting.0.ready.keyed.good c.requires.kind c.reference-e.ensures c.requires.converting.1); expr = value-expr c.requires.converting.0.ready.keyed.good c.requires.kind c.reference-e.ensures; in_turn = typed-in_turn c.requires.converting.0 c.get_type.ensures c.in-Ok.is }

pub declare_init-requires : goal.declare_init-requires
declare_init-requires c = record { converting = (new_converting c.requires.converting.0 c.requires.converting.1 c.requires.kind c.reference-e.ensures c.get_type.ensures c.in-Ok.is c.convert_expr.ensures.converts_as (ap (converted _) c.in-Ok-convert_expr.is), new_afforded c.requires.converting.0 c.requires.converting.1 c.requires.kind c.reference-e.ensures c.get_type.ensures c.in-Ok.is c.convert_expr.ensures.converts_as (ap (converted _) c.in-Ok-convert_expr.is)); kind = (c.requires.kind, new-typed c.requires.converting.0 c.requires.converting.1 c.requires.kind c.reference-e.ensures c.get_type.ensures c.in-Ok.is c.convert_expr.ensures.converts_as (ap (converted _) c.in-Ok-convert_expr.is)); in_turn = value-turn c.requires.converting.0 c.requires.converting.1 c.requires.kind c.reference-e.ensures c.get_type.ensures c.in-Ok.is c.convert_expr.ensures.converts_as (ap (converted _) c.in-Ok-convert_expr.is) (c.convert_expr.ensures.types _ _ (ap (converted _) c.in-Ok-convert_expr.is)) }

pub returns-in-Err : goal.returns-in-Err
returns-in-Err c = record { states_as = new_untyped c.requires.converting.0 c.requires.converting.1 c.requires.kind c.reference-e.ensures c.get_type.ensures c.in-Err.is; types = refused-stated }

pub returns-in-Err-convert_expr : goal.returns-in-Err-convert_expr
returns-in-Err-convert_expr c = record { states_as = new-stop c.requires.converting.0 c.requires.converting.1 c.requires.kind c.reference-e.ensures c.get_type.ensures c.in-Ok.is c.convert_expr.ensures.converts_as (ap (converted _) c.in-Err-convert_expr.is); types = refused-stated }

pub returns-in-Ok-convert_expr : goal.returns-in-Ok-convert_expr
returns-in-Ok-convert_expr c = record { states_as = new-done c.requires.converting.0 c.requires.converting.1 c.requires.kind c.reference-e.ensures c.get_type.ensures c.in-Ok.is c.convert_expr.ensures.converts_as (ap (converted _) c.in-Ok-convert_expr.is) c.declare_init.ensures.declares_as; types = λ sc k h. value_types_lem c.requires.converting.0 c.requires.converting.1 c.requires.kind c.reference-e.ensures c.get_type.ensures c.in-Ok.is c.convert_expr.ensures.converts_as (ap (converted _) c.in-Ok-convert_expr.is) (c.convert_expr.ensures.types _ _ (ap (converted _) c.in-Ok-convert_expr.is)) (c.declare_init.ensures.types sc k h) }
