-- The For up to its check.
-- The first bound, its copy and where the For counts on, in a row. Assumes nothing.
use Rattle.statements.specs.Turns.{expr_types}
use mathlib.Core.Path.{ap, ◌∙◌}
use mathlib.Core.List.{[]}
use Rattle.statements.proofs.ConvertLaws.{converted-next}
use Rattle.statements.proofs.StayLaws.{record_counted}
use Rattle.statements.proofs.HeadLaws.{first_bound, bound_afforded, count_room, begin_refused, begin_done, refused-finished, operand-typed}
use Rattle.statements.specs.Lent.{at, converted}
use Rattle.statements.proofs.loops.for_begin.Goals as goal

pub convert_expr-requires : goal.convert_expr-requires
convert_expr-requires c = record { converting = (c.requires.converting.0, bound_afforded _ _ c.requires.converting.0 c.requires.converting.1 c.reference-from.ensures); expr = first_bound c.requires.converting.0.ready.keyed.good c.requires.kind.0 c.reference-from.ensures; in_turn = c.requires.in_turn }

pub count_on-requires : goal.count_on-requires
count_on-requires c = (count_room _ _ c.requires.converting.0 c.requires.converting.1 c.reference-from.ensures c.convert_expr.ensures.converts_as (ap (converted _) c.in-Ok.is) (c.copy_fitted.ensures []), record_counted c.requires.converting.0 c.requires.kind.0 ((c.copy_fitted.ensures []).spent.records ∙ (converted-next c.convert_expr.ensures.converts_as (ap (converted _) c.in-Ok.is)).spent.records), c.requires.kind.1)

pub returns-in-Err : goal.returns-in-Err
returns-in-Err c = record { bound_as = (begin_refused _ _ c.reference-from.ensures c.convert_expr.ensures.converts_as (ap (converted _) c.in-Err.is), c.convert_expr.ensures.converts_as.names); types = refused-finished }

pub returns-in-Ok : goal.returns-in-Ok
returns-in-Ok c = record { bound_as = (begin_done _ _ c.reference-from.ensures c.convert_expr.ensures.converts_as (ap (converted _) c.in-Ok.is) (c.copy_fitted.ensures _) c.count_on.ensures, c.convert_expr.ensures.converts_as.names); types = operand-typed expr_types (at c.args.c c.args.k.now) c.reference-from.ensures c.convert_expr.ensures.types (ap (converted _) c.in-Ok.is) }
