-- The check of the For.
-- The second bound and its test, in a row. Assumes nothing.
use mathlib.Core.Path.{ap}
use Rattle.statements.specs.Turns.{expr_types}
use Rattle.statements.proofs.HeadLaws.{second_bound, bound_afforded, test-refused, test-done, refused-finished, operand-typed}
use Rattle.statements.specs.Lent.{at, converted}
use Rattle.statements.proofs.loops.for_test.Goals as goal

pub convert_expr-requires : goal.convert_expr-requires
convert_expr-requires c = record { converting = (c.requires.converting.0, bound_afforded _ _ c.requires.converting.0 c.requires.converting.1 c.reference-until.ensures); expr = second_bound c.requires.converting.0.ready.keyed.good c.requires.kind.0 c.reference-until.ensures; in_turn = c.requires.in_turn }

pub returns-in-Err : goal.returns-in-Err
returns-in-Err c = record { bound_as = (test-refused _ _ c.reference-until.ensures c.convert_expr.ensures.converts_as (ap (converted _) c.in-Err.is), c.convert_expr.ensures.converts_as.names); types = refused-finished }

pub returns-in-Ok : goal.returns-in-Ok
returns-in-Ok c = record { bound_as = (test-done _ _ c.reference-until.ensures c.convert_expr.ensures.converts_as (ap (converted _) c.in-Ok.is) (c.test_bound.ensures _), c.convert_expr.ensures.converts_as.names); types = operand-typed expr_types (at c.args.c c.args.k.now) c.reference-until.ensures c.convert_expr.ensures.types (ap (converted _) c.in-Ok.is) }
