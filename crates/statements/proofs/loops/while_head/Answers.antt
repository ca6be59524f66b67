-- The While before its body.
-- A label, the condition and then a jump. Assumes nothing.
use mathlib.Core.Path.{ap}
use Rattle.statements.specs.Turns.{value_types}
use Rattle.statements.proofs.HeadLaws.{while_cond_requires, while_jump_requires, while_refused, while_done, refused-finished, operand-typed}
use Rattle.statements.specs.Lent.{at, converted}
use Rattle.statements.proofs.loops.while_head.Goals as goal

pub convert_cond-requires : goal.convert_cond-requires
convert_cond-requires c = let h = while_cond_requires _ c.requires.converting.0 c.requires.converting.1 c.reference-e.ensures c.place_label.ensures c.requires.kind in record { converting = h.0; expr = h.1; in_turn = c.requires.in_turn }

pub jump_if_not-requires : goal.jump_if_not-requires
jump_if_not-requires c = while_jump_requires _ c.requires.converting.0 c.requires.converting.1 c.reference-e.ensures c.place_label.ensures c.convert_cond.ensures.converts_as c.requires.kind (ap (converted _) c.in-Ok.is)

pub returns-in-Err : goal.returns-in-Err
returns-in-Err c = record { head_as = while_refused _ c.reference-e.ensures c.place_label.ensures c.convert_cond.ensures.converts_as (ap (converted _) c.in-Err.is); types = refused-finished }

pub returns-in-Ok : goal.returns-in-Ok
returns-in-Ok c = record { head_as = while_done _ c.reference-e.ensures c.place_label.ensures c.convert_cond.ensures.converts_as (ap (converted _) c.in-Ok.is) c.jump_if_not.ensures; types = operand-typed value_types (at c.args.c c.args.k.now) c.reference-e.ensures c.convert_cond.ensures.types (ap (converted _) c.in-Ok.is) }
