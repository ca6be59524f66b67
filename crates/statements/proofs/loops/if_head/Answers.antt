-- The If before its then-block.
-- The condition and then a jump. Assumes nothing.
use mathlib.Core.Path.{ap}
use Rattle.statements.specs.Turns.{value_types}
use Rattle.statements.proofs.HeadLaws.{record_inside, if_mark, if_cond_requires, if_jump_requires, if-refused, if-done, refused-finished, operand-typed}
use Rattle.statements.specs.Lent.{at, converted}
use Rattle.statements.proofs.loops.if_head.Goals as goal

pub if_not_label-label-requires : goal.if_not_label-label-requires
if_not_label-label-requires c = record { record_bytes_in_bounds = record_inside c.requires.converting.0 c.requires.kind; r_bound = if_mark c.requires.converting.0 c.requires.kind }

pub convert_cond-requires : goal.convert_cond-requires
convert_cond-requires c = let h = if_cond_requires _ c.requires.converting.0 c.requires.converting.1 c.reference-e.ensures c.requires.kind in record { converting = h.0; expr = h.1; in_turn = c.requires.in_turn }

pub jump_if_not-requires : goal.jump_if_not-requires
jump_if_not-requires c = if_jump_requires _ c.requires.converting.0 c.requires.converting.1 c.reference-e.ensures c.convert_cond.ensures.converts_as c.requires.kind (ap (converted _) c.in-Ok.is)

pub returns-in-Err : goal.returns-in-Err
returns-in-Err c = record { head_as = if-refused _ c.reference-e.ensures c.convert_cond.ensures.converts_as (ap (converted _) c.in-Err.is); types = refused-finished }

pub returns-in-Ok : goal.returns-in-Ok
returns-in-Ok c = record { head_as = if-done _ c.reference-e.ensures c.convert_cond.ensures.converts_as c.if_not_label-label.ensures (ap (converted _) c.in-Ok.is) c.jump_if_not.ensures; types = operand-typed value_types (at c.args.c c.args.k.now) c.reference-e.ensures c.convert_cond.ensures.types (ap (converted _) c.in-Ok.is) }
