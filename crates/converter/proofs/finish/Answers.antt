-- What is left in the outputs: each table alone in its own, or zero everywhere.
-- What `cut_tables` and `clear_outputs` leave, by the answer's case. Assumes nothing.
use mathlib.Core.Path.{sym, ap, ◌∙◌}
use Rattle.ir.proofs.LentLaws.{ten}
use Rattle.statements.specs.Lent.{Finished, finished_with}
use Rattle.converter.proofs.CallLaws.{finish-refused, finish-converted}
use Rattle.converter.proofs.finish.Goals as goal

pub counters_of-c-requires : goal.counters_of-c-requires
counters_of-c-requires c = ten _ _ (c.requires.room _ (ap (finished_with _) c.in-Ok.is))

pub cut_tables-requires : goal.cut_tables-requires
cut_tables-requires c = let first = c in
    let is = ap (finished_with _) c.in-Ok.is ∙ ap Finished.Done (sym c.counters_of-c.ensures) in
    (c.requires.room _ is, c.requires.lent _ is)

pub returns-in-Err : goal.returns-in-Err
returns-in-Err c = let six = c in
    finish-refused _ _ _ _ _ _ _ _ _ _ _ _ _ _ _ (ap (finished_with _) c.in-Err.is) (c.clear_outputs.ensures.instructions, c.clear_outputs.ensures.variables, c.clear_outputs.ensures.labels, c.clear_outputs.ensures.functions, c.clear_outputs.ensures.strings, c.clear_outputs.ensures.floats)

pub returns-in-Ok : goal.returns-in-Ok
returns-in-Ok c = let is = ap (finished_with _) c.in-Ok.is ∙ ap Finished.Done (sym c.counters_of-c.ensures) in
    finish-converted _ _ _ _ _ _ _ _ _ _ _ _ _ _ _ _ is c.counts_of.ensures
    (record { instructions = c.instructions-in-Ok-1.given; variables = c.variables-in-Ok-1.given; labels = c.labels-in-Ok-1.given; functions = c.functions-in-Ok-1.given; strings = c.strings-in-Ok-1.given; floats = c.floats-in-Ok-1.given })
    c.cut_tables.ensures
