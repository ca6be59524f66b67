-- A For before its body: its variable, and its turns in the scope around it.
-- By what the two parts owe, one after the other. Assumes nothing.
use mathlib.Core.Path.{ap}
use Rattle.statements.proofs.PlainTurns.{refused-stated}
use Rattle.statements.proofs.ForLaws.{head_not, head_asks, head_turns-not, head_done, head_in-turn, head_typed}
use Rattle.statements.specs.Lent.{finished_with, found_variable}
use Rattle.statements.proofs.loops.for_head.Goals as goal

pub for_turns-requires : goal.for_turns-requires
for_turns-requires c = let h = head_asks _ c.requires.converting.0 c.for_variable.ensures.variable_as (ap (found_variable _) c.in-Ok.is) c.requires.kind c.requires.converting.1 in record { converting = h.0; kind = h.1; in_turn = head_in-turn _ c.requires.converting.0 c.for_variable.ensures.variable_as (ap (found_variable _) c.in-Ok.is) c.for_variable.ensures.types }

pub returns-in-Err : goal.returns-in-Err
returns-in-Err c = record { for_head_as = head_not _ c.requires.converting.0 c.for_variable.ensures.variable_as (ap (found_variable _) c.in-Err.is); types = refused-stated }

pub returns-in-Err-for_turns : goal.returns-in-Err-for_turns
returns-in-Err-for_turns c = record { for_head_as = head_turns-not _ c.requires.converting.0 c.for_variable.ensures.variable_as (ap (found_variable _) c.in-Ok.is) c.for_turns.ensures.turns_as.0 (ap (finished_with _) c.in-Err-for_turns.is); types = refused-stated }

pub returns-in-Ok-for_turns : goal.returns-in-Ok-for_turns
returns-in-Ok-for_turns c = record { for_head_as = head_done _ c.requires.converting.0 c.for_variable.ensures.variable_as (ap (found_variable _) c.in-Ok.is) c.for_turns.ensures.turns_as.0 (ap (finished_with _) c.in-Ok-for_turns.is) c.for_turns.ensures.turns_as.1; types = head_typed _ c.requires.converting.0 c.for_variable.ensures.variable_as (ap (found_variable _) c.in-Ok.is) c.for_variable.ensures.types (ap (finished_with _) c.in-Ok-for_turns.is) c.for_turns.ensures.types }
