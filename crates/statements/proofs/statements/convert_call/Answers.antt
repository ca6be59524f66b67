-- A call statement, by whether its expression is a call.
-- One that is none is typed and never converted. Assumes nothing.
use mathlib.Core.Path.{sym, ◌∙◌}
use Rattle.expressions.proofs.TypingLaws.{expr-low}
use Rattle.statements.proofs.PlainTurns.{typing_in, refused-stated}
use Rattle.statements.proofs.ReturnLaws.{called_expr, typed-stop, typed-only, only-types}
use Rattle.statements.proofs.statements.convert_call.Goals as goal

pub kind-requires : goal.kind-requires
kind-requires c = (called_expr c.requires.converting.0.ready.keyed.good c.reference-e.ensures c.requires.kind).inside

pub call_statement-requires : goal.call_statement-requires
call_statement-requires c = record { converting = c.requires.converting; kind = (c.requires.kind, record { below = expr-low _ _ c.requires.converting.0.ready.keyed.good _ (called_expr c.requires.converting.0.ready.keyed.good c.reference-e.ensures c.requires.kind); kind = sym c.kind.ensures ∙ c.if-kind-eq-KIND_CALL.true }, c.reference-e.ensures); in_turn = c.requires.in_turn }

pub get_type-requires : goal.get_type-requires
get_type-requires c = record { typing = typing_in c.requires.converting.0 c.requires.in_turn; expr = called_expr c.requires.converting.0.ready.keyed.good c.reference-e.ensures c.requires.kind }

pub returns-in-Err : goal.returns-in-Err
returns-in-Err c = record { states_as = typed-stop c.requires.converting.0 c.requires.converting.1 c.requires.kind c.reference-e.ensures c.kind.ensures c.if-kind-eq-KIND_CALL.false c.get_type.ensures c.in-Err.is; types = refused-stated }

pub returns-in-Ok : goal.returns-in-Ok
returns-in-Ok c = record { states_as = typed-only c.requires.converting.0 c.requires.converting.1 c.requires.kind c.reference-e.ensures c.kind.ensures c.if-kind-eq-KIND_CALL.false c.get_type.ensures c.in-Ok.is; types = λ _ _ _. only-types c.requires.converting.0 c.requires.converting.1 c.requires.kind c.reference-e.ensures c.kind.ensures c.if-kind-eq-KIND_CALL.false c.get_type.ensures c.in-Ok.is }
