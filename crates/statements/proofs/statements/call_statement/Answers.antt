-- A call statement whose expression is a call.
-- By what it runs: a function is called, a cast is refused. Assumes nothing.
use mathlib.Core.Path.{ap, ◌∙◌}
use Rattle.std.specs.Prelude.{Ok}
use Rattle.statements.proofs.PlainTurns.{refused-stated}
use Rattle.statements.proofs.AroundLaws.{function-callee}
use Rattle.statements.proofs.ArgsLaws.{called_converting}
use Rattle.statements.proofs.ReturnLaws.{statement_afforded, resolved_stop, resolved_cast, resolved_function, resolved_turn, resolved_types}
use Rattle.statements.proofs.statements.call_statement.Goals as goal

pub call_only-requires : goal.call_only-requires
call_only-requires c = record { converting = (called_converting c.requires.converting.0 (statement_afforded c.requires.converting.0 c.requires.converting.1 c.requires.kind.0 c.requires.kind.2) c.requires.kind.1 c.resolve_call.ensures, statement_afforded c.requires.converting.0 c.requires.converting.1 c.requires.kind.0 c.requires.kind.2); kind = (c.requires.kind.1, function-callee c.resolve_call.ensures.callee (c.in-Ok-Function.is ∙ ap Ok c.in-Ok-Function.field-0-is)); in_turn = resolved_turn c.requires.converting.0 c.requires.converting.1 c.requires.kind.0 c.requires.kind.2 c.requires.kind.1 c.resolve_call.ensures (c.in-Ok-Function.is ∙ ap Ok c.in-Ok-Function.field-0-is) }

pub returns-in-Err : goal.returns-in-Err
returns-in-Err c = record { states_as = resolved_stop c.requires.converting.0 c.requires.converting.1 c.requires.kind.0 c.requires.kind.2 c.requires.kind.1 c.resolve_call.ensures c.in-Err.is; types = refused-stated }

pub returns-in-Ok-Cast : goal.returns-in-Ok-Cast
returns-in-Ok-Cast c = record { states_as = resolved_cast c.requires.converting.0 c.requires.converting.1 c.requires.kind.0 c.requires.kind.2 c.requires.kind.1 c.resolve_call.ensures (c.in-Ok-Cast.is ∙ ap Ok c.in-Ok-Cast.field-0-is) c.error_at.ensures; types = refused-stated }

pub returns-in-Ok-Function : goal.returns-in-Ok-Function
returns-in-Ok-Function c = record { states_as = resolved_function c.requires.converting.0 c.requires.converting.1 c.requires.kind.0 c.requires.kind.2 c.requires.kind.1 c.resolve_call.ensures (c.in-Ok-Function.is ∙ ap Ok c.in-Ok-Function.field-0-is) c.call_only.ensures.call_only_as; types = λ sc k h. resolved_types c.requires.converting.0 c.requires.converting.1 c.requires.kind.0 c.requires.kind.2 c.requires.kind.1 c.resolve_call.ensures (c.in-Ok-Function.is ∙ ap Ok c.in-Ok-Function.field-0-is) (c.call_only.ensures.types sc k h) }
