-- A call behind its values, by what it runs.
-- A variable, and then the cast or the call. Assumes nothing.
use Rattle.ir.proofs.StepLaws.{next_in}
use Rattle.statements.proofs.AroundLaws.{variable_type_lem, callee-cast, callee-function, function-callee, finish-cast, finish-function}
use Rattle.statements.proofs.StayLaws.{stays_refl, converting_next}
use Rattle.statements.proofs.TurnLaws.{turns_refl}
use native.Mathlib.Omega.{arith}
use mathlib.Core.Path.{ap}
use Rattle.std.specs.Prelude.{Ok}
use Rattle.statements.proofs.parts.finish_call.Goals as goal

pub call_function-requires : goal.call_function-requires
call_function-requires c = record { converting = (converting_next c.requires.converting.0 (next_in _ c.new_var-dest.ensures.next) (stays_refl _ _ _ _), omega (arith, c.requires.converting.1, c.new_var-dest.ensures.spent)); function_at = (function-callee c.requires.kind.2 (ap Ok c.in-Function.is), c.requires.kind.0, variable_type_lem c.new_var-dest.ensures.typed c.requires.kind.1, c.requires.kind.3) }

pub returns-in-Cast : goal.returns-in-Cast
returns-in-Cast c = record { call_ends_as = (λ to m. finish-cast _ _ _ (omega arith) c.new_var-dest.ensures (callee-cast _ _ m (ap Ok c.in-Cast.is)) c.cast_first.ensures); turns = turns_refl _ _ }

pub returns-in-Function : goal.returns-in-Function
returns-in-Function c = record { call_ends_as = (λ to m. finish-function _ _ _ (omega arith) c.new_var-dest.ensures _ (callee-function _ _ m (ap Ok c.in-Function.is)) c.call_function.ensures.calls_as); turns = c.call_function.ensures.turns }
