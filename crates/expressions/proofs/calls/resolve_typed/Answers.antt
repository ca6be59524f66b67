-- The call of the record: a cast, a refusal of one, or a function.
-- Each answer is a case of the definition. Assumes nothing.
use mathlib.Core.Path.{ap, ◌∙◌}
use native.Mathlib.Omega.{arith}
use Rattle.std.specs.Prelude.{Ok}
use Rattle.expressions.proofs.CallLaws.{is_called, typed-refused, typed-cast, typed-function}
use Rattle.expressions.proofs.calls.resolve_typed.Goals as goal

pub cast_type-requires : goal.cast_type-requires
cast_type-requires c = is_called _ _ _ _ _ c.call_of-call.ensures c.requires.keyed c.requires.kind c.requires.args_typed (λ i. omega (arith, c.shared_slice_known-1.given i))

pub resolve_function-requires : goal.resolve_function-requires
resolve_function-requires c = record { keyed = c.requires.keyed; called = is_called _ _ _ _ _ c.call_of-call.ensures c.requires.keyed c.requires.kind c.requires.args_typed (λ i. omega (arith, c.shared_slice_known-1.given i)) }

pub returns-in-Err : goal.returns-in-Err
returns-in-Err c = typed-refused _ _ _ _ c.call_of-call.result c.call_of-call.ensures _ c.cast_type.ensures _ c.in-Err.is

pub returns-in-Ok-Some : goal.returns-in-Ok-Some
returns-in-Ok-Some c = typed-cast _ _ _ _ c.call_of-call.result c.call_of-call.ensures _ c.cast_type.ensures _ (c.in-Ok-Some.is ∙ ap Ok c.in-Ok-Some.field-0-is)

pub returns-in-Ok-None : goal.returns-in-Ok-None
returns-in-Ok-None c = typed-function _ _ _ _ c.call_of-call.result c.call_of-call.ensures _ c.cast_type.ensures (c.in-Ok-None.is ∙ ap Ok c.in-Ok-None.field-0-is) _ c.resolve_function.ensures
