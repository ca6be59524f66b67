-- `resolve_call` meets its contract: what is kept where the turn remembers the call's type, and else what is found.
-- By `callee-ready` and `call_known` of TypingLaws. Assumes nothing.
use Rattle.expressions.proofs.TypingLaws.{callee-ready, call_known}
use Rattle.expressions.proofs.expressions.resolve_call.Goals as goal

pub callee_at-requires : goal.callee_at-requires
callee_at-requires c = record { function_at = (callee-ready _ _ c.requires.typing.ready.keyed.good _ c.requires.kind _ _ _ c.requires.typing _ c.is_typed.ensures c.if-is_typed.true _ c.beside.ensures).0; tree_len = (callee-ready _ _ c.requires.typing.ready.keyed.good _ c.requires.kind _ _ _ c.requires.typing _ c.is_typed.ensures c.if-is_typed.true _ c.beside.ensures).1 }

pub returns-then-is_typed : goal.returns-then-is_typed
returns-then-is_typed c = call_known _ _ c.requires.typing.ready.keyed.good _ c.requires.kind _ _ _ c.requires.typing _ c.is_typed.ensures c.if-is_typed.true _ c.beside.ensures _ c.callee_at.ensures
