-- A call of a function whose result is used.
-- Its values are passed, then the call is written. Assumes nothing.
use Rattle.statements.proofs.AroundLaws.{call-adds}
use native.Mathlib.Omega.{arith}
use Rattle.statements.proofs.parts.call_function.Goals as goal

pub returns : goal.returns
returns c = record { calls_as = call-adds _ _ _ _ c.requires.converting.0.ready.keyed.good c.requires.function_at.0 c.requires.function_at.2 c.pass_args.ensures.adds c.pass_args.ensures.stays.0 c.pass_args.ensures.stays.1 (omega arith) c.emit_call.ensures; turns = c.pass_args.ensures.turns }
