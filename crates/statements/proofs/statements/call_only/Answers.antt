-- A call whose result is not used.
-- Its values, then their Args, then the Call. Assumes nothing.
use mathlib.Core.Path.{ap}
use native.Mathlib.Omega.{arith}
use Rattle.statements.proofs.PlainTurns.{refused-stated}
use Rattle.statements.proofs.ReturnLaws.{values_afforded, values_converting, values_room, values_typed, passed-room, values_stop, values_called, values_types}
use Rattle.statements.specs.Lent.{converted_args}
use Rattle.statements.proofs.statements.call_only.Goals as goal

pub convert_args-requires : goal.convert_args-requires
convert_args-requires c = record { converting = (c.requires.converting.0, values_afforded c.requires.converting.0 c.requires.converting.1 c.requires.kind.0); kind = c.requires.kind.0; in_turn = c.requires.in_turn }

pub pass_args-requires : goal.pass_args-requires
pass_args-requires c = record { converting = (values_converting c.requires.converting.0 c.requires.converting.1 c.requires.kind.0 c.convert_args.ensures.call_args_as (ap (converted_args _) c.in-Ok.is), c.requires.kind.1, c.requires.kind.0); afforded = (values_room c.requires.converting.0 c.requires.converting.1 c.requires.kind.0 c.convert_args.ensures.call_args_as (ap (converted_args _) c.in-Ok.is), values_typed c.requires.converting.0 c.requires.converting.1 c.requires.kind.0 c.convert_args.ensures.call_args_as (ap (converted_args _) c.in-Ok.is)) }

pub emit_call_only-requires : goal.emit_call_only-requires
emit_call_only-requires c = passed-room c.requires.converting.0 c.requires.converting.1 c.requires.kind.0 c.convert_args.ensures.call_args_as (ap (converted_args _) c.in-Ok.is) c.pass_args.ensures.adds

pub returns-in-Err : goal.returns-in-Err
returns-in-Err c = record { call_only_as = values_stop c.requires.converting.0 c.requires.converting.1 c.requires.kind.0 c.convert_args.ensures.call_args_as _ (ap (converted_args _) c.in-Err.is); types = refused-stated }

pub returns-in-Ok : goal.returns-in-Ok
returns-in-Ok c = record { call_only_as = values_called c.requires.converting.0 c.requires.converting.1 c.requires.kind.0 c.convert_args.ensures.call_args_as (ap (converted_args _) c.in-Ok.is) _ c.requires.kind.1 c.pass_args.ensures.adds c.pass_args.ensures.stays.0 (omega arith) c.emit_call_only.ensures; types = λ _ _ _. values_types c.requires.converting.0 c.requires.converting.1 c.requires.kind.0 c.convert_args.ensures.call_args_as (ap (converted_args _) c.in-Ok.is) (c.convert_args.ensures.types _ _ (ap (converted_args _) c.in-Ok.is)) c.pass_args.ensures.turns }
