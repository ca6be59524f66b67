-- A Declare: a new variable, its name, and its zero value.
-- By the law of a name declared behind a new variable, and of the steps that follow. Assumes nothing.
use mathlib.Core.Path.{ap}
use native.Mathlib.Omega.{arith}
use Rattle.statements.proofs.PlainTurns.{refused-stated}
use Rattle.statements.proofs.DeclareLaws.{declare_asks, zero_asks, declare-taken, declare-refused, declare-done, declare-types}
use Rattle.statements.specs.Lent.{finished_with}
use Rattle.statements.proofs.statements.convert_declare.Goals as goal

pub declare_name-requires : goal.declare_name-requires
declare_name-requires c = declare_asks c.requires.converting.0 c.requires.kind c.requires.converting.1 c.word.ensures (omega arith) c.new_var-v.ensures

pub zero_value-requires : goal.zero_value-requires
zero_value-requires c = zero_asks c.requires.converting.0 c.requires.kind c.requires.converting.1 c.word.ensures (omega arith) c.new_var-v.ensures

pub returns-in-None : goal.returns-in-None
returns-in-None c = record { states_as = declare-taken c.requires.converting.0 c.requires.kind c.requires.converting.1 c.word.ensures (omega arith) c.new_var-v.ensures _ c.declare_name.ensures c.in-None.is c.error_at.ensures; types = refused-stated }

pub returns-in-Err : goal.returns-in-Err
returns-in-Err c = record { states_as = declare-refused c.requires.converting.0 c.requires.kind c.requires.converting.1 c.word.ensures (omega arith) c.new_var-v.ensures _ c.declare_name.ensures c.in-Some.is _ c.zero_value.ensures (ap (finished_with _) c.in-Err.is); types = refused-stated }

pub returns-in-Ok : goal.returns-in-Ok
returns-in-Ok c = record { states_as = declare-done c.requires.converting.0 c.requires.kind c.requires.converting.1 c.word.ensures (omega arith) c.new_var-v.ensures _ c.declare_name.ensures c.in-Some.is _ c.zero_value.ensures (ap (finished_with _) c.in-Ok.is); types = λ _ _ _. declare-types c.requires.converting.0 c.requires.kind c.requires.converting.1 c.word.ensures (omega arith) c.new_var-v.ensures _ c.declare_name.ensures c.in-Some.is c.requires.in_turn }
