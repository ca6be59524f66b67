-- The variable of a name is what the definition finds.
-- What the slot answered, read back as a variable. Assumes nothing.
use native.Mathlib.Omega.{arith}
use Rattle.scope.proofs.Names.{find_at, find_nowhere, found_below}
use Rattle.scope.proofs.Scope.find_variable.Goals as goal

pub variable_at-requires : goal.variable_at-requires
variable_at-requires c = omega (arith, found_below _ c.args.self _ _ _ _ c.open_at.ensures _ c.in_ok-j.was, c.requires.names_room.scratch, c.requires.names_room.names_in)

pub returns-in_err-j : goal.returns-in_err-j
returns-in_err-j c = λ text told tells. rw c.from_residual.ensures (find_nowhere _ c.args.self _ _ _ _ c.open_at.ensures text told tells c.in_err-j.was)

pub returns : goal.returns
returns c = λ text told tells. find_at _ c.args.self _ _ _ _ c.open_at.ensures text told tells _ _ c.in_ok-j.was c.variable_at.ensures
