-- `convert_func` meets its contract: an entry alone, or the parameters, their variables and the body.
-- Each case is a law of BodyLaws. Assumes nothing.
use mathlib.Core.Bool.{not}
use mathlib.Core.Path.{ap}
use native.Mathlib.Omega.{arith}
use Rattle.std.proofs.lemmas.Result.{err_from_is_err_and}
use Rattle.functions.proofs.BodyLaws.{function-room, function-bare, vars-room, body_needs, function-refused, function_as, bare-visited, function-visited}
use Rattle.statements.proofs.HeadLaws.{refused-finished}
use Rattle.functions.proofs.bodies.convert_func.Goals as goal

pub add_function-requires : goal.add_function-requires
add_function-requires c = function-room c.requires.keyed.0 c.requires.keyed.1 c.requires.room.0 c.requires.room.1 c.requires.room.2

pub returns-then-not-has_body : goal.returns-then-not-has_body
returns-then-not-has_body c = record { converts_function = function-bare c.requires.keyed.0 c.requires.keyed.1 c.requires.room.0 c.requires.room.1 c.requires.room.2 c.has_body.ensures (ap not c.if-not-has_body.true) (omega arith) c.add_function.ensures; visits = bare-visited c.requires.keyed.0 c.requires.keyed.1 c.requires.room.0 c.requires.room.1 c.requires.room.2 c.requires.turns c.has_body.ensures (ap not c.if-not-has_body.true) c.add_function.ensures }

pub parameter_variables-requires-clause-room_for : goal.parameter_variables-requires-clause-room_for
parameter_variables-requires-clause-room_for c = vars-room c.requires.keyed.0 c.requires.keyed.1 c.requires.room.0 c.requires.room.1 c.requires.room.2

pub convert_body-requires : goal.convert_body-requires
convert_body-requires c = let made = body_needs c.requires.keyed.0 c.requires.keyed.1 c.requires.room.0 c.requires.room.1 c.requires.room.2 c.has_body.ensures (ap not c.if-not-has_body.false) c.declare_parameters.ensures.parameters_meet c.in_ok-scope.was c.parameter_variables.ensures c.declare_parameters.ensures.turns c.requires.turns in record { converting = made.0; function_at = made.1.0; turns = made.1.1 }

pub returns-in_err-scope : goal.returns-in_err-scope
returns-in_err-scope c =
    let p = err_from_is_err_and c.from_residual.result c.from_residual.ensures.1 in
    rw (p.1, p.2) (record { converts_function = function-refused c.requires.keyed.0 c.requires.keyed.1 c.requires.room.0 c.requires.room.1 c.requires.room.2 c.has_body.ensures (ap not c.if-not-has_body.false) c.declare_parameters.ensures.parameters_meet c.in_err-scope.was; visits = record { visited = λ k q. refused-finished k q; at_most = λ k q. refused-finished k q } })

pub returns : goal.returns
returns c = record { converts_function = function_as c.requires.keyed.0 c.requires.keyed.1 c.requires.room.0 c.requires.room.1 c.requires.room.2 c.has_body.ensures (ap not c.if-not-has_body.false) c.declare_parameters.ensures.parameters_meet c.in_ok-scope.was c.parameter_variables.ensures c.convert_body.ensures.body_as; visits = function-visited c.requires.keyed.0 c.requires.keyed.1 c.requires.room.0 c.requires.room.1 c.requires.room.2 c.has_body.ensures (ap not c.if-not-has_body.false) c.declare_parameters.ensures.parameters_meet c.declare_parameters.ensures.turns c.convert_body.ensures.visits }
