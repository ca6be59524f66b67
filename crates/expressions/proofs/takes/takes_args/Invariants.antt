-- Whether what was asked takes all is whether what is left does, a parameter and an argument at a time.
-- The laws of the first of both lists, and a number that falls with each parameter. Assumes nothing.
use mathlib.Core.Path.{◌≡◌}
use Rattle.syntax.specs.Decode.{program}
use Rattle.conversion.specs.Expressions.{takes_args}
use Rattle.syntax.specs.Places.{ArgsAt, ParamsAt, args_at, params_at}
use Rattle.keys.specs.Keys.{all_keys}
use Rattle.expressions.specs.Slots.{ArgsTyped}
use Rattle.expressions.specs.Calls.{typed_at}
use Rattle.syntax.proofs.Lists.{left}
use Rattle.expressions.proofs.takes.takes_args.Given as goal

abbrev pub invariant-loop-parameter : goal.invariant-loop-parameter
invariant-loop-parameter l = ParamsAt l.tree l.parameter × ArgsAt l.tree l.cell × ArgsTyped l.tree l.scratch (args_at l.tree l.text l.cell) × (takes_args (program l.tree l.text) (all_keys l.tree l.text) (params_at l.tree l.text l.parameters) (typed_at l.tree l.text l.scratch l.first) ≡ takes_args (program l.tree l.text) (all_keys l.tree l.text) (params_at l.tree l.text l.parameter) (typed_at l.tree l.text l.scratch l.cell))

abbrev pub decreases-loop-parameter : goal.decreases-loop-parameter
decreases-loop-parameter l = left l.parameter
