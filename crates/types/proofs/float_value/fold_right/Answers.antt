-- A binary operator with a float on the left. Each answer is a case of `FoldCases`. Assumes nothing.
use mathlib.Core.Path.{ap, ◌∙◌}
use Rattle.std.specs.Prelude.{Some}
use Rattle.types.specs.Floats.{float_of}
use Rattle.types.proofs.FoldCases.{right-value, right_nan, right_nothing}
use Rattle.types.proofs.float_value.fold_right.Goals as goal

pub returns-in_err-y : goal.returns-in_err-y
returns-in_err-y c = ap float_of c.from_residual.ensures ∙ right_nothing c.args.op c.args.left _ c.in_err-y.was

pub returns-in-Value : goal.returns-in-Value
returns-in-Value c = right-value c.args.op c.args.left _ _ (c.in_ok-y.was ∙ ap Some c.in-Value.is) _ c.fold_two.ensures

pub returns-in-Nan : goal.returns-in-Nan
returns-in-Nan c = right_nan c.args.op c.args.left _ (c.in_ok-y.was ∙ ap Some c.in-Nan.is) _ c.fold_nan.ensures.right
