-- A binary operator on folded floats. Each answer is a case of `FoldCases`. Assumes nothing.
use mathlib.Core.Path.{ap, ◌∙◌}
use Rattle.std.specs.Prelude.{Some}
use Rattle.types.specs.Floats.{float_of}
use Rattle.types.proofs.FoldCases.{left-value, nan_some, nan_nothing, left_nothing}
use Rattle.types.proofs.float_value.fold_binary.Goals as goal

pub returns-in_err-x : goal.returns-in_err-x
returns-in_err-x c = ap float_of c.from_residual.ensures ∙ left_nothing c.args.op _ c.args.right c.in_err-x.was

pub returns-in-Value : goal.returns-in-Value
returns-in-Value c = left-value c.args.op _ c.args.right _ (c.in_ok-x.was ∙ ap Some c.in-Value.is) _ c.fold_right.ensures

pub returns-in_err-right-in-Nan : goal.returns-in_err-right-in-Nan
returns-in_err-right-in-Nan c = ap float_of c.from_residual-in_err-right-in-Nan.ensures ∙ nan_nothing c.args.op _ _ (c.in_ok-x.was ∙ ap Some c.in-Nan.is) c.in_err-right-in-Nan.was

pub returns-in_ok-right-in-Nan : goal.returns-in_ok-right-in-Nan
returns-in_ok-right-in-Nan c = nan_some c.args.op _ _ (c.in_ok-x.was ∙ ap Some c.in-Nan.is) _ c.fold_nan.ensures.left _ c.in_ok-right-in-Nan.was
