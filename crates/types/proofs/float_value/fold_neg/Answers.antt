-- A unary operator on a folded float. Each answer is a case of `FoldCases`. Assumes nothing.
use mathlib.Core.Path.{ap, ◌∙◌}
use native.Mathlib.Omega.{arith}
use Rattle.std.specs.Prelude.{Some}
use Rattle.types.specs.Floats.{float_of}
use Rattle.types.proofs.FoldCases.{neg_none, neg_value, neg_nan, neg_nothing}
use Rattle.types.proofs.float_value.fold_neg.Goals as goal

pub returns-in-1 : goal.returns-in-1
returns-in-1 c = neg_none c.args.op _ (omega arith) (omega arith)

pub returns-in_err-x-in_default : goal.returns-in_err-x-in_default
returns-in_err-x-in_default c = ap float_of c.from_residual.ensures ∙ neg_nothing c.args.op _ (omega arith) (omega arith) c.in_err-x-in_default.was

pub returns-in-Value : goal.returns-in-Value
returns-in-Value c = neg_value c.args.op _ (omega arith) (omega arith) _ (c.in_ok-x-in_default.was ∙ ap Some c.in-Value.is)

pub returns-in-Nan : goal.returns-in-Nan
returns-in-Nan c = neg_nan c.args.op _ (omega arith) (omega arith) (c.in_ok-x-in_default.was ∙ ap Some c.in-Nan.is)
