-- A unary operator on a folded operand. Each answer is a case of `FoldCases`. Assumes nothing.
use mathlib.Core.Path.{ap, ◌∙◌}
use native.Mathlib.Omega.{arith}
use Rattle.int128.specs.Value.{checked_of}
use Rattle.types.proofs.FoldCases.{unary-not, unary-none, unary_nothing, unary_neg}
use Rattle.types.proofs.int_value.fold_unary.Goals as goal

pub returns-in-1 : goal.returns-in-1
returns-in-1 c = unary-not _ _ _ c.in_ok-v.was c.in-1.is _ c.not.ensures

pub returns-in-2 : goal.returns-in-2
returns-in-2 c = unary-none _ _ _ c.in_ok-v.was c.in-2.is

pub returns-in_err-v : goal.returns-in_err-v
returns-in_err-v c = ap checked_of c.from_residual.ensures ∙ unary_nothing _ _ c.in_err-v.was

pub returns-in_default : goal.returns-in_default
returns-in_default c = unary_neg _ _ _ c.in_ok-v.was (omega arith) (omega arith) _ c.checked_neg.ensures
