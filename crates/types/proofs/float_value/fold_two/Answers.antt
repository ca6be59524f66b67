-- A binary operator on two floats. Each answer is a case of `FoldCases`. Assumes nothing.
use native.Mathlib.Omega.{arith}
use Rattle.types.specs.Floats.{float_of}
use Rattle.types.proofs.FoldCases.{float_add, float_sub, float_mul, float_div, float_none_four}
use Rattle.types.proofs.float_value.fold_two.Goals as goal

pub returns-in-13 : goal.returns-in-13
returns-in-13 c = float_add _ c.in-13.is _ _ _ c.nan_apart.ensures

pub returns-in-14 : goal.returns-in-14
returns-in-14 c = float_sub _ c.in-14.is _ _ _ c.nan_apart-in-14.ensures

pub returns-in-15 : goal.returns-in-15
returns-in-15 c = float_mul _ c.in-15.is _ _ _ c.nan_apart-in-15.ensures

pub returns-in-16 : goal.returns-in-16
returns-in-16 c = float_div _ c.in-16.is _ _ _ c.nan_apart-in-16.ensures

pub returns-in_default : goal.returns-in_default
unfolding float_of
returns-in_default c = float_none_four c.args.op (omega arith) (omega arith) (omega arith) (omega arith) _ _
