-- An operator with a NaN on one side. Each answer is a case of `FoldCases`. Assumes nothing.
use native.Mathlib.Omega.{arith}
use Rattle.types.specs.Floats.{float_of}
use Rattle.types.proofs.FoldCases.{nan_left, nan_right, float_none-low, float_none-high}
use Rattle.types.proofs.float_value.fold_nan.Goals as goal

pub returns-in-13-to-16 : goal.returns-in-13-to-16
unfolding float_of
returns-in-13-to-16 c = record { left = nan_left c.args.op (omega arith) (omega arith); right = nan_right c.args.op (omega arith) (omega arith) }

pub returns-in_default : goal.returns-in_default
unfolding float_of
returns-in_default c = record { left = float_none-low c.args.op (omega arith) _; right = λ x. float_none-low c.args.op (omega arith) x _ }

pub returns-in_default-2 : goal.returns-in_default-2
unfolding float_of
returns-in_default-2 c = record { left = float_none-high c.args.op (omega arith) _; right = λ x. float_none-high c.args.op (omega arith) x _ }
