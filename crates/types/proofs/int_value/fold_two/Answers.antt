-- A binary operator on two values. Each answer is a case of `FoldCases`, or what the callee ensures. Assumes nothing.
use native.Mathlib.Omega.{arith}
use Rattle.types.proofs.FoldCases.{two_middle, two_low}
use Rattle.types.proofs.int_value.fold_two.Goals as goal

pub returns-in_default : goal.returns-in_default
returns-in_default c = two_low c.args.op _ _ (omega arith)

pub returns-in_default-2 : goal.returns-in_default-2
returns-in_default-2 c = two_middle c.args.op _ _ (omega arith) (omega arith)
