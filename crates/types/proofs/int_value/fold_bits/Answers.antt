-- The three operators on bits. Each answer is a case of `FoldCases`. Assumes nothing.
use native.Mathlib.Omega.{arith}
use Rattle.types.proofs.FoldCases.{two_or, two_xor, two_and}
use Rattle.types.proofs.int_value.fold_bits.Goals as goal

pub returns-in-2 : goal.returns-in-2
returns-in-2 c = two_or _ _ _ c.in-2.is _ c.bitor.ensures

pub returns-in-3 : goal.returns-in-3
returns-in-3 c = two_xor _ _ _ c.in-3.is _ c.bitxor.ensures

pub returns-in_default : goal.returns-in_default
returns-in_default c = two_and _ _ _ c.requires.0 c.requires.1 (omega arith) (omega arith) _ c.bitand.ensures
