-- The operators that may fold to nothing. Each answer is a case of `FoldCases`. Assumes nothing.
use native.Mathlib.Omega.{arith}
use Rattle.types.proofs.FoldCases.{two_shl, two_shr, two_add, two_sub, two_mul, two_div, two_rem, two_none}
use Rattle.types.proofs.int_value.fold_checked.Goals as goal

pub returns-in-11 : goal.returns-in-11
returns-in-11 c = two_shl _ _ _ c.in-11.is c.fold_shl.result c.fold_shl.ensures

pub returns-in-12 : goal.returns-in-12
returns-in-12 c = two_shr _ _ _ c.in-12.is c.checked_shr_by.result c.checked_shr_by.ensures

pub returns-in-13 : goal.returns-in-13
returns-in-13 c = two_add _ _ _ c.in-13.is c.checked_add.result c.checked_add.ensures

pub returns-in-14 : goal.returns-in-14
returns-in-14 c = two_sub _ _ _ c.in-14.is c.checked_sub.result c.checked_sub.ensures

pub returns-in-15 : goal.returns-in-15
returns-in-15 c = two_mul _ _ _ c.in-15.is c.checked_mul.result c.checked_mul.ensures

pub returns-in-16 : goal.returns-in-16
returns-in-16 c = two_div _ _ _ c.in-16.is c.checked_div.result c.checked_div.ensures

pub returns-in-17 : goal.returns-in-17
returns-in-17 c = two_rem _ _ _ c.in-17.is c.checked_rem.result c.checked_rem.ensures

pub returns-in_default : goal.returns-in_default
returns-in_default c = two_none c.args.op _ _ c.requires (omega arith) (omega arith) (omega arith) (omega arith) (omega arith) (omega arith) (omega arith)
