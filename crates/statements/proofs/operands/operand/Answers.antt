-- The operand of an expression without operands.
-- By its kind. Assumes nothing.
use mathlib.Core.Path.{refl}
use native.Mathlib.Omega.{arith}
use Rattle.statements.proofs.LeafLaws.{leaf_answers, leaf_int, leaf_bool, leaf_null}
use Rattle.statements.proofs.ConvertLaws.{converts-most}
use Rattle.statements.proofs.operands.operand.Goals as goal

pub returns-in-2 : goal.returns-in-2
returns-in-2 c = leaf_int _ _ _ _ _ _ c.requires.converting c.requires.expr.0 _ c.kind.ensures c.in-2.is _ c.int_operand.ensures

pub returns-in-3 : goal.returns-in-3
returns-in-3 c = leaf_answers _ _ _ _ _ _ _ _ _ _ _ c.float_operand.ensures refl (omega arith)

pub returns-in-4 : goal.returns-in-4
returns-in-4 c = leaf_answers _ _ _ _ _ _ _ _ _ _ _ c.string_operand.ensures refl (omega arith)

pub returns-in-5 : goal.returns-in-5
returns-in-5 c = leaf_bool _ _ _ _ _ _ c.requires.converting c.requires.expr.0 _ c.kind.ensures c.in-5.is _ c.detail.ensures

pub returns-in-7 : goal.returns-in-7
returns-in-7 c = leaf_null _ _ _ _ _ _ c.requires.converting c.requires.expr.0 _ c.kind.ensures c.in-7.is

pub returns-in_default : goal.returns-in_default
returns-in_default c = converts-most (omega arith) (c.size_operand.ensures _ _ _ _ c.requires.converting)
