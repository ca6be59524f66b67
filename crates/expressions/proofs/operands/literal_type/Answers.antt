-- `literal_type` meets its contract: each literal has one of the twelve first types.
-- By the kind of the record, and by the marks of an Int and of a Float. Assumes nothing.
use native.Mathlib.Omega.{arith}
use Rattle.expressions.proofs.LeafLaws.{literal_int, literal_float, literal-str, literal-bool, literal_null, literal-size}
use Rattle.expressions.proofs.operands.literal_type.Goals as goal

pub returns-in-2 : goal.returns-in-2
returns-in-2 c = literal_int _ _ c.requires.good _ c.requires.expr _ c.kind.ensures c.in-2.is _ c.detail-mark.ensures

pub returns-in-3 : goal.returns-in-3
returns-in-3 c = literal_float _ _ c.requires.good _ c.requires.expr _ c.kind.ensures c.in-3.is _ c.detail-mark.ensures

pub returns-in-4 : goal.returns-in-4
returns-in-4 c = literal-str _ _ c.requires.good _ c.requires.expr _ c.kind.ensures c.in-4.is

pub returns-in-5 : goal.returns-in-5
returns-in-5 c = literal-bool _ _ c.requires.good _ c.requires.expr _ c.kind.ensures c.in-5.is

pub returns-in-7 : goal.returns-in-7
returns-in-7 c = literal_null _ _ c.requires.good _ c.requires.expr _ c.kind.ensures c.in-7.is

pub returns-in_default : goal.returns-in_default
returns-in_default c = literal-size _ _ c.requires.good _ c.requires.expr _ c.kind.ensures c.requires.e_bound
    (λ e. omega arith) (λ e. omega arith) (λ e. omega arith) (λ e. omega arith) (λ e. omega arith)
