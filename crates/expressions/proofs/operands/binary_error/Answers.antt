-- `binary_error` meets its contract: the right operand's range first, then the left's, then the operands.
-- By the tests' answers; an expression's record is its place. Assumes nothing.
use Rattle.expressions.proofs.OperandLaws.{right-fits, left-fits, error-right, error-left, error-rest}
use Rattle.expressions.proofs.operands.binary_error.Goals as goal

pub range_error-requires : goal.range_error-requires
range_error-requires c = record { expr = (right-fits _ _ c.requires.good _ c.requires.operands).0; fact = (right-fits _ _ c.requires.good _ c.requires.operands).1.0; fact_2 = (right-fits _ _ c.requires.good _ c.requires.operands).1.1 }

pub returns-then-range_error : goal.returns-then-range_error
returns-then-range_error c = error-right _ _ c.requires.good _ c.requires.operands _ _ c.range_error.ensures c.if-range_error.true _ c.refuse.ensures

pub range_error-requires-2 : goal.range_error-requires-2
range_error-requires-2 c = record { expr = (left-fits _ _ c.requires.good _ c.requires.operands).0; fact = (left-fits _ _ c.requires.good _ c.requires.operands).1.0; fact_2 = (left-fits _ _ c.requires.good _ c.requires.operands).1.1 }

pub returns-then-range_error-2 : goal.returns-then-range_error-2
returns-then-range_error-2 c = error-left _ _ c.requires.good _ c.requires.operands _ _ c.range_error.ensures c.if-range_error.false _ c.range_error-2.ensures c.if-range_error-2.true _ c.refuse-then-range_error-2.ensures

pub returns : goal.returns
returns c = error-rest _ _ c.requires.good _ c.requires.operands _ _ c.range_error.ensures c.if-range_error.false _ c.range_error-2.ensures c.if-range_error-2.false _ c.refuse-2.ensures
