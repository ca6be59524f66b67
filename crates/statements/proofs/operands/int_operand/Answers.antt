-- An Int's operand.
-- Its marks are the bits of the detail. Assumes nothing.
use Rattle.statements.proofs.LeafLaws.{int_is}
use Rattle.statements.proofs.operands.int_operand.Goals as goal

pub returns : goal.returns
returns c = int_is _ _ _ _ c.detail-marks.ensures c.two_words-bits.ensures
