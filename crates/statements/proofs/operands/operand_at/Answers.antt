-- The operand of an entry of the stack.
-- By the four words that are read. Assumes nothing.
use Rattle.statements.proofs.StackLaws.{entry_read}
use Rattle.statements.proofs.operands.operand_at.Goals as goal

pub returns : goal.returns
returns c = entry_read _ _ _ _ _ _ _ _ c.load-a.ensures c.load-b.ensures c.load-c.ensures c.load-d.ensures c.operand_of.ensures
