-- An operand written on the stack.
-- Its four words are its entry's bytes, and are read back. Assumes nothing.
use Rattle.statements.proofs.StackLaws.{push-done}
use borrow.Author.Rules.{rules}
use Rattle.statements.proofs.operands.push_operand.Goals as goal

pub returns : goal.returns
returns c = record { written = (push-done _ _ _ _ _ _ _ _ _ c.requires (search rules) (search rules) (search rules) (search rules) (c.operand_words-w.ensures.bytes, c.operand_words-w.ensures.back) c.put_four.ensures).0; back = (push-done _ _ _ _ _ _ _ _ _ c.requires (search rules) (search rules) (search rules) (search rules) (c.operand_words-w.ensures.bytes, c.operand_words-w.ensures.back) c.put_four.ensures).1 }
