-- A Float's operand.
-- The number of its entry, whose mark is the detail. Assumes nothing.
use Rattle.statements.proofs.LeafLaws.{float_leaf}
use borrow.Author.Rules.{rules}
use Rattle.statements.proofs.operands.float_operand.Goals as goal

pub returns : goal.returns
returns c = float_leaf _ _ _ _ _ _ _ (search rules) c.requires.1 c.requires.2 _ _ _ c.two_words.ensures c.detail.ensures c.float_entry-f.ensures c.float_id.ensures
