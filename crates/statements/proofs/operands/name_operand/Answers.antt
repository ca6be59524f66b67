-- A name's operand: its variable, or a refusal at the name.
-- By what the search for the name finds. Assumes nothing.
use Rattle.statements.proofs.LeafLaws.{name-ready, name-gives, name_refuses}
use Rattle.statements.proofs.operands.name_operand.Goals as goal

pub find_name-requires : goal.find_name-requires
find_name-requires c = name-ready c.requires.0 c.requires.1

pub returns-in-Some : goal.returns-in-Some
returns-in-Some c = λ k l x. name-gives _ _ _ _ _ _ x c.requires.1 _ c.find_name.ensures _ c.in-Some.is

pub returns-in-None : goal.returns-in-None
returns-in-None c = λ k l x. name_refuses _ _ _ _ _ _ x c.requires.1 _ c.find_name.ensures c.in-None.is _ c.error_at.ensures
