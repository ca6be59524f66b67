-- A SizeOf's operand: the size, or a refusal where there is none.
-- By the three answers. Assumes nothing.
use Rattle.statements.proofs.LeafLaws.{no_bytes, size-inside, size-gives, size_refuses}
use Rattle.statements.proofs.operands.size_operand.Goals as goal

pub size-requires : goal.size-requires
size-requires c = size-inside c.requires.0 c.requires.1 c.reference.ensures

pub returns-in-Exactly : goal.returns-in-Exactly
returns-in-Exactly c = λ w s k l x. size-gives _ _ _ _ _ _ x c.requires.1 _ c.reference.ensures _ c.size.ensures.exact c.size.ensures.size _ c.in-Exactly.is

pub returns-in-Over : goal.returns-in-Over
returns-in-Over c = λ w s k l x. size_refuses _ _ _ _ _ _ x c.requires.1 _ c.reference.ensures _ c.size.ensures.exact c.size.ensures.size (no_bytes _ c.in-Over.is) _ c.error_at.ensures
