-- `unary_type` meets its contract: the operand's type where the operator takes it, else a refusal at the expression.
-- By the test's answer. Assumes nothing.
use Rattle.expressions.proofs.OperandLaws.{unary-taken, unary-refused}
use Rattle.expressions.proofs.operands.unary_type.Goals as goal

pub returns-then-accepts_unary : goal.returns-then-accepts_unary
returns-then-accepts_unary c = unary-taken _ _ _ _ _ c.detail.ensures _ (c.accepts_unary.ensures _) c.if-accepts_unary.true c.requires.type_at

pub returns : goal.returns
returns c = unary-refused _ _ _ _ _ c.detail.ensures _ (c.accepts_unary.ensures _) c.if-accepts_unary.false _ c.refuse.ensures
