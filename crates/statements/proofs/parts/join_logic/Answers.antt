-- Between the sides of an And or Or, by the operator.
-- The test of the detail is the definition's choice. Assumes nothing.
use Rattle.statements.proofs.AroundLaws.{join_and-adds, join_or-adds}
use Rattle.statements.proofs.parts.join_logic.Goals as goal

pub returns-then-detail-eq-AND : goal.returns-then-detail-eq-AND
returns-then-detail-eq-AND c = join_and-adds _ _ _ c.args.left c.detail.ensures c.if-detail-eq-AND.true c.join_and.ensures

pub returns : goal.returns
returns c = join_or-adds _ _ _ c.args.left c.detail.ensures c.if-detail-eq-AND.false c.join_or.ensures
