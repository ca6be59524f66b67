-- The row of a shape.
-- The packed row is taken apart digit by digit; `assembled` puts the parts together. Assumes nothing.
use Rattle.records.proofs.ShapeTable.{assembled}
use Rattle.records.proofs.shape.row_of.Goals as goal

pub returns : goal.returns
returns c = assembled _ _ _ _ _ _ _ c.packed-p.ensures c.role_of-a.ensures c.role_of-b.ensures c.role_of-c.ensures c.role_of-d.ensures c.role_of-e.ensures
