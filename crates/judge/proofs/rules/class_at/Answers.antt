-- What the list holds that begins at a record, 0 where it is no cell.
-- Each return is a case of the definition. Assumes nothing.
use Rattle.judge.proofs.ListClass.{class_cell, class_plain}
use Rattle.judge.proofs.rules.class_at.Goals as goal

pub returns-then-k-eq-KIND_LIST : goal.returns-then-k-eq-KIND_LIST
returns-then-k-eq-KIND_LIST c = class_cell _ _ _ _ _ _ c.if-k-eq-KIND_LIST.true _ c.cell_class.ensures

pub returns : goal.returns
returns c = class_plain _ _ _ _ _ _ c.if-k-eq-KIND_LIST.false
