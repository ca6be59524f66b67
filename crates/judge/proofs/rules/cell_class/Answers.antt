-- What the list holds that begins at a cell.
-- Each return is a case of the definition. Assumes nothing.
use Rattle.judge.proofs.ListClass.{cell_out, cell-last, cell_mixed, cell_same}
use Rattle.judge.proofs.rules.cell_class.Goals as goal

pub returns-then-item-r : goal.returns-then-item-r
returns-then-item-r c = cell_out _ _ _ _ _ _ c.index-item.ensures c.if-item-r.true

pub returns-then-b-eq-NONE : goal.returns-then-b-eq-NONE
returns-then-b-eq-NONE c = cell-last _ _ _ _ _ _ c.index-item.ensures c.if-item-r.false _ c.item_class-class.ensures c.if-b-eq-NONE.true

pub returns-then-class_below-class : goal.returns-then-class_below-class
returns-then-class_below-class c = cell_mixed _ _ _ _ _ _ c.index-item.ensures c.if-item-r.false _ c.item_class-class.ensures c.if-b-eq-NONE.false _ c.class_below.ensures c.if-class_below-class.true

pub returns : goal.returns
returns c = cell_same _ _ _ _ _ _ c.index-item.ensures c.if-item-r.false _ c.item_class-class.ensures c.if-b-eq-NONE.false _ c.class_below.ensures c.if-class_below-class.false
