-- Between the blocks of the If.
-- A jump and a label in a row. Assumes nothing.
use Rattle.statements.proofs.HeadLaws.{middle_adds}
use Rattle.statements.proofs.loops.if_middle.Goals as goal

pub returns : goal.returns
returns c = middle_adds _ c.jump.ensures c.place_label.ensures
