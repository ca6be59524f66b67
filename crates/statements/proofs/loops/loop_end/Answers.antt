-- Behind the body of a loop.
-- A jump and a label in a row. Assumes nothing.
use Rattle.statements.proofs.HeadLaws.{back_adds}
use Rattle.statements.proofs.loops.loop_end.Goals as goal

pub returns : goal.returns
returns c = back_adds _ c.jump.ensures c.place_label.ensures
