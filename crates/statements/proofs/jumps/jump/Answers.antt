-- A jump to the label of a kind and a record.
-- The label's step and then the instruction's. Assumes nothing.
use Rattle.statements.proofs.JumpLaws.{jump_adds}
use Rattle.statements.proofs.jumps.jump.Goals as goal

pub returns : goal.returns
returns c = search jump_adds
