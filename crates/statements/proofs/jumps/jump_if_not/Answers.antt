-- A jump to the label of a kind and a record, unless the condition holds.
-- The label's step and then the instruction's. Assumes nothing.
use Rattle.statements.proofs.JumpLaws.{jump_if_not-adds}
use Rattle.statements.proofs.jumps.jump_if_not.Goals as goal

pub returns : goal.returns
returns c = search jump_if_not-adds
