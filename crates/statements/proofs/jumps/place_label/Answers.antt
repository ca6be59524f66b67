-- The label of a kind and a record, placed.
-- The label's step and then the instruction's. Assumes nothing.
use Rattle.statements.proofs.JumpLaws.{place-adds}
use Rattle.statements.proofs.jumps.place_label.Goals as goal

pub returns : goal.returns
returns c = search place-adds
