-- What the slot of a number says: 0, or one more than a function's record.
-- By the law of a slot. Assumes nothing.
use Rattle.keys.proofs.SlotLaws.{slot_told}
use Rattle.keys.proofs.keys.find_key.Goals as goal

pub returns : goal.returns
returns c = slot_told _ _ _ _ _ c.load.ensures _ c.checked_sub.ensures
