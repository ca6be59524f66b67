-- What the slot of the key's number says.
-- By the laws of a slot. Assumes nothing.
use Rattle.keys.proofs.SlotLaws.{own-found}
use Rattle.keys.proofs.keys.find_own_key.Goals as goal

pub returns : goal.returns
returns c = let first = c in
    own-found _ _ _ c.requires.good.0 _ c.requires.function_at _ c.key_number.ensures.0 _ c.find_key.ensures
