-- The number that stands at the slot of the key's record.
-- By the laws of a key's record. Assumes nothing.
use Rattle.keys.proofs.SlotLaws.{number-inside, number_read}
use Rattle.keys.proofs.keys.key_number.Goals as goal

pub original-requires : goal.original-requires
original-requires c = let first = c in
    number-inside _ _ c.requires.good.0 _ c.requires.function_at c.args.scratch.now _ c.key_record.ensures c.requires.good.2

pub returns : goal.returns
returns c = let first = c in
    number_read _ _ c.requires.good.0 _ c.requires.function_at _ _ c.key_record.ensures c.requires.good.1 _ c.original.ensures
