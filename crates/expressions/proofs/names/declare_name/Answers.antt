-- The name of a record declared.
-- By what `declare` owes of the words of the lowest record with the text. Assumes nothing.
use Rattle.expressions.proofs.OriginalLaws.{slot-inside, origin_declared}
use Rattle.expressions.proofs.names.declare_name.Goals as goal

pub declare-requires : goal.declare-requires
declare-requires c = let first = c in
    record { names_room = c.requires.0.scoped.room; name_afforded = c.requires.1; o_lt_records = slot-inside c.requires.0 c.name_of-name.ensures.0 }

pub returns : goal.returns
returns c = let name = c.name_of-name.ensures in
    origin_declared c.requires.0 name.0 name.1 name.2 _ _ _ _ c.declare.ensures
