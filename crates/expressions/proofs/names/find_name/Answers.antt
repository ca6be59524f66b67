-- The variable of a record's name.
-- By what `find_variable` owes of the words of the lowest record with the text. Assumes nothing.
use Rattle.expressions.proofs.OriginalLaws.{slot-inside, origin_found}
use Rattle.expressions.proofs.names.find_name.Goals as goal

pub find_variable-requires : goal.find_variable-requires
find_variable-requires c = let asked = c.requires in
    record { names_room = asked.scoped.room; o_lt_records = slot-inside asked c.name_of.ensures.0 }

pub returns : goal.returns
returns c = let name = c.name_of.ensures in
    origin_found c.requires name.0 name.1 name.2 _ c.find_variable.ensures
