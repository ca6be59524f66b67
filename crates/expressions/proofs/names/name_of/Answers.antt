-- A record's name by the lowest record with its text.
-- That record stands in the tree. Assumes nothing.
use native.Mathlib.Omega.{arith}
use Rattle.expressions.proofs.OriginalLaws.{origin_inside}
use Rattle.expressions.proofs.names.name_of.Goals as goal

pub word-requires : goal.word-requires
word-requires c = (origin_inside c.requires c.original-number.ensures, omega arith)

pub word-requires-2 : goal.word-requires-2
word-requires-2 c = (origin_inside c.requires c.original-number.ensures, omega arith)
