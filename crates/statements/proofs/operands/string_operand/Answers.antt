-- A string's operand.
-- The number of its text stands in scratch, and by it the string is numbered. Assumes nothing.
use native.Mathlib.Omega.{arith}
use Rattle.statements.proofs.LeafLaws.{string_leaf, string_number, string_below}
use borrow.Author.Rules.{rules}
use Rattle.statements.proofs.operands.string_operand.Goals as goal

pub string_id-requires : goal.string_id-requires
string_id-requires c = (c.requires.converting.room, omega (arith, c.requires.affords.0.strings), string_below c.requires.converting c.requires.affords.1 c.original.ensures)

pub returns : goal.returns
returns c = let first = c in
    string_leaf _ _ _ _ _ _ _ (search rules) c.requires.affords.1 _ _ c.word.ensures c.word-2.ensures _ c.requires.converting.records_are
    (string_number c.requires.converting c.requires.affords.1 c.original.ensures) c.string_id.ensures
