-- One layout of the scratch: 72 bytes a record, cut into regions that lie one behind the other. Assumes nothing: these are definitions.
use Rattle.std.specs.Prelude.{ℕ, ◌+◌, Bool, ◌&&◌, List, [], ◌∷◌, leb}

-- with n records, a region has `each` bytes for each record and starts at byte `from` times n
pub record Region : Type 0 where
  pub from : ℕ
  pub each : ℕ

-- and ends before byte `end_of` times n
abbrev pub end_of : Region → ℕ
end_of g = g.from + g.each

-- what the judge knows of a record: four bytes in a slot (how deep it is, how often it is referred to, what its list holds, its kind). The first slot belongs to
-- none, that of record r is slot r + 1
abbrev pub known_bytes : ℕ
known_bytes = 4

-- within a slot: how deep the record is, how often it is referred to, what its list holds, its kind
abbrev pub slot_depth : ℕ
slot_depth = 0

abbrev pub slot_count : ℕ
slot_count = 1

abbrev pub slot_class : ℕ
slot_class = 2

abbrev pub slot_kind : ℕ
slot_kind = 3

-- the same in the slot behind, so that record r's stand at `r * known_bytes + next_depth` and so on
abbrev pub next_depth : ℕ
next_depth = known_bytes + slot_depth

abbrev pub next_count : ℕ
next_count = known_bytes + slot_count

abbrev pub next_class : ℕ
next_class = known_bytes + slot_class

abbrev pub next_kind : ℕ
next_kind = known_bytes + slot_kind

-- what the judge knows: the first slot and one for each record, so that the last lies in the region behind, which has nothing yet; before that, twelve bytes for each
-- type, while equal types are looked for, and behind them, where names overlap, the samples of the text (`specs/Samples.antt`), or where the types are sorted, from byte
-- 0 on instead, two arrays of entries of eight bytes a type (`sorting/specs/Sorted.antt`); once the tree is judged, twelve for each record, while equal texts are looked
-- for (`specs/Chains.antt`, `specs/Order.antt`), and behind them, up to the numbers of the texts, the samples again where texts overlap, or where texts are sorted, from
-- byte 0 on instead, two such arrays of eight bytes a record; then the functions' records in their order, a word each
abbrev pub judging : Region
judging = record { from = 0; each = 4 }

-- the types of expressions: a word at the slot of the expression's record
abbrev pub type_slots : Region
type_slots = record { from = 4; each = 4 }

-- the open names, the innermost last: four words each (offset and length of the lowest record with the name, variable, twice its type and 1 if constant)
abbrev pub open_names : Region
open_names = record { from = 8; each = 16 }

-- the operands of calls whose arguments are being converted: 16 bytes each
abbrev pub operands : Region
operands = record { from = 24; each = 16 }

-- the numbers of the texts: for each record that has a text the lowest record with the same one, a word at the record's slot. A function's record has no
-- text: at its slot stands one more than the function before it in the bucket of its key's digest, or 0
abbrev pub originals : Region
originals = record { from = 40; each = 4 }

-- the functions by key: at the slot of a text's number one more than the record of the function whose key the text is, or 0, a word. At the slot of a mangled
-- function's record stands one more than the mangled function before it with the same name, or 0
abbrev pub key_slots : Region
key_slots = record { from = 44; each = 4 }

-- the functions by the digests of their keys: for each bucket one more than the last function in it, or 0, a word (`roll_of` in `specs/Digest.antt` is the
-- digest, `bucket_of` in `specs/Chains.antt` its bucket)
abbrev pub key_heads : Region
key_heads = record { from = 48; each = 4 }

-- the digests of the texts: for each record that has a text `roll_of` of it, a word at the record's slot; at that of a function's record `roll_of` of its key
abbrev pub text_digests : Region
text_digests = record { from = 52; each = 4 }

-- the mangled functions by name: at the slot of a text's number one more than the last of them whose name the text is, or 0, a word
abbrev pub name_heads : Region
name_heads = record { from = 56; each = 4 }

-- the open names by text: at the slot of a text's number the place among the open names where the text was last declared, a word
abbrev pub name_slots : Region
name_slots = record { from = 60; each = 4 }

-- for each expression the turn in which its type was worked out: a word at the slot of its record
abbrev pub turns : Region
turns = record { from = 64; each = 4 }

-- what is kept beside the types of expressions, a word at the slot of the expression's record: of a call the record of what it runs, of a Binary the type that both
-- sides take. Record 0 is a type: in the first word stands how many visits were made
abbrev pub besides : Region
besides = record { from = 68; each = 4 }

abbrev pub layout : List Region
layout = judging ∷ type_slots ∷ open_names ∷ operands ∷ originals ∷ key_slots ∷ key_heads ∷ text_digests ∷ name_heads ∷ name_slots ∷ turns ∷ besides ∷ []

-- document 02, point 9: 'Scratch grows to 72n bytes'
abbrev pub scratch_each : ℕ
scratch_each = 72

-- each region starts behind the one before, and the last ends within so many bytes a record
unfoldable pub fits_within : ℕ → ℕ → List Region → Bool
fits_within each at [] = leb at each
fits_within each at (x ∷ l) = leb at x.from && fits_within each (end_of x) l
