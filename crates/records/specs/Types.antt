-- What a type record stands for: the Rust's `Type`, whole, with its inner types inside. Assumes nothing: these are definitions.
use Rattle.std.specs.Prelude.{ℕ, ◌+◌, ◌*◌, Bool, true, false, List, eqb}
use Rattle.laws.specs.Fix.{pick, below, fix}
use Rattle.records.specs.Kinds.{form_address, form_array, form_custom}
use Rattle.records.specs.Words.{detail_of, word_of, text_at, A, B, C}

-- `enum Type` of parser/postparser/structs.rs
pub data KrcType : Type 0 where
  -- short, unsigned
  KInt : Bool → Bool → KrcType
  -- short
  KFloat : Bool → KrcType
  KBool KChar KByte : KrcType
  KAddress : KrcType → KrcType
  -- element, count
  KArray : KrcType → ℕ → KrcType
  -- the bytes of its name
  KCustom : List ℕ → KrcType
  KNull : KrcType

-- '1 Int, 2 Float (each with 16 for short, 32 for unsigned Int), 3 Bool, 4 Char, 5 Byte, .. 9 Null'
unfoldable pub plain_of : ℕ → KrcType
unfolding pick
plain_of d =
    pick (eqb d 1) (KInt false false)
    (pick (eqb d 17) (KInt true false)
    (pick (eqb d 33) (KInt false true)
    (pick (eqb d 49) (KInt true true)
    (pick (eqb d 2) (KFloat false)
    (pick (eqb d 18) (KFloat true)
    (pick (eqb d 3) KBool
    (pick (eqb d 4) KChar
    (pick (eqb d 5) KByte
    KNull))))))))

-- '6 Address (A inner), 7 Array (A element, B C count low, high), 8 Custom (A B name)'; the key text is not looked at
unfoldable pub type_step : List ℕ → List ℕ → (ℕ → KrcType) → ℕ → KrcType
unfolding pick below plain_of detail_of word_of text_at
type_step tree text g r =
    pick (eqb (detail_of tree r) form_address) (KAddress (below g r (word_of tree r A) KNull))
    (pick (eqb (detail_of tree r) form_array) (KArray (below g r (word_of tree r A) KNull) (word_of tree r B + word_of tree r C * 4294967296))
    (pick (eqb (detail_of tree r) form_custom) (KCustom (text_at text (word_of tree r A) (word_of tree r B)))
    (plain_of (detail_of tree r))))

-- the type that type record r stands for
unfoldable pub krc_type_at : List ℕ → List ℕ → ℕ → KrcType
unfolding fix type_step
krc_type_at tree text r = fix KNull (type_step tree text) r
