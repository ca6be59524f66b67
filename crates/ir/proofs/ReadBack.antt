-- The searches through the arena are the definitions' searches through the tables that it holds.
-- The words of each entry are read back, and compared as the definition compares. Assumes nothing.
use mathlib.Core.Path.{◌≡◌, refl, sym, ap, ap₂, ◌∙◌}
use mathlib.Core.Bool.{Bool, true, false, ◌&&◌, beq}
use mathlib.Core.List.{List, [], ◌∷◌, ◌++◌}
use mathlib.Core.Option.{none, some}
use Prim.Native.Nat.{ℕ, zero, suc, ◌+◌, ◌-◌, ◌*◌, ◌/◌, ◌%◌, ◌^◌, ◌≤◌, ◌<◌}
use native.Mathlib.Omega.{arith}
use lib.Dec.{eqb, ltb}
use lib.ListN.{length, get_or, length-append}
use lib.Seq.{get_or-append-add}
use borrow.Author.Tests.{eqb-true, eq-eqb, ltb-true, lt-ltb}
use Rattle.laws.specs.All.{All}
use Rattle.laws.proofs.Tests.{and_left, and_right}
use Rattle.records.specs.Words.{byte_at, word_at}
use Rattle.records.proofs.Apart.{word_back}
use Rattle.std.specs.Prelude.{Option as StdOption, Some, None}
use Rattle.conversion.specs.Ir.{LabelName, FloatEntry, position, same_label, same_float}
use Rattle.conversion.specs.Written.{bytes_of, word, wide, bool_number, encode_label, encode_float, all_labels}
use Rattle.ir.specs.declared.structs.Counters.{Counters}
use Rattle.conversion.specs.Fits.{FloatFits}
use Rattle.ir.specs.Arena.{NumberedTexts, TablesSoFar, LabelFits, label_slot, no_label, float_entry_bucket, no_float, Holds}
use Rattle.ir.specs.Steps.{named}
use Rattle.ir.specs.Search.{label_words_at, label_is, float_words_at, Walks, float_bucket_at, float_head}
use Rattle.ir.proofs.Entries.{table-word}
use Rattle.ir.proofs.EntryLinks.{buckets, entry_start, entry-there, entry_missing, floats_alike}
use Rattle.ir.proofs.LinkLaws.{Start}
use Rattle.ir.proofs.SlotLaws.{slot-found, slot_nowhere}

-- the entry at byte p is the float x: its bits, the lower word first, and its mark
pub record FloatAt (l : List ℕ) (p : ℕ) (x : FloatEntry) : Type 0 where
  pub low : word_at l p ≡ x.bits % 4294967296
  pub high : word_at l (p + 4) ≡ x.bits / 4294967296
  pub mark : word_at l (p + 8) ≡ bool_number x.short

all-at : {X : Type 0} (P : X → Type 0) (xs : List X) (d : X) (j : ℕ) → All P xs → j < length xs → P (get_or xs j d)
all-at P [] d j a h = absurd (omega arith)
all-at P (x ∷ xs) d zero a h = a.0
all-at P (x ∷ xs) d (suc j) a h = all-at P xs d j a.1 (omega arith)

-- ---- the words of entries

label_kind : (x : LabelName) → LabelFits x → word_at (encode_label x) 0 ≡ x.kind
unfolding encode_label word bytes_of word_at byte_at
label_kind x f = word_back x.kind f.kind

label_opener : (x : LabelName) → LabelFits x → word_at (encode_label x) 4 ≡ x.opener
unfolding encode_label word bytes_of word_at byte_at
label_opener x f = word_back x.opener f.opener

float_low : (x : FloatEntry) → word_at (encode_float x) 0 ≡ x.bits % 4294967296
unfolding encode_float word wide bytes_of word_at byte_at
float_low x = omega arith

float_high : (x : FloatEntry) → FloatFits x → word_at (encode_float x) 4 ≡ x.bits / 4294967296
unfolding encode_float word wide bytes_of word_at byte_at
float_high x f = omega (arith, f.bits)

mark_below : (b : Bool) → bool_number b < 2 ^ 32
unfolding bool_number
mark_below true = omega arith
mark_below false = omega arith

float_mark : (x : FloatEntry) → word_at (encode_float x) 8 ≡ bool_number x.short
unfolding encode_float word wide bytes_of word_at byte_at
float_mark x = word_back (bool_number x.short) (mark_below x.short)

-- ---- comparing

same_bool : (a b : Bool) → (a ≡ true → b ≡ true) → (b ≡ true → a ≡ true) → a ≡ b
same_bool true b f g = sym (f refl)
same_bool false true f g = g refl
same_bool false false f g = refl

and_both : (a b : Bool) → a ≡ true → b ≡ true → (a && b) ≡ true
and_both a b e q = rw (e, q)

-- two numbers are equal if their halves are
glue : (a b : ℕ) → a % 4294967296 ≡ b % 4294967296 → a / 4294967296 ≡ b / 4294967296 → a ≡ b
glue a b p q = omega arith

halves : (a b : ℕ) → (eqb (a % 4294967296) (b % 4294967296) && eqb (a / 4294967296) (b / 4294967296)) ≡ eqb a b
halves a b =
    let x : Bool = eqb (a % 4294967296) (b % 4294967296) in
    let y : Bool = eqb (a / 4294967296) (b / 4294967296) in
    same_bool (x && y) (eqb a b)
    (λ e. eq-eqb a b (glue a b (eqb-true (a % 4294967296) (b % 4294967296) (and_left x y e)) (eqb-true (a / 4294967296) (b / 4294967296) (and_right x y e))))
    (λ e. and_both x y (eq-eqb (a % 4294967296) (b % 4294967296) (ap (λ (z : ℕ). z % 4294967296) (eqb-true a b e)))
    (eq-eqb (a / 4294967296) (b / 4294967296) (ap (λ (z : ℕ). z / 4294967296) (eqb-true a b e))))

marks : (a b : Bool) → eqb (bool_number a) (bool_number b) ≡ beq a b
unfolding bool_number
marks true true = refl
marks true false = refl
marks false true = refl
marks false false = refl

-- ---- the searches

module _ (texts : NumberedTexts) (t : TablesSoFar) (k : Counters) (l : List ℕ) (h : Holds texts t k l) where
  -- entry j of the labels of the function at hand
  label_entry : (j : ℕ) → get_or (all_labels t.done ++ t.state.labels) (k.labels_before + j) no_label ≡ get_or t.state.labels j no_label
  label_entry j =
      ap (λ (m : ℕ). get_or (all_labels t.done ++ t.state.labels) (m + j) no_label) h.before.labels_before
      ∙ get_or-append-add (all_labels t.done) t.state.labels j no_label

  labels-count : k.labels ≡ k.labels_before + length t.state.labels
  labels-count = h.labels_hold.count ∙ length-append (all_labels t.done) t.state.labels ∙ omega (arith, h.before.labels_before)

  label_word : (j b p : ℕ) → j < length t.state.labels → b + 4 ≤ 8 → p ≡ 140 * k.records + (8 * (k.labels_before + j) + b)
      → word_at l p ≡ word_at (encode_label (get_or t.state.labels j no_label)) b
  label_word j b p hj hb e =
      table-word h.labels_hold no_label (k.labels_before + j) b p (omega (arith, labels-count)) hb e
      ∙ ap (λ (x : LabelName). word_at (encode_label x) b) (label_entry j)

  label_same : (kind opener j : ℕ) → j < length t.state.labels
      → label_words_at l (140 * k.records + 8 * k.labels_before) kind opener j ≡ same_label (named kind opener) (get_or t.state.labels j no_label)
  unfolding label_words_at same_label
  label_same kind opener j hj =
      let f : LabelFits (get_or t.state.labels j no_label) = all-at LabelFits t.state.labels no_label j h.fits.labels_fit hj in
      ap₂ (λ (x y : ℕ). eqb kind x && eqb opener y)
      (label_word j 0 (140 * k.records + 8 * k.labels_before + 8 * j) hj (omega arith) (omega arith) ∙ label_kind (get_or t.state.labels j no_label) f)
      (label_word j 4 (140 * k.records + 8 * k.labels_before + 8 * j + 4) hj (omega arith) (omega arith) ∙ label_opener (get_or t.state.labels j no_label) f)

  -- the number at a label's slot tells where the label is: there, or nowhere
  module _ (kind opener i : ℕ) (e : i ≡ word_at l (label_slot k.records (named kind opener))) where
    abbrev in_reach : Bool
    in_reach = ltb i (k.labels - k.labels_before)

    abbrev this : Bool
    this = label_words_at l (140 * k.records + 8 * k.labels_before) kind opener i

    pub label_here : label_is l k kind opener i ≡ true → position (same_label (named kind opener)) t.state.labels ≡ some i
    unfolding label_is
    label_here q =
        let hi : i < length t.state.labels = omega (arith, ltb-true i (k.labels - k.labels_before) (and_left in_reach this q), labels-count) in
        slot-found h.slots_hold (named kind opener) i e hi (sym (label_same kind opener i hi) ∙ and_right in_reach this q)

    pub label_nowhere : label_is l k kind opener i ≡ false → position (same_label (named kind opener)) t.state.labels ≡ none
    unfolding label_is
    label_nowhere q =
        slot_nowhere h.slots_hold (named kind opener) i e (λ hi.
        let b : in_reach ≡ true = lt-ltb i (k.labels - k.labels_before) (omega (arith, labels-count)) in
        sym (label_same kind opener i hi) ∙ sym (ap (λ (c : Bool). c && this) b) ∙ q)

  -- entry j of the floats
  pub floats_at : (j : ℕ) → j < length t.state.floats → FloatAt l (204 * k.records + 16 * j) (get_or t.state.floats j no_float)
  floats_at j hj =
      let x : FloatEntry = get_or t.state.floats j no_float in
      let f : FloatFits x = all-at FloatFits t.state.floats no_float j h.fits.floats_fit hj in
      let c : j < k.floats = omega (arith, h.floats_hold.count) in record {
        low = table-word h.floats_hold no_float j 0 (204 * k.records + 16 * j) c (omega arith) (omega arith) ∙ float_low x;
        high = table-word h.floats_hold no_float j 4 (204 * k.records + 16 * j + 4) c (omega arith) (omega arith) ∙ float_high x f;
        mark = table-word h.floats_hold no_float j 8 (204 * k.records + 16 * j + 8) c (omega arith) (omega arith) ∙ float_mark x;
      }

  float_same : (e : FloatEntry) (j : ℕ) → j < length t.state.floats
      → float_words_at l (204 * k.records) (e.bits % 4294967296) (e.bits / 4294967296) (bool_number e.short) j ≡ same_float e (get_or t.state.floats j no_float)
  unfolding float_words_at same_float
  float_same e j hj =
      let x : FloatEntry = get_or t.state.floats j no_float in
      let a : FloatAt l (204 * k.records + 16 * j) x = floats_at j hj in
      ap₂ (λ (p q : Bool). p && q)
      (ap₂ (λ (p q : ℕ). eqb (e.bits % 4294967296) p && eqb (e.bits / 4294967296) q) a.low a.high ∙ halves e.bits x.bits)
      (ap (eqb (bool_number e.short)) a.mark ∙ marks e.short x.short)

  -- the bucket of entry j is its float's, and so a walk begins where the links say
  float_bucket_lem : (j : ℕ) → j < length t.state.floats → float_bucket_at l k.records j ≡ buckets (float_entry_bucket k.records) no_float t.state.floats j
  unfolding float_bucket_at
  float_bucket_lem j hj = let a : FloatAt l (204 * k.records + 16 * j) (get_or t.state.floats j no_float) = floats_at j hj in rw (a.low, a.high, a.mark) refl

  pub float_start : (b : ℕ) → Start (buckets (float_entry_bucket k.records) no_float t.state.floats) (length t.state.floats) b (float_head l k.records k.floats b)
  float_start b = entry_start h.float_links_hold k.floats h.floats_hold.count (float_bucket_at l k.records) float_bucket_lem b

  module _ (e : FloatEntry) where
    abbrev float_test : ℕ → Bool
    float_test = float_words_at l (204 * k.records) (e.bits % 4294967296) (e.bits / 4294967296) (bool_number e.short)

    abbrev from-float_head : StdOption ℕ → Type 0
    from-float_head r = Walks (λ j. word_at l (268 * k.records + 4 * j)) float_test (float_head l k.records k.floats (float_entry_bucket k.records e)) r

    pub float_here : (i : ℕ) → from-float_head (Some i) → position (same_float e) t.state.floats ≡ some i
    float_here i w = entry-there h.float_links_hold (floats_alike k.records) e float_test (float_same e) (float_start (float_entry_bucket k.records e)) i w

    pub float_gone : from-float_head None → position (same_float e) t.state.floats ≡ none
    float_gone w = entry_missing h.float_links_hold (floats_alike k.records) e float_test (float_same e) (float_start (float_entry_bucket k.records e)) w
