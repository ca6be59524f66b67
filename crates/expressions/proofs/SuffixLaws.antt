-- What the first cell of typed arguments adds to their suffixes, and what the loops over cells keep: what was asked equals what is left.
-- By what a cell is, and by the pieces of the text. Assumes nothing.
use mathlib.Core.Path.{◌≡◌, refl, sym, ap, ap₂, ◌∙◌}
use mathlib.Core.Bool.{Bool, true, false, ◌&&◌}
use mathlib.Core.List.{List, [], ◌∷◌, ◌++◌}
use Prim.Native.Nat.{ℕ, zero, suc, ◌+◌, ◌-◌, ◌*◌, ◌^◌, ◌≤◌, ◌<◌}
use native.Mathlib.Omega.{arith}
use lib.Dec.{eqb}
use lib.ListN.{length, take, drop, get_or}
use borrow.Author.Tests.{eqb-true, eqb-false, eq-eqb, ne_eqb}
use Rattle.laws.proofs.Tests.{tested}
use Rattle.records.specs.declared.shape.Role.TheVariants.{Arguments}
use Rattle.records.specs.Words.{byte_at, word_at, word_of, kind_of, text_at, records, most_records, none, A, B}
use Rattle.records.specs.Good.{Good}
use Rattle.syntax.specs.Syntax.{Text, Expr, Args, Value, ToType, place}
use Rattle.syntax.specs.Decode.{program, text_of, key_at}
use Rattle.conversion.specs.Ir.{same_text}
use Rattle.conversion.specs.Expressions.{dollar, suffixes, joined}
use Rattle.records.proofs.RollLaws.{text_split}
use Rattle.records.proofs.TextLaws.{text-length}
use Rattle.keys.specs.declared.parts.Part.{Part}
use Rattle.syntax.specs.Places.{expr_at, args_at}
use Rattle.keys.specs.Parts.{PartIs}
use Rattle.keys.specs.Keys.{all_keys}
use Rattle.expressions.specs.Slots.{slot_at, slotted, ArgsTyped, FirstType}
use Rattle.expressions.specs.Calls.{typed_at, suffixes_at, suffixes_stand, bytes_in, Argued}
use Rattle.syntax.proofs.Lists.{args_end, left, left-most, next_falls, Cell, cell-is, value-item, type-item}
use Rattle.expressions.proofs.NameLaws.{same-append, part_length, part-one, joined-verb}

-- ---- words and key texts are short

module _ (l : List ℕ) (bytes : (i : ℕ) → get_or l i 0 < 256) where
  pub word-short : (i : ℕ) → word_at l i < 4294967296
  unfolding word_at byte_at
  word-short i = omega (arith, bytes i, bytes (i + 1), bytes (i + 2), bytes (i + 3))

module _ (tree text : List ℕ) (y : ℕ) (p : Part) (is : PartIs text p (key_at tree text y)) where
  pub key_size : length (key_at tree text y) ≡ p.len
  key_size = sym (ap length is.is) ∙ part_length text p.offset p.len is.inside

  pub key_short : ((i : ℕ) → get_or tree i 0 < 256) → p.len < 4294967296
  unfolding key_at text_of word_of
  key_short b =
      omega (arith, key_size, text-length text (word_of tree y 3) (word_of tree y 4), word-short tree b (y * 32 + 4 + 4 * 4))

-- ---- the first cell

-- for an argument of type y at cell w
pub record First (tree text s : List ℕ) (w y : ℕ) : Type 0 where
  pub inside : w < records tree
  pub rest : Argued tree text s (word_of tree w B)
  pub is : suffixes_at tree text s w ≡ (dollar ∷ key_at tree text y) ∷ suffixes_at tree text s (word_of tree w B)
  pub falls : left (word_of tree w B) < left w

module _ (tree text s : List ℕ) where
  pub no-suffixes : (w : ℕ) → Good tree text → w ≡ none → suffixes_at tree text s w ≡ []
  unfolding suffixes_at suffixes typed_at slotted
  no-suffixes w g e =
      ap (λ (l : Args). suffixes (program tree text) (all_keys tree text) (slotted tree s l)) (ap (args_at tree text) e ∙ args_end tree text g)

  module _ (w y : ℕ) (a : Argued tree text s w) (n : w ≡ none → ⊥) (first : FirstType (typed_at tree text s w) y) where
    here : Cell tree text a.good Arguments w
    here = cell-is tree text a.good Arguments w a.cells n

    rest_falls : left (word_of tree w B) < left w
    rest_falls = next_falls tree text a.good Arguments w (word_of tree w B) a.cells n refl

    rest-argued : ArgsTyped tree s (args_at tree text (word_of tree w B)) → Argued tree text s (word_of tree w B)
    rest-argued t = record { good = a.good; room = a.room; cells = here.rest; typed = t }

    -- by the arguments as they stand
    first-value : (r : ℕ) (e : Expr) → args_at tree text w ≡ Value r e (args_at tree text (word_of tree w B)) → First tree text s w y
    unfolding suffixes_at suffixes typed_at slotted FirstType ArgsTyped program
    first-value r e q =
        let ty : slot_at tree s (place e) ≡ y = rw q at first in
        record {
          inside = here.inside;
          rest = rest-argued (rw q at a.typed).1;
          is = rw q (ap (λ (z : ℕ). (dollar ∷ key_at tree text z) ∷ suffixes_at tree text s (word_of tree w B)) ty);
          falls = rest_falls;
        }

    first-type : (r t : ℕ) → args_at tree text w ≡ ToType r t (args_at tree text (word_of tree w B)) → First tree text s w y
    unfolding suffixes_at suffixes typed_at slotted FirstType ArgsTyped program
    first-type r t q =
        let ty : t ≡ y = rw q at first in
        record {
          inside = here.inside;
          rest = rest-argued (rw q at a.typed);
          is = rw q (ap (λ (z : ℕ). (dollar ∷ key_at tree text z) ∷ suffixes_at tree text s (word_of tree w B)) ty);
          falls = rest_falls;
        }

    pub first_cell : First tree text s w y
    first_cell = tested (eqb (kind_of tree (word_of tree w A)) 13)
        (λ t. first-value (word_of tree w A) (expr_at tree text (word_of tree (word_of tree w A) A))
        (value-item tree text a.good w here (eqb-true (kind_of tree (word_of tree w A)) 13 t)))
        (λ f. first-type (word_of tree w A) (word_of tree (word_of tree w A) A)
        (type-item tree text a.good w here (eqb-false (kind_of tree (word_of tree w A)) 13 f)))

-- ---- the sum of all suffixes' bytes

pub record Summed (tree text s : List ℕ) (first n w : ℕ) : Type 0 where
  pub argued : Argued tree text s w
  pub sum : bytes_in (suffixes_at tree text s first) ≡ n + bytes_in (suffixes_at tree text s w)
  pub small : n + 4294967296 * left w ≤ 4294967296 * most_records

module _ (tree text s : List ℕ) where
  pub sum_start : (first : ℕ) → Argued tree text s first → Summed tree text s first 0 first
  sum_start first a = record { argued = a; sum = omega arith; small = omega (arith, left-most tree text a.good Arguments first a.cells, a.good.few) }

  -- the first of some suffixes, and the rest
  first-bytes : (w y : ℕ) (p : Part) → First tree text s w y → PartIs text p (key_at tree text y)
      → bytes_in (suffixes_at tree text s w) ≡ 1 + p.len + bytes_in (suffixes_at tree text s (word_of tree w B))
  unfolding bytes_in
  first-bytes w y p f i = ap bytes_in f.is ∙ omega (arith, key_size tree text y p i)

  pub sum_more : (first n w y : ℕ) (p : Part) → Summed tree text s first n w → First tree text s w y → PartIs text p (key_at tree text y) → p.len < 4294967296
      → Summed tree text s first (n + 1 + p.len) (word_of tree w B)
  sum_more first n w y p h f i short =
      record {
        argued = f.rest;
        sum = omega (arith, h.sum, first-bytes w y p f i);
        small = omega (arith, h.small, f.falls);
      }

  pub sum_end : (first n w : ℕ) → Summed tree text s first n w → w ≡ none
      → (n ≡ bytes_in (suffixes_at tree text s first)) × (n < 2 ^ 48)
  unfolding bytes_in
  sum_end first n w h e =
      let z : bytes_in (suffixes_at tree text s w) ≡ 0 = ap bytes_in (no-suffixes tree text s w h.argued.good e) in
      (omega (arith, h.sum), omega (arith, h.small))

-- ---- one suffix after the other

-- the element at k and what stands behind it
pub record Next (tree text s : List ℕ) (l : List Text) (k : ℕ) (x : Text) (r : List Text) : Type 0 where
  pub after : drop (suc k) l ≡ r
  pub inside : k < length l
  pub more : bytes_in (take (suc k) l) ≡ bytes_in (take k l) + length x

module _ (tree text s : List ℕ) where
  pub next-is : (l : List Text) (k : ℕ) (x : Text) (r : List Text) → drop k l ≡ x ∷ r → Next tree text s l k x r
  unfolding bytes_in
  next-is [] zero x r e = absurd (let z : ◌≡◌ {A = ℕ} 0 1 = cc in omega arith)
  next-is [] (suc k) x r e = absurd (let z : ◌≡◌ {A = ℕ} 0 1 = cc in omega arith)
  next-is (a ∷ l) zero x r e =
      let q : a ≡ x = cc in
      record { after = cc; inside = omega arith; more = omega (arith, ap length q) }
  next-is (a ∷ l) (suc k) x r e =
      let h = next-is l k x r e in
      record { after = h.after; inside = omega (arith, h.inside); more = omega (arith, h.more) }

-- ---- the suffixes in the text, piece by piece

-- i of k suffixes stand before `here`, and cell w is the next
pub record Matched (tree text s : List ℕ) (first k at here w i : ℕ) : Type 0 where
  pub argued : Argued tree text s w
  pub most : i ≤ k
  pub inside : k - i ≤ length (suffixes_at tree text s w)
  pub room : here + bytes_in (take (k - i) (suffixes_at tree text s w)) ≤ length text
  pub asked : suffixes_stand tree text s first k at
      ≡ same_text (text_at text here (bytes_in (take (k - i) (suffixes_at tree text s w))))
      (joined (program tree text) (all_keys tree text) [] (take (k - i) (suffixes_at tree text s w)))

module _ (tree text s : List ℕ) (first k at : ℕ) where
  abbrev Asked : Bool
  Asked = suffixes_stand tree text s first k at

  module _ (here w i : ℕ) (h : Matched tree text s first k at here w i) where
    pub match_cell : i < k → w ≡ none → ⊥
    match_cell m e = omega (arith, h.inside, ap length (no-suffixes tree text s w h.argued.good e))

    pub match_end : k ≤ i → true ≡ Asked
    unfolding bytes_in joined text_at same_text
    match_end m = let z : k - i ≡ 0 = omega arith in sym (h.asked ∙ rw z refl)

    module _ (y : ℕ) (p : Part) (m : i < k) (f : First tree text s w y) (is : PartIs text p (key_at tree text y)) where
      -- the suffixes behind the present one, and how many bytes they have
      abbrev Behind : List Text
      Behind = take (k - (i + 1)) (suffixes_at tree text s (word_of tree w B))

      abbrev size : ℕ
      size = bytes_in Behind

      present : take (k - i) (suffixes_at tree text s w) ≡ (dollar ∷ key_at tree text y) ∷ Behind
      present = let z : k - i ≡ suc (k - (i + 1)) = omega arith in rw (z, f.is) refl

      present_bytes : bytes_in (take (k - i) (suffixes_at tree text s w)) ≡ 1 + (p.len + size)
      unfolding bytes_in
      present_bytes = ap (bytes_in) present ∙ omega (arith, key_size tree text y p is)

      pub match_room : here + 1 + p.len + size ≤ length text
      match_room = omega (arith, h.room, present_bytes)

      joined_present : joined (program tree text) (all_keys tree text) [] (take (k - i) (suffixes_at tree text s w))
          ≡ (dollar ∷ []) ++ (key_at tree text y ++ joined (program tree text) (all_keys tree text) [] Behind)
      unfolding joined
      joined_present =
          ap (joined (program tree text) (all_keys tree text) []) present
          ∙ joined-verb (program tree text) (all_keys tree text) (dollar ∷ key_at tree text y) Behind

      text_present : text_at text here (bytes_in (take (k - i) (suffixes_at tree text s w)))
          ≡ (get_or text here 0 ∷ []) ++ (text_at text (here + 1) p.len ++ text_at text (here + 1 + p.len) size)
      text_present =
          ap (text_at text here) present_bytes
          ∙ text_split text here 1 (p.len + size)
          ∙ ap₂ (λ (a b : List ℕ). a ++ b) (part-one text here (omega (arith, match_room))) (text_split text (here + 1) p.len size)

      -- whether the present suffix stands here, and the rest behind it
      match_by : Asked ≡ (eqb (get_or text here 0) dollar
          && (same_text (text_at text (here + 1) p.len) (text_at text p.offset p.len)
          && same_text (text_at text (here + 1 + p.len) size) (joined (program tree text) (all_keys tree text) [] Behind)))
      unfolding same_text
      match_by =
          h.asked
          ∙ ap₂ same_text text_present joined_present
          ∙ ap (λ (b : Bool). eqb (get_or text here 0) dollar && b)
          (same-append (text_at text (here + 1) p.len) (key_at tree text y) (text_at text (here + 1 + p.len) size) (joined (program tree text) (all_keys tree text) [] Behind)
          (part_length text (here + 1) p.len (omega (arith, match_room)) ∙ sym (key_size tree text y p is))
          ∙ ap (λ (t : Text). same_text (text_at text (here + 1) p.len) t && same_text (text_at text (here + 1 + p.len) size) (joined (program tree text) (all_keys tree text) [] Behind)) (sym is.is))

      pub match_mark : (get_or text here 0 ≡ dollar → ⊥) → false ≡ Asked
      match_mark d = sym (match_by ∙ rw (ne_eqb (get_or text here 0) dollar d) refl)

      module _ (d : get_or text here 0 ≡ dollar) (r : Bool) (e : r ≡ same_text (text_at text (here + 1) p.len) (text_at text p.offset p.len)) where
        pub match_other : r ≡ false → false ≡ Asked
        match_other q = sym (match_by ∙ rw (eq-eqb (get_or text here 0) dollar d, sym e ∙ q) refl)

        pub match_more : r ≡ true → Matched tree text s first k at (here + 1 + p.len) (word_of tree w B) (i + 1)
        match_more q =
            record {
              argued = f.rest;
              most = omega arith;
              inside = omega (arith, h.inside, ap length f.is);
              room = match_room;
              asked = match_by ∙ rw (eq-eqb (get_or text here 0) dollar d, sym e ∙ q) refl;
            }
