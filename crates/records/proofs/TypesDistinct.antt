-- In a tree of bytes whose records break no rule, two type records that stand for equal types are the same record.
-- By induction on a bound on both records: equal types have equal details and equal inner types, which stand lower, so `type_is_new` would refuse the later. Assumes nothing.
use mathlib.Core.Path.{◌≡◌, refl, sym, ap, ◌∙◌}
use Prim.Native.Nat.{ℕ, zero, suc, ◌+◌, ◌*◌, ◌≤◌, ◌<◌}
use mathlib.Core.Bool.{Bool, true, false, not, ◌&&◌, ◌||◌, false≢true}
use mathlib.Core.List.{List}
use native.Mathlib.Omega.{arith}
use lib.Dec.{eqb, ltb}
use lib.ListN.{length, get_or}
use borrow.Author.Tests.{eq-eqb, ne_eqb, eqb-true, eqb-false, ltb-true}
use Rattle.laws.specs.Fix.{pick}
use Rattle.laws.specs.Below.{all_below}
use Rattle.laws.proofs.FixLaws.{Local, fix-step, below_in, below_cong}
use Rattle.laws.proofs.AllBelow.{all-at}
use Rattle.records.specs.declared.shape.Row.{Row}
use Rattle.records.specs.Words.{byte_at, word_at, kind_of, detail_of, word_of, text_at, records, A, B, C}
use Rattle.records.specs.Shapes.{row_of, row_at, plain_type, type_shape, shape_of}
use Rattle.records.specs.Rules.{kind_below, word_ok, same_type, record_ok}
use Rattle.records.specs.Types.{KrcType, KInt, KFloat, KBool, KChar, KByte, KAddress, KArray, KCustom, KNull, plain_of, type_step, krc_type_at}
use Rattle.records.proofs.Good.{Formed, WordsGood, good_of, formed_of, words_of}
use Rattle.records.proofs.TextLaws.{same-texts}
use Rattle.records.proofs.TypeLaws.{type_custom, type-words, equal-test, new-found}

-- ---- details

-- the detail of a type
back : KrcType → ℕ
unfolding pick
back (KInt s u) = pick s (pick u 49 17) (pick u 33 1)
back (KFloat s) = pick s 18 2
back KBool = 3
back KChar = 4
back KByte = 5
back (KAddress t) = 6
back (KArray t n) = 7
back (KCustom name) = 8
back KNull = 9

back_right : ℕ → Bool
back_right d = not (plain_type d) || eqb (back (plain_of d)) d

or-holds : (a b : Bool) → (not a || b) ≡ true → a ≡ true → b ≡ true
or-holds true b e h = e
or-holds false b e h = absurd (false≢true h)

plain_back : (d : ℕ) → d < 64 → plain_type d ≡ true → back (plain_of d) ≡ d
unfolding back_right all_below back plain_of plain_type pick
plain_back d l p = eqb-true (back (plain_of d)) d (or-holds (plain_type d) (eqb (back (plain_of d)) d) (all-at back_right 64 d refl l) p)

data Detail (d : ℕ) : Type 0 where
  is_address : d ≡ 6 → Detail d
  is_array : d ≡ 7 → Detail d
  is_custom : d ≡ 8 → Detail d
  is_plain : d < 64 → plain_type d ≡ true → (d ≡ 6 → ⊥) → (d ≡ 7 → ⊥) → (d ≡ 8 → ⊥) → Detail d

known : (d : ℕ) (b₆ b₇ b₈ p : Bool) → b₆ ≡ eqb d 6 → b₇ ≡ eqb d 7 → b₈ ≡ eqb d 8 → p ≡ plain_type d → ltb d (row_of (type_shape d)).limit ≡ true → Detail d
unfolding row_of type_shape pick
known d true b₇ b₈ p e₆ e₇ e₈ e l = is_address (eqb-true d 6 (sym e₆))
known d false true b₈ p e₆ e₇ e₈ e l = is_array (eqb-true d 7 (sym e₇))
known d false false true p e₆ e₇ e₈ e l = is_custom (eqb-true d 8 (sym e₈))
known d false false false true e₆ e₇ e₈ e l =
    is_plain (ltb-true d 64 (rw (sym e) at l)) (sym e) (eqb-false d 6 (sym e₆)) (eqb-false d 7 (sym e₇)) (eqb-false d 8 (sym e₈))
known d false false false false e₆ e₇ e₈ e l =
    let z : d < 0 = ltb-true d 0 (rw (sym e, sym e₆, sym e₇, sym e₈) at l) in absurd (omega arith)

-- ---- what a type record that breaks no rule says

module _ (tree text : List ℕ) where
  local : Local (type_step tree text)
  unfolding type_step
  local g h r agree = rw (below_cong g h r (word_of tree r A) KNull (agree (word_of tree r A))) refl

  type_step_lem : (r : ℕ) → krc_type_at tree text r ≡ type_step tree text (krc_type_at tree text) r
  unfolding krc_type_at
  type_step_lem r = fix-step KNull (type_step tree text) local r

  lower : (r w : ℕ) (b : Bool) → b ≡ ltb w r → eqb (kind_below tree r w) 1 ≡ true → (w < r) × (kind_of tree w ≡ 1)
  unfolding kind_below pick
  lower r w true e h = (ltb-true w r (sym e), eqb-true (kind_of tree w) 1 (rw (sym e) at h))
  lower r w false e h = absurd (false≢true (rw (sym e) at h))

  module _ (r : ℕ) (k : kind_of tree r ≡ 1) (good : record_ok tree text r ≡ true) where
    formed : Formed tree (length text) r
    formed = formed_of tree (length text) r (good_of tree text r good).form

    row_is_lem : row_at tree r ≡ row_of (type_shape (detail_of tree r))
    unfolding row_at shape_of pick
    row_is_lem = rw k refl

    words : (row : Row) → row_of (type_shape (detail_of tree r)) ≡ row → WordsGood tree (length text) r row
    words row e = words_of tree (length text) r row (rw (row_is_lem, e) at formed.words)

    detail : Detail (detail_of tree r)
    detail = known (detail_of tree r) _ _ _ _ refl refl refl refl (rw row_is_lem at formed.detail)

    module _ (d : detail_of tree r ≡ 6) where
      address_inner : (word_of tree r A < r) × (kind_of tree (word_of tree r A) ≡ 1)
      unfolding row_of type_shape plain_type pick word_ok
      address_inner = lower r (word_of tree r A) _ refl (words (row_of 26) (rw d refl)).a

      address_b : word_of tree r B ≡ 0
      unfolding row_of type_shape plain_type pick word_ok
      address_b = eqb-true (word_of tree r B) 0 (words (row_of 26) (rw d refl)).b

      address_c : word_of tree r C ≡ 0
      unfolding row_of type_shape plain_type pick word_ok
      address_c = eqb-true (word_of tree r C) 0 (words (row_of 26) (rw d refl)).c

      at_address : krc_type_at tree text r ≡ KAddress (krc_type_at tree text (word_of tree r A))
      unfolding type_step pick
      at_address = type_step_lem r ∙ rw (d, below_in (krc_type_at tree text) r (word_of tree r A) KNull address_inner.0) refl

    module _ (d : detail_of tree r ≡ 7) where
      array_inner : (word_of tree r A < r) × (kind_of tree (word_of tree r A) ≡ 1)
      unfolding row_of type_shape plain_type pick word_ok
      array_inner = lower r (word_of tree r A) _ refl (words (row_of 27) (rw d refl)).a

      at_array : krc_type_at tree text r ≡ KArray (krc_type_at tree text (word_of tree r A)) (word_of tree r B + word_of tree r C * 4294967296)
      unfolding type_step pick
      at_array = type_step_lem r ∙ rw (d, below_in (krc_type_at tree text) r (word_of tree r A) KNull array_inner.0) refl

    module _ (d : detail_of tree r ≡ 8) where
      at_custom : krc_type_at tree text r ≡ KCustom (text_at text (word_of tree r A) (word_of tree r B))
      unfolding type_step pick
      at_custom = type_step_lem r ∙ rw d refl

    module _ (p : plain_type (detail_of tree r) ≡ true) where
      plain_a : word_of tree r A ≡ 0
      unfolding row_of type_shape pick word_ok
      plain_a = eqb-true (word_of tree r A) 0 (words (row_of 1) (rw p refl)).a

      plain_b : word_of tree r B ≡ 0
      unfolding row_of type_shape pick word_ok
      plain_b = eqb-true (word_of tree r B) 0 (words (row_of 1) (rw p refl)).b

      plain_c : word_of tree r C ≡ 0
      unfolding row_of type_shape pick word_ok
      plain_c = eqb-true (word_of tree r C) 0 (words (row_of 1) (rw p refl)).c

    at_plain : (detail_of tree r ≡ 6 → ⊥) → (detail_of tree r ≡ 7 → ⊥) → (detail_of tree r ≡ 8 → ⊥) → krc_type_at tree text r ≡ plain_of (detail_of tree r)
    unfolding type_step pick
    at_plain n₆ n₇ n₈ =
        type_step_lem r ∙ rw (ne_eqb (detail_of tree r) 6 n₆, ne_eqb (detail_of tree r) 7 n₇, ne_eqb (detail_of tree r) 8 n₈) refl

    back_by : Detail (detail_of tree r) → back (krc_type_at tree text r) ≡ detail_of tree r
    unfolding back
    back_by (is_address d) = rw (at_address d) (sym d)
    back_by (is_array d) = rw (at_array d) (sym d)
    back_by (is_custom d) = rw (at_custom d) (sym d)
    back_by (is_plain l p n₆ n₇ n₈) = ap back (at_plain n₆ n₇ n₈) ∙ plain_back (detail_of tree r) l p

    back_at : back (krc_type_at tree text r) ≡ detail_of tree r
    back_at = back_by detail

-- ---- equal types

-- each element is a byte
abbrev pub Bytes : List ℕ → Type 0
Bytes tree = (i : ℕ) → get_or tree i 0 < 256

word_low : (tree : List ℕ) → Bytes tree → (r k : ℕ) → word_of tree r k < 4294967296
unfolding word_of word_at byte_at
word_low tree bytes r k =
    let i : ℕ = r * 32 + 4 + k * 4 in omega (arith, bytes i, bytes (i + 1), bytes (i + 2), bytes (i + 3))

module _ (tree text : List ℕ) (n : ℕ) (bytes : Bytes tree) (good : (r : ℕ) → r < n → record_ok tree text r ≡ true) where
  -- below m, equal types are the same record
  Distinct : ℕ → Type 0
  Distinct m = (i j : ℕ) → i < m → j < m → kind_of tree i ≡ 1 → kind_of tree j ≡ 1 → krc_type_at tree text i ≡ krc_type_at tree text j → i ≡ j

  module _ (j r : ℕ) (l : j < r) (h : r < n) (kj : kind_of tree j ≡ 1) (kr : kind_of tree r ≡ 1) (q : krc_type_at tree text j ≡ krc_type_at tree text r) where
    good_j : record_ok tree text j ≡ true
    good_j = good j (omega arith)

    same_detail : detail_of tree j ≡ detail_of tree r
    same_detail = sym (back_at tree text j kj good_j) ∙ ap back q ∙ back_at tree text r kr (good r h)

    same-words : (detail_of tree r ≡ 8 → ⊥) → word_of tree j A ≡ word_of tree r A → word_of tree j B ≡ word_of tree r B → word_of tree j C ≡ word_of tree r C → same_type tree text j r ≡ true
    same-words n₈ a b c =
        sym (type-words tree text j r same_detail n₈)
        ∙ rw (eq-eqb (word_of tree j A) (word_of tree r A) a, eq-eqb (word_of tree j B) (word_of tree r B) b, eq-eqb (word_of tree j C) (word_of tree r C) c) refl

    same_by : Distinct r → Detail (detail_of tree r) → same_type tree text j r ≡ true
    unfolding Distinct
    same_by ih (is_address d) =
        let e : detail_of tree j ≡ 6 = same_detail ∙ d in
        let x : (word_of tree j A < j) × (kind_of tree (word_of tree j A) ≡ 1) = address_inner tree text j kj good_j e in
        let y : (word_of tree r A < r) × (kind_of tree (word_of tree r A) ≡ 1) = address_inner tree text r kr (good r h) d in
        let s : KAddress (krc_type_at tree text (word_of tree j A)) ≡ KAddress (krc_type_at tree text (word_of tree r A)) = sym (at_address tree text j kj good_j e) ∙ q ∙ at_address tree text r kr (good r h) d in
        same-words (λ z. omega arith)
        (ih (word_of tree j A) (word_of tree r A) (omega arith) y.0 x.1 y.1 (cc))
        (address_b tree text j kj good_j e ∙ sym (address_b tree text r kr (good r h) d))
        (address_c tree text j kj good_j e ∙ sym (address_c tree text r kr (good r h) d))
    same_by ih (is_array d) =
        let e : detail_of tree j ≡ 7 = same_detail ∙ d in
        let x : (word_of tree j A < j) × (kind_of tree (word_of tree j A) ≡ 1) = array_inner tree text j kj good_j e in
        let y : (word_of tree r A < r) × (kind_of tree (word_of tree r A) ≡ 1) = array_inner tree text r kr (good r h) d in
        let s : KArray (krc_type_at tree text (word_of tree j A)) (word_of tree j B + word_of tree j C * 4294967296) ≡ KArray (krc_type_at tree text (word_of tree r A)) (word_of tree r B + word_of tree r C * 4294967296) = sym (at_array tree text j kj good_j e) ∙ q ∙ at_array tree text r kr (good r h) d in
        let count : word_of tree j B + word_of tree j C * 4294967296 ≡ word_of tree r B + word_of tree r C * 4294967296 = cc in
        let lj : word_of tree j B < 4294967296 = word_low tree bytes j B in
        let lr : word_of tree r B < 4294967296 = word_low tree bytes r B in
        same-words (λ z. omega arith) (ih (word_of tree j A) (word_of tree r A) (omega arith) y.0 x.1 y.1 (cc)) (omega arith) (omega arith)
    same_by ih (is_custom d) =
        let e : detail_of tree j ≡ 8 = same_detail ∙ d in
        let s : KCustom (text_at text (word_of tree j A) (word_of tree j B)) ≡ KCustom (text_at text (word_of tree r A) (word_of tree r B)) = sym (at_custom tree text j kj good_j e) ∙ q ∙ at_custom tree text r kr (good r h) d in
        sym (type_custom tree text j r same_detail d)
        ∙ same-texts (text_at text (word_of tree j A) (word_of tree j B)) (text_at text (word_of tree r A) (word_of tree r B)) (cc)
    same_by ih (is_plain m p n₆ n₇ n₈) =
        let o : plain_type (detail_of tree j) ≡ true = ap plain_type same_detail ∙ p in
        same-words n₈
        (plain_a tree text j kj good_j o ∙ sym (plain_a tree text r kr (good r h) p))
        (plain_b tree text j kj good_j o ∙ sym (plain_b tree text r kr (good r h) p))
        (plain_c tree text j kj good_j o ∙ sym (plain_c tree text r kr (good r h) p))

    clash : Distinct r → ⊥
    clash ih =
        let same : same_type tree text j r ≡ true = same_by ih (detail tree text r kr (good r h)) in
        let found : (eqb (kind_of tree j) 1 && same_type tree text j r) ≡ true = rw (eq-eqb (kind_of tree j) 1 kj) same in
        false≢true (new-found tree text r kr j l (equal-test tree text r j (kind_of tree j) (same_type tree text j r) true refl refl found) ∙ (good_of tree text r (good r h)).new)

  distinct : (m : ℕ) → m ≤ n → Distinct m
  unfolding Distinct
  distinct zero l i j hi hj ki kj q = absurd (omega arith)
  distinct (suc m) l i j hi hj ki kj q =
      let before : i < j → ⊥ = λ o. clash i j o (omega arith) ki kj q (λ a b ha hb. distinct m (omega arith) a b (omega arith) (omega arith)) in
      let after : j < i → ⊥ = λ o. clash j i o (omega arith) kj ki (sym q) (λ a b ha hb. distinct m (omega arith) a b (omega arith) (omega arith)) in
      omega arith

pub types-distinct : (tree text : List ℕ) → Bytes tree → ((r : ℕ) → r < records tree → record_ok tree text r ≡ true) → (i j : ℕ) → i < records tree → j < records tree → kind_of tree i ≡ 1 → kind_of tree j ≡ 1 → krc_type_at tree text i ≡ krc_type_at tree text j → i ≡ j
unfolding Distinct
types-distinct tree text bytes good = distinct tree text (records tree) bytes good (records tree) (omega arith)
