-- By what records are sorted: the key of a type with words and of any other record, two keys compared number by number, and types are equal exactly if their keys are.
-- By the cases of the definition; a text does not begin like a type's words, since a byte is below 256. Assumes nothing.
use mathlib.Core.Path.{◌≡◌, refl, sym, ap, ap₂, subst, ◌∙◌}
use mathlib.Core.Bool.{Bool, true, false, not, ◌&&◌, ◌||◌, false≢true}
use mathlib.Core.List.{List, [], ◌∷◌}
use Prim.Native.Nat.{ℕ, zero, suc, ◌+◌, ◌≤◌, ◌<◌}
use native.Mathlib.Omega.{arith}
use lib.Dec.{eqb, ltb}
use lib.ListN.{length, get_or}
use borrow.Author.Tests.{eq-eqb, ne_eqb, eqb-true, eqb-false, lt-ltb, le-ltb, ltb-true, ltb-false}
use Rattle.laws.specs.Fix.{pick}
use Rattle.laws.proofs.Tests.{tested, and_left, and_right}
use Rattle.records.specs.Order.{common, record_text}
use Rattle.records.specs.Rules.{same_type}
use Rattle.records.specs.Words.{kind_of, detail_of, word_of, text_at, A, B, C}
use Rattle.records.proofs.CommonLaws.{more, none, common-left}
use Rattle.records.proofs.DigestLaws.{same-equal}
use Rattle.records.proofs.TextLaws.{same-texts}
use Rattle.records.proofs.TypeLaws.{type_custom, type-words}
use Rattle.sorting.specs.Sorted.{has_words, three_words, word_key, record_key, ahead, Chosen}
use Rattle.sorting.proofs.AheadLaws.{same_byte, other_byte, text-byte}

-- ---- one record

module _ (tree : List ℕ) (r : ℕ) where
  -- as the code tests it
  pub words-told : (k d : ℕ) → k ≡ kind_of tree r → d ≡ detail_of tree r → (eqb k 1 && not (eqb d 8)) ≡ has_words tree r
  unfolding has_words
  words-told k d ek ed = rw (ek, ed) refl

  pub words-not : (kind_of tree r ≡ 1 → ⊥) → has_words tree r ≡ false
  unfolding has_words
  words-not n = rw (ne_eqb (kind_of tree r) 1 n) refl

  type-has : kind_of tree r ≡ 1 → has_words tree r ≡ not (eqb (detail_of tree r) 8)
  unfolding has_words
  type-has e = rw (eq-eqb (kind_of tree r) 1 e) refl

module _ (tree text : List ℕ) (r : ℕ) where
  pub key_words : has_words tree r ≡ true → record_key tree text r ≡ word_key tree r
  unfolding record_key pick
  key_words e = rw e refl

  pub key_text : has_words tree r ≡ false → record_key tree text r ≡ record_text tree text r
  unfolding record_key pick
  key_text e = rw e refl

  -- how long it is
  module _ (v : Bool) (ev : v ≡ has_words tree r) where
    pub words_long : v ≡ true → 4 ≡ length (record_key tree text r)
    words_long e = sym (ap length (key_words (sym ev ∙ e)))

    pub text-long : (n : ℕ) → v ≡ false → n ≡ length (record_text tree text r) → n ≡ length (record_key tree text r)
    text-long n e en = en ∙ sym (ap length (key_text (sym ev ∙ e)))

-- ---- number by number

other-number : (x y : ℕ) (t u : List ℕ) → (x ≡ y → ⊥) → Chosen (x ∷ t) (y ∷ u) (ltb x y) 0
other-number x y t u n = record { next = sym (other_byte x y t u true n); shares = sym (none x y t u n) }

same_number : (x y : ℕ) (t u : List ℕ) (left : Bool) (shared : ℕ) → x ≡ y → Chosen t u left shared → Chosen (x ∷ t) (y ∷ u) left (shared + 1)
same_number x y t u left shared e c =
    record { next = c.next ∙ sym (same_byte x y t u true e); shares = omega (arith, c.shares, more x y t u e) }

no_number : Chosen [] [] true 0
unfolding ahead common
no_number = record { next = refl; shares = refl }

-- the three words, of which those below k are the same
module _ (tree : List ℕ) (a b : ℕ) where
  abbrev pub SameBelow : ℕ → Type 0
  SameBelow k = (j : ℕ) → j < k → word_of tree a j ≡ word_of tree b j

  pub word_other : (k x y : ℕ) → k < 3 → SameBelow k → x ≡ word_of tree a k → y ≡ word_of tree b k → (x ≡ y → ⊥)
      → Chosen (three_words tree a) (three_words tree b) (ltb x y) k
  word_other zero x y h s ex ey n = rw (ex, ey) (other-number _ _ _ _ (λ e. n (ex ∙ e ∙ sym ey)))
  word_other (suc zero) x y h s ex ey n =
      same_number _ _ _ _ (ltb x y) 0 (s 0 (omega arith)) (rw (ex, ey) (other-number _ _ _ _ (λ e. n (ex ∙ e ∙ sym ey))))
  word_other (suc (suc zero)) x y h s ex ey n =
      same_number _ _ _ _ (ltb x y) 1 (s 0 (omega arith))
      (same_number _ _ _ _ (ltb x y) 0 (s 1 (omega arith)) (rw (ex, ey) (other-number _ _ _ _ (λ e. n (ex ∙ e ∙ sym ey)))))
  word_other (suc (suc (suc k))) x y h s ex ey n = absurd (omega arith)

  pub words_same : SameBelow 3 → Chosen (three_words tree a) (three_words tree b) true 3
  words_same s =
      same_number _ _ _ _ true 2 (s 0 (omega arith))
      (same_number _ _ _ _ true 1 (s 1 (omega arith)) (same_number _ _ [] [] true 0 (s 2 (omega arith)) no_number))

-- the form before them
shifted : (n i j : ℕ) → ltb i j ≡ ltb (n + i) (n + j)
shifted n i j =
    tested (ltb i j)
    (λ y. y ∙ sym (lt-ltb (n + i) (n + j) (omega (arith, ltb-true i j y))))
    (λ m. m ∙ sym (le-ltb (n + i) (n + j) (omega (arith, ltb-false i j m))))

module _ (tree : List ℕ) (a b i j : ℕ) (ei : i ≡ detail_of tree a) (ej : j ≡ detail_of tree b) where
  pub forms_other : (i ≡ j → ⊥) → Chosen (word_key tree a) (word_key tree b) (ltb i j) 0
  forms_other n =
      let c : Chosen (word_key tree a) (word_key tree b) (ltb (256 + detail_of tree a) (256 + detail_of tree b)) 0 =
      other-number (256 + detail_of tree a) (256 + detail_of tree b) _ _ (λ e. n (omega arith)) in
      record { next = shifted 256 i j ∙ ap₂ (λ (p q : ℕ). ltb (256 + p) (256 + q)) ei ej ∙ c.next; shares = c.shares }

  module _ (e : i ≡ j) (left : Bool) (shared : ℕ) (c : Chosen (three_words tree a) (three_words tree b) left shared) where
    pub three_fit : shared ≤ 3
    three_fit = omega (arith, c.shares, common-left (three_words tree a) (three_words tree b))

    pub forms_same : Chosen (word_key tree a) (word_key tree b) left (shared + 1)
    forms_same = same_number (256 + detail_of tree a) (256 + detail_of tree b) _ _ left shared (omega arith) c

-- ---- a text and words

text-first : (t : List ℕ) (x : ℕ) (u : List ℕ) → get_or t 0 0 < 256 → 256 ≤ x → Chosen t (x ∷ u) true 0
unfolding ahead common
text-first [] x u h k = record { next = refl; shares = refl }
text-first (b ∷ t) x u h k = subst (λ (v : Bool). Chosen (b ∷ t) (x ∷ u) v 0) (lt-ltb b x (omega arith)) (other-number b x t u (λ e. omega arith))

words_last : (t : List ℕ) (x : ℕ) (u : List ℕ) → get_or t 0 0 < 256 → 256 ≤ x → Chosen (x ∷ u) t false 0
unfolding ahead common
words_last [] x u h k = record { next = refl; shares = refl }
words_last (b ∷ t) x u h k = subst (λ (v : Bool). Chosen (x ∷ u) (b ∷ t) v 0) (le-ltb x b (omega arith)) (other-number x b u t (λ e. omega arith))

-- a text begins with a byte
module _ (text : List ℕ) (bytes : (k : ℕ) → get_or text k 0 < 256) where
  text-byte-first : (i n : ℕ) → get_or (text_at text i n) 0 0 < 256
  unfolding text_at
  text-byte-first i zero = omega arith
  text-byte-first i (suc n) = omega (arith, text-byte text i (suc n) 0 (omega arith), bytes (i + 0))

-- ---- two records

both-not : (i j : Bool) → (i || j) ≡ false → (i ≡ false) × (j ≡ false)
both-not true j e = absurd (false≢true (sym e))
both-not false j e = (refl, e)

one_left : (i j : Bool) → (i && j) ≡ false → (i || j) ≡ true → i ≡ not j
one_left true true e f = absurd (false≢true (sym e))
one_left true false e f = refl
one_left false true e f = refl
one_left false false e f = absurd (false≢true f)

module _ (tree text : List ℕ) (a b : ℕ) (i j : Bool) (ei : i ≡ has_words tree a) (ej : j ≡ has_words tree b) where
  pub both_words : (left : Bool) (shared : ℕ) → (i && j) ≡ true → Chosen (word_key tree a) (word_key tree b) left shared
      → Chosen (record_key tree text a) (record_key tree text b) left shared
  both_words left shared e c =
      rw (key_words tree text a (sym ei ∙ and_left i j e), key_words tree text b (sym ej ∙ and_right i j e)) c

  module _ (bytes : (k : ℕ) → get_or text k 0 < 256) (n : (i && j) ≡ false) (y : (i || j) ≡ true) where
    text-a : get_or (record_text tree text a) 0 0 < 256
    text-a = text-byte-first text bytes (word_of tree a A) (word_of tree a B)

    text-b : get_or (record_text tree text b) 0 0 < 256
    text-b = text-byte-first text bytes (word_of tree b A) (word_of tree b B)

    pub one-words : Chosen (record_key tree text a) (record_key tree text b) j 0
    one-words =
        tested j
        (λ e.
        rw (key_text tree text a (sym ei ∙ one_left i j n y ∙ ap not e), key_words tree text b (sym ej ∙ e), e)
        (text-first (record_text tree text a) (256 + detail_of tree b) (three_words tree b) text-a (omega arith)))
        (λ e.
        rw (key_words tree text a (sym ei ∙ one_left i j n y ∙ ap not e), key_text tree text b (sym ej ∙ e), e)
        (words_last (record_text tree text b) (256 + detail_of tree a) (three_words tree a) text-b (omega arith)))

  module _ (n : (i || j) ≡ false) where
    left_key : record_key tree text a ≡ record_text tree text a
    left_key = key_text tree text a (sym ei ∙ (both-not i j n).0)

    right_key : record_key tree text b ≡ record_text tree text b
    right_key = key_text tree text b (sym ej ∙ (both-not i j n).1)

    pub texts-from : (from : ℕ) → from ≤ common (record_key tree text a) (record_key tree text b) → from ≤ common (record_text tree text a) (record_text tree text b)
    texts-from from h = omega (arith, ap₂ common left_key right_key)

    pub both-texts : (left : Bool) (shared : ℕ) → Chosen (record_text tree text a) (record_text tree text b) left shared
        → Chosen (record_key tree text a) (record_key tree text b) left shared
    both-texts left shared c = rw (left_key, right_key) c

-- ---- two types

module _ (tree text : List ℕ) (k r : ℕ) (ek : kind_of tree k ≡ 1) (er : kind_of tree r ≡ 1) where
  same_form : same_type tree text k r ≡ true → detail_of tree k ≡ detail_of tree r
  unfolding same_type
  same_form e = eqb-true (detail_of tree k) (detail_of tree r) (and_left (eqb (detail_of tree k) (detail_of tree r)) _ e)

  module _ (d : detail_of tree k ≡ detail_of tree r) where
    custom_keys : detail_of tree r ≡ 8 → (record_key tree text k ≡ record_text tree text k) × (record_key tree text r ≡ record_text tree text r)
    custom_keys e = (
      key_text tree text k (type-has tree k ek ∙ ap not (eq-eqb (detail_of tree k) 8 (d ∙ e))),
      key_text tree text r (type-has tree r er ∙ ap not (eq-eqb (detail_of tree r) 8 e)),
    )

    words-keys : (detail_of tree r ≡ 8 → ⊥) → (record_key tree text k ≡ word_key tree k) × (record_key tree text r ≡ word_key tree r)
    words-keys n = (
      key_words tree text k (type-has tree k ek ∙ ap not (ne_eqb (detail_of tree k) 8 (λ e. n (sym d ∙ e)))),
      key_words tree text r (type-has tree r er ∙ ap not (ne_eqb (detail_of tree r) 8 n)),
    )

  abbrev words-equal : Bool
  words-equal = eqb (word_of tree k A) (word_of tree r A) && eqb (word_of tree k B) (word_of tree r B) && eqb (word_of tree k C) (word_of tree r C)

  -- equal types have one key
  pub same_keys : same_type tree text k r ≡ true → record_key tree text k ≡ record_key tree text r
  same_keys e =
      let d : detail_of tree k ≡ detail_of tree r = same_form e in
      tested (eqb (detail_of tree r) 8)
      (λ y.
      let custom : detail_of tree r ≡ 8 = eqb-true (detail_of tree r) 8 y in
      let keys = custom_keys d custom in
      keys.0 ∙ same-equal (record_text tree text k) (record_text tree text r) (type_custom tree text k r d custom ∙ e) ∙ sym keys.1)
      (λ m.
      let other : detail_of tree r ≡ 8 → ⊥ = eqb-false (detail_of tree r) 8 m in
      let keys = words-keys d other in
      let w : words-equal ≡ true = type-words tree text k r d other ∙ e in
      let v : (eqb (word_of tree k A) (word_of tree r A) && eqb (word_of tree k B) (word_of tree r B)) ≡ true =
      and_left (eqb (word_of tree k A) (word_of tree r A) && eqb (word_of tree k B) (word_of tree r B)) (eqb (word_of tree k C) (word_of tree r C)) w in
      let ea : word_of tree k A ≡ word_of tree r A =
      eqb-true (word_of tree k A) (word_of tree r A) (and_left (eqb (word_of tree k A) (word_of tree r A)) (eqb (word_of tree k B) (word_of tree r B)) v) in
      let eb : word_of tree k B ≡ word_of tree r B =
      eqb-true (word_of tree k B) (word_of tree r B) (and_right (eqb (word_of tree k A) (word_of tree r A)) (eqb (word_of tree k B) (word_of tree r B)) v) in
      let ec : word_of tree k C ≡ word_of tree r C =
      eqb-true (word_of tree k C) (word_of tree r C)
      (and_right (eqb (word_of tree k A) (word_of tree r A) && eqb (word_of tree k B) (word_of tree r B)) (eqb (word_of tree k C) (word_of tree r C)) w) in
      keys.0 ∙ rw (d, ea, eb, ec) refl ∙ sym keys.1)

  -- and types of one key are equal: a Custom's name is no words
  module _ (bytes : (i : ℕ) → get_or text i 0 < 256) (e : record_key tree text k ≡ record_key tree text r) where
    both_custom : detail_of tree k ≡ 8 → detail_of tree r ≡ 8 → same_type tree text k r ≡ true
    both_custom x y =
        let d : detail_of tree k ≡ detail_of tree r = x ∙ sym y in
        let keys = custom_keys d y in
        sym (type_custom tree text k r d y) ∙ same-texts (record_text tree text k) (record_text tree text r) (sym keys.0 ∙ e ∙ keys.1)

    none_custom : (detail_of tree k ≡ 8 → ⊥) → (detail_of tree r ≡ 8 → ⊥) → same_type tree text k r ≡ true
    none_custom x y =
        let same : word_key tree k ≡ word_key tree r =
        sym (key_words tree text k (type-has tree k ek ∙ ap not (ne_eqb (detail_of tree k) 8 x))) ∙ e
        ∙ key_words tree text r (type-has tree r er ∙ ap not (ne_eqb (detail_of tree r) 8 y)) in
        let d : detail_of tree k ≡ detail_of tree r = omega (arith, ap (λ (l : List ℕ). get_or l 0 0) same) in
        let ea : word_of tree k A ≡ word_of tree r A = ap (λ (l : List ℕ). get_or l 1 0) same in
        let eb : word_of tree k B ≡ word_of tree r B = ap (λ (l : List ℕ). get_or l 2 0) same in
        let ec : word_of tree k C ≡ word_of tree r C = ap (λ (l : List ℕ). get_or l 3 0) same in
        sym (type-words tree text k r d y)
        ∙ rw (eq-eqb (word_of tree k A) (word_of tree r A) ea, eq-eqb (word_of tree k B) (word_of tree r B) eb, eq-eqb (word_of tree k C) (word_of tree r C) ec) refl

    left_custom : detail_of tree k ≡ 8 → (detail_of tree r ≡ 8 → ⊥) → same_type tree text k r ≡ true
    left_custom x y =
        let same : record_text tree text k ≡ word_key tree r =
        sym (key_text tree text k (type-has tree k ek ∙ ap not (eq-eqb (detail_of tree k) 8 x))) ∙ e
        ∙ key_words tree text r (type-has tree r er ∙ ap not (ne_eqb (detail_of tree r) 8 y)) in
        absurd (omega (arith, ap (λ (l : List ℕ). get_or l 0 0) same, text-byte-first text bytes (word_of tree k A) (word_of tree k B)))

    right_custom : (detail_of tree k ≡ 8 → ⊥) → detail_of tree r ≡ 8 → same_type tree text k r ≡ true
    right_custom x y =
        let same : word_key tree k ≡ record_text tree text r =
        sym (key_words tree text k (type-has tree k ek ∙ ap not (ne_eqb (detail_of tree k) 8 x))) ∙ e
        ∙ key_text tree text r (type-has tree r er ∙ ap not (eq-eqb (detail_of tree r) 8 y)) in
        absurd (omega (arith, ap (λ (l : List ℕ). get_or l 0 0) same, text-byte-first text bytes (word_of tree r A) (word_of tree r B)))

    pub one_key : same_type tree text k r ≡ true
    one_key =
        tested (eqb (detail_of tree k) 8)
        (λ x.
        tested (eqb (detail_of tree r) 8)
        (λ y. both_custom (eqb-true (detail_of tree k) 8 x) (eqb-true (detail_of tree r) 8 y))
        (λ n. left_custom (eqb-true (detail_of tree k) 8 x) (eqb-false (detail_of tree r) 8 n)))
        (λ m.
        tested (eqb (detail_of tree r) 8)
        (λ y. right_custom (eqb-false (detail_of tree k) 8 m) (eqb-true (detail_of tree r) 8 y))
        (λ n. none_custom (eqb-false (detail_of tree k) 8 m) (eqb-false (detail_of tree r) 8 n)))
