-- Digests: that of a text that is cut off or empty, and equal types have equal digests.
-- A text is as many bytes as it has; equal types have the same texts or the same words. Assumes nothing.
use mathlib.Core.Path.{◌≡◌, refl, sym, ap, ap₂, ◌∙◌}
use mathlib.Core.Bool.{Bool, true, ◌&&◌, false≢true}
use mathlib.Core.List.{List, [], ◌∷◌}
use Prim.Native.Nat.{ℕ, ◌<◌}
use native.Mathlib.Omega.{arith}
use lib.Dec.{eqb}
use lib.ListN.{length}
use borrow.Author.Tests.{eq-eqb, ne_eqb, eqb-true, eqb-false}
use Rattle.laws.specs.Fix.{pick}
use Rattle.laws.proofs.Tests.{tested, and_left, and_right}
use Rattle.records.specs.Words.{detail_of, word_of, text_at, same_text, A, B, C}
use Rattle.records.specs.Rules.{same_type}
use Rattle.records.specs.Digest.{digest_step, digest_end, digest_of, roll_from, roll_of, digest_four, type_digest}
use Rattle.records.proofs.TextLaws.{text-taken}
use Rattle.records.proofs.TypeLaws.{type_custom, type-words}

-- a text that is empty, and one that is as many bytes as it has
empty : (l : List ℕ) → 0 ≡ length l → [] ≡ l
empty [] e = refl
empty (x ∷ l) e = absurd (omega arith)

pub roll_none : (t : List ℕ) (o n x : ℕ) → x ≡ length (text_at t o n) → x ≡ 0 → 1 ≡ roll_of (text_at t o n)
unfolding roll_from
roll_none t o n x e z = ap roll_of (empty (text_at t o n) (sym z ∙ e))

pub roll_taken : (t : List ℕ) (o n x r : ℕ) → x ≡ length (text_at t o n) → r ≡ roll_of (text_at t o x) → r ≡ roll_of (text_at t o n)
roll_taken t o n x r e d = d ∙ ap roll_of (text-taken t o n x e)

pub digest-is : (t : List ℕ) (x r : ℕ) → x ≡ roll_of t → r ≡ digest_end x → r ≡ digest_of t
unfolding digest_of
digest-is t x r ex er = er ∙ ap digest_end ex

-- a digest has 32 bits
pub digest-small : (t : List ℕ) → digest_of t < 4294967296
unfolding digest_of digest_end
digest-small t = omega arith

pub four_done : (a b c d x y r : ℕ) → x ≡ digest_step 1 a b → y ≡ digest_step x c d → r ≡ digest_end y → r ≡ digest_four a b c d
unfolding digest_four
four_done a b c d x y r ex ey er = er ∙ ap digest_end (ey ∙ ap (λ (h : ℕ). digest_step h c d) ex)

-- ---- equal texts, equal types

pub same-equal : (a b : List ℕ) → same_text a b ≡ true → a ≡ b
unfolding same_text
same-equal [] [] e = refl
same-equal [] (y ∷ b) e = absurd (false≢true e)
same-equal (x ∷ a) [] e = absurd (false≢true e)
same-equal (x ∷ a) (y ∷ b) e =
    ap₂ (λ (z : ℕ) (l : List ℕ). z ∷ l)
    (eqb-true x y (and_left (eqb x y) (same_text a b) e))
    (same-equal a b (and_right (eqb x y) (same_text a b) e))

module _ (tree text : List ℕ) (r : ℕ) where
  pub custom_digest : detail_of tree r ≡ 8 → digest_of (text_at text (word_of tree r A) (word_of tree r B)) ≡ type_digest tree text r
  unfolding type_digest pick
  custom_digest e = rw (eq-eqb (detail_of tree r) 8 e) refl

  pub words-digest : (detail_of tree r ≡ 8 → ⊥) → digest_four (detail_of tree r) (word_of tree r A) (word_of tree r B) (word_of tree r C) ≡ type_digest tree text r
  unfolding type_digest pick
  words-digest n = rw (ne_eqb (detail_of tree r) 8 n) refl

module _ (tree text : List ℕ) (j r : ℕ) (same : same_type tree text j r ≡ true) where
  details : detail_of tree j ≡ detail_of tree r
  unfolding same_type
  details = eqb-true (detail_of tree j) (detail_of tree r) (and_left (eqb (detail_of tree j) (detail_of tree r)) _ same)

  names : detail_of tree r ≡ 8 → text_at text (word_of tree j A) (word_of tree j B) ≡ text_at text (word_of tree r A) (word_of tree r B)
  names e = same-equal _ _ (type_custom tree text j r details e ∙ same)

  abbrev same_word : ℕ → Bool
  same_word k = eqb (word_of tree j k) (word_of tree r k)

  pub same-digest : type_digest tree text j ≡ type_digest tree text r
  same-digest =
      tested (eqb (detail_of tree r) 8)
      (λ t.
      let e : detail_of tree r ≡ 8 = eqb-true (detail_of tree r) 8 t in
      sym (custom_digest tree text j (details ∙ e)) ∙ ap digest_of (names e) ∙ custom_digest tree text r e)
      (λ t.
      let n : detail_of tree r ≡ 8 → ⊥ = eqb-false (detail_of tree r) 8 t in
      let w : (same_word A && same_word B && same_word C) ≡ true = type-words tree text j r details n ∙ same in
      let ab : (same_word A && same_word B) ≡ true = and_left (same_word A && same_word B) (same_word C) w in
      let a : word_of tree j A ≡ word_of tree r A = eqb-true _ _ (and_left (same_word A) (same_word B) ab) in
      let b : word_of tree j B ≡ word_of tree r B = eqb-true _ _ (and_right (same_word A) (same_word B) ab) in
      let c : word_of tree j C ≡ word_of tree r C = eqb-true _ _ (and_right (same_word A && same_word B) (same_word C) w) in
      sym (words-digest tree text j (λ e. n (sym details ∙ e))) ∙ rw (details, a, b, c) (words-digest tree text r n))
