-- Types compared step by step: what each test says of `same_type`, `type_is_new` and `is_first_type`.
-- Each picks its arm of the definition by the test that was passed or left. Assumes nothing.
use mathlib.Core.Path.{◌≡◌, refl, sym, ap, ◌∙◌}
use Prim.Native.Nat.{ℕ, ◌≤◌, ◌<◌}
use mathlib.Core.Bool.{Bool, true, false, not, ◌&&◌}
use mathlib.Core.List.{List}
use lib.Dec.{eqb}
use lib.ListN.{get_or}
use borrow.Author.Tests.{eq-eqb, ne_eqb, le-leb, lt-leb}
use Rattle.laws.specs.Fix.{pick}
use Rattle.laws.specs.Below.{any_below}
use Rattle.laws.proofs.AllBelow.{any_stop, any_done}
use Rattle.records.specs.Words.{kind_of, detail_of, word_of, text_at, same_text, A, B, C}
use Rattle.records.specs.Rules.{is_first_type, same_type, type_is_new, twelve_details, twelve_inner}

module _ (tree text : List ℕ) (j r : ℕ) where
  pub type_detail : (detail_of tree j ≡ detail_of tree r → ⊥) → false ≡ same_type tree text j r
  unfolding same_type
  type_detail n = rw (ne_eqb (detail_of tree j) (detail_of tree r) n) refl

  module _ (d : detail_of tree j ≡ detail_of tree r) where
    pub type_custom : detail_of tree r ≡ 8 → same_text (text_at text (word_of tree j A) (word_of tree j B)) (text_at text (word_of tree r A) (word_of tree r B)) ≡ same_type tree text j r
    unfolding same_type pick
    type_custom e = rw (eq-eqb (detail_of tree j) (detail_of tree r) d, eq-eqb (detail_of tree r) 8 e) refl

    pub type-words : (detail_of tree r ≡ 8 → ⊥) → (eqb (word_of tree j A) (word_of tree r A) && eqb (word_of tree j B) (word_of tree r B) && eqb (word_of tree j C) (word_of tree r C)) ≡ same_type tree text j r
    unfolding same_type pick
    type-words n = rw (eq-eqb (detail_of tree j) (detail_of tree r) d, ne_eqb (detail_of tree r) 8 n) refl

-- record j is a type that equals type r
unfoldable pub equal_type : List ℕ → List ℕ → ℕ → ℕ → Bool
equal_type tree text r j = eqb (kind_of tree j) 1 && same_type tree text j r

module _ (tree text : List ℕ) (r : ℕ) where
  pub equal-test : (j k : ℕ) (s b : Bool) → k ≡ kind_of tree j → s ≡ same_type tree text j r → (eqb k 1 && s) ≡ b → equal_type tree text r j ≡ b
  unfolding equal_type
  equal-test j k s b e f t = rw (sym e, sym f) t

  pub new-other : (kind_of tree r ≡ 1 → ⊥) → true ≡ type_is_new tree text r
  unfolding type_is_new
  new-other n = rw (ne_eqb (kind_of tree r) 1 n) refl

  module _ (e : kind_of tree r ≡ 1) where
    new_any : type_is_new tree text r ≡ not (any_below r (equal_type tree text r))
    unfolding type_is_new equal_type
    new_any = rw (eq-eqb (kind_of tree r) 1 e) refl

    pub new-found : (j : ℕ) → j < r → equal_type tree text r j ≡ true → false ≡ type_is_new tree text r
    new-found j h t = sym (new_any ∙ ap not (any_stop (equal_type tree text r) r j h t))

    pub new_none : (j : ℕ) → any_below j (equal_type tree text r) ≡ false → j ≤ r → r ≤ j → true ≡ type_is_new tree text r
    new_none j a h k = sym (new_any ∙ ap not (any_done (equal_type tree text r) j r a h k))

module _ (tree : List ℕ) (r : ℕ) where
  pub first_past : 12 ≤ r → true ≡ is_first_type tree r
  unfolding is_first_type
  first_past h = rw (le-leb 12 r h) refl

  pub first_twelve : r < 12 → (eqb (kind_of tree r) 1 && eqb (detail_of tree r) (get_or twelve_details r 0) && eqb (word_of tree r A) (get_or twelve_inner r 0)) ≡ is_first_type tree r
  unfolding is_first_type
  first_twelve h = rw (lt-leb 12 r h) refl
