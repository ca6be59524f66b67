-- A type record by its form, as the code meets it: which type it stands for, its class of casts, and whether it is a number.
-- Each picks the entry of `type_at`'s list that the form names. Assumes nothing.
use mathlib.Core.Path.{◌≡◌, refl, sym, ◌∙◌}
use mathlib.Core.Bool.{Bool, true, false}
use mathlib.Core.List.{List, [], ◌∷◌}
use Prim.Native.Nat.{ℕ, zero, suc, ◌%◌, ◌<◌, ◌≤◌}
use native.Mathlib.Omega.{arith}
use lib.ListN.{get_or}
use Rattle.records.specs.Words.{detail_of, word_of, A, B}
use Rattle.syntax.specs.Syntax.{Ty, TInt, TFloat, TBool, TChar, TByte, TAddress, TArray, TCustom, TNull}
use Rattle.syntax.specs.Decode.{bit, type_at, text_of, wide_of}
use Rattle.conversion.specs.Types.{on_int, on_float, is_int, is_float, is_number, cast_class}

module _ (tree text : List ℕ) (y : ℕ) where
  -- the types by form
  abbrev pub forms : List Ty
  forms = TNull ∷ TInt (bit 16 (detail_of tree y)) (bit 32 (detail_of tree y)) ∷ TFloat (bit 16 (detail_of tree y)) ∷ TBool ∷ TChar ∷ TByte
      ∷ TAddress (word_of tree y A) ∷ TArray (word_of tree y A) (wide_of tree text y B) ∷ TCustom (text_of tree text y A) ∷ TNull ∷ []

  pub type-is : (f : ℕ) → f ≡ detail_of tree y % 16 → type_at tree text y ≡ get_or forms f TNull
  unfolding type_at
  type-is f e = rw e

  -- what holds of each form's type holds of the type of any form
  pub by_form : (Q : ℕ → Ty → Type 0) → Q 0 TNull → Q 1 (TInt (bit 16 (detail_of tree y)) (bit 32 (detail_of tree y)))
      → Q 2 (TFloat (bit 16 (detail_of tree y))) → Q 3 TBool → Q 4 TChar → Q 5 TByte → Q 6 (TAddress (word_of tree y A))
      → Q 7 (TArray (word_of tree y A) (wide_of tree text y B)) → Q 8 (TCustom (text_of tree text y A)) → ((k : ℕ) → 9 ≤ k → Q k TNull)
      → (f : ℕ) → Q f (get_or forms f TNull)
  by_form Q q₀ q₁ q₂ q₃ q₄ q₅ q₆ q₇ q₈ q zero = q₀
  by_form Q q₀ q₁ q₂ q₃ q₄ q₅ q₆ q₇ q₈ q (suc zero) = q₁
  by_form Q q₀ q₁ q₂ q₃ q₄ q₅ q₆ q₇ q₈ q (suc (suc zero)) = q₂
  by_form Q q₀ q₁ q₂ q₃ q₄ q₅ q₆ q₇ q₈ q (suc (suc (suc zero))) = q₃
  by_form Q q₀ q₁ q₂ q₃ q₄ q₅ q₆ q₇ q₈ q (suc (suc (suc (suc zero)))) = q₄
  by_form Q q₀ q₁ q₂ q₃ q₄ q₅ q₆ q₇ q₈ q (suc (suc (suc (suc (suc zero))))) = q₅
  by_form Q q₀ q₁ q₂ q₃ q₄ q₅ q₆ q₇ q₈ q (suc (suc (suc (suc (suc (suc zero)))))) = q₆
  by_form Q q₀ q₁ q₂ q₃ q₄ q₅ q₆ q₇ q₈ q (suc (suc (suc (suc (suc (suc (suc zero))))))) = q₇
  by_form Q q₀ q₁ q₂ q₃ q₄ q₅ q₆ q₇ q₈ q (suc (suc (suc (suc (suc (suc (suc (suc zero)))))))) = q₈
  by_form Q q₀ q₁ q₂ q₃ q₄ q₅ q₆ q₇ q₈ q (suc (suc (suc (suc (suc (suc (suc (suc (suc zero))))))))) = q 9 (omega arith)
  by_form Q q₀ q₁ q₂ q₃ q₄ q₅ q₆ q₇ q₈ q (suc (suc (suc (suc (suc (suc (suc (suc (suc (suc k)))))))))) =
      q (suc (suc (suc (suc (suc (suc (suc (suc (suc (suc k)))))))))) (omega arith)

  module _ (f : ℕ) (ef : f ≡ detail_of tree y % 16) where
    pub type_int : f ≡ 1 → type_at tree text y ≡ TInt (bit 16 (detail_of tree y)) (bit 32 (detail_of tree y))
    type_int e = type-is f ef ∙ rw e

    pub type_float : f ≡ 2 → type_at tree text y ≡ TFloat (bit 16 (detail_of tree y))
    type_float e = type-is f ef ∙ rw e

    pub type_address : f ≡ 6 → type_at tree text y ≡ TAddress (word_of tree y A)
    type_address e = type-is f ef ∙ rw e

    pub type_array : f ≡ 7 → type_at tree text y ≡ TArray (word_of tree y A) (wide_of tree text y B)
    type_array e = type-is f ef ∙ rw e

    pub type_null : 9 ≤ f → type_at tree text y ≡ TNull
    type_null h = type-is f ef ∙ by_form (λ k t. 9 ≤ k → t ≡ TNull) (λ m. refl) (λ m. absurd (omega arith)) (λ m. absurd (omega arith))
        (λ m. absurd (omega arith)) (λ m. absurd (omega arith)) (λ m. absurd (omega arith)) (λ m. absurd (omega arith))
        (λ m. absurd (omega arith)) (λ m. absurd (omega arith)) (λ k n m. refl) f h

    pub number_form : 1 ≤ f → f < 3 → true ≡ is_number (type_at tree text y)
    unfolding is_number is_int is_float on_int on_float
    number_form h l = rw (type-is f ef) (by_form (λ k t. 1 ≤ k → k < 3 → true ≡ is_number t) (λ i j. absurd (omega arith)) (λ i j. refl)
        (λ i j. refl) (λ i j. absurd (omega arith)) (λ i j. absurd (omega arith)) (λ i j. absurd (omega arith)) (λ i j. absurd (omega arith))
        (λ i j. absurd (omega arith)) (λ i j. absurd (omega arith)) (λ k g i j. absurd (omega arith)) f h l)

    pub number_none : f < 1 → false ≡ is_number (type_at tree text y)
    unfolding is_number is_int is_float on_int on_float
    number_none h = let e : f ≡ 0 = omega arith in rw (type-is f ef, e)

    pub number_other : 3 ≤ f → false ≡ is_number (type_at tree text y)
    unfolding is_number is_int is_float on_int on_float
    number_other h = rw (type-is f ef) (by_form (λ k t. 3 ≤ k → false ≡ is_number t) (λ i. refl) (λ i. absurd (omega arith))
        (λ i. absurd (omega arith)) (λ i. refl) (λ i. refl) (λ i. refl) (λ i. refl) (λ i. refl) (λ i. refl) (λ k g i. refl) f h)

    module _ (s : Bool) (es : s ≡ bit 16 (detail_of tree y)) where
      pub class_short : f ≡ 1 → s ≡ true → 0 ≡ cast_class (type_at tree text y)
      unfolding cast_class
      class_short e h = rw (type_int e, sym es ∙ h)

      pub class_long : f ≡ 1 → s ≡ false → 1 ≡ cast_class (type_at tree text y)
      unfolding cast_class
      class_long e h = rw (type_int e, sym es ∙ h)

    pub class_address : f ≡ 6 → 2 ≡ cast_class (type_at tree text y)
    unfolding cast_class
    class_address e = rw (type_address e)

    pub class_rest : 7 ≤ f → f < 9 → 4 ≡ cast_class (type_at tree text y)
    unfolding cast_class
    class_rest h l = rw (type-is f ef) (by_form (λ k t. 7 ≤ k → k < 9 → 4 ≡ cast_class t) (λ i j. absurd (omega arith)) (λ i j. absurd (omega arith))
        (λ i j. absurd (omega arith)) (λ i j. absurd (omega arith)) (λ i j. absurd (omega arith)) (λ i j. absurd (omega arith))
        (λ i j. absurd (omega arith)) (λ i j. refl) (λ i j. refl) (λ k g i j. absurd (omega arith)) f h l)

    pub class_none : f < 1 → 3 ≡ cast_class (type_at tree text y)
    unfolding cast_class
    class_none h = let e : f ≡ 0 = omega arith in rw (type-is f ef, e)

    pub class_null : 9 ≤ f → 3 ≡ cast_class (type_at tree text y)
    unfolding cast_class
    class_null h = rw (type_null h)

    pub class_scalar : 2 ≤ f → f < 6 → 0 ≡ cast_class (type_at tree text y)
    unfolding cast_class
    class_scalar h l = rw (type-is f ef) (by_form (λ k t. 2 ≤ k → k < 6 → 0 ≡ cast_class t) (λ i j. absurd (omega arith))
        (λ i j. absurd (omega arith)) (λ i j. refl) (λ i j. refl) (λ i j. refl) (λ i j. refl) (λ i j. absurd (omega arith))
        (λ i j. absurd (omega arith)) (λ i j. absurd (omega arith)) (λ k g i j. absurd (omega arith)) f h l)
