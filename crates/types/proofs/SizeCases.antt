-- `Type::size` by the form of the type, as the code meets it; and products of sizes as they are handed on.
-- By the law of `fix`: an array's size is made of its element's, a lower record. Assumes nothing.
use mathlib.Core.Path.{◌≡◌, refl, sym, ap, ◌∙◌}
use mathlib.Core.Bool.{Bool, true, false}
use mathlib.Core.List.{List}
use mathlib.Core.Option.{Option, none, some}
use Prim.Native.Nat.{ℕ, ◌+◌, ◌*◌, ◌/◌, ◌%◌, ◌^◌, ◌<◌, ◌≤◌}
use native.Mathlib.Nat.{le-div_iff_mul-le, div-lt_iff_lt-mul, le-mul_of_pos_right, mul-zero}
use native.Mathlib.Omega.{arith}
use lib.Dec.{ltb}
use borrow.Author.Tests.{lt-ltb, le-ltb, ltb-false}
use Rattle.laws.specs.Fix.{pick, below}
use Rattle.laws.proofs.FixLaws.{Local, below_cong, below_in, below_out, fix-step}
use Rattle.records.specs.Words.{detail_of, word_of, A, B}
use Rattle.syntax.specs.Syntax.{Ty, TInt, TFloat, TBool, TChar, TByte, TAddress, TArray, TCustom, TNull}
use Rattle.syntax.specs.Decode.{bit, type_at, wide_of}
use Rattle.conversion.specs.Types.{times_size, size_by, size_step, size_within, size}
use Rattle.types.specs.declared.size.Bytes.{Bytes}
use Rattle.types.specs.declared.size.Bytes.TheVariants.{Exactly, Over, Nothing}
use Rattle.types.specs.Sizes.{exact_size, bytes_for, exact_bytes, size_at}
use Rattle.types.proofs.TypeCases.{type-is, type_array, type_address, by_form}

-- ---- products

small : (n : ℕ) → n < 2 ^ 63 → bytes_for (some n) ≡ Exactly n
unfolding bytes_for pick
small n h = rw (lt-ltb n (2 ^ 63) h)

large : (n : ℕ) → 2 ^ 63 ≤ n → bytes_for (some n) ≡ Over
unfolding bytes_for pick
large n h = rw (le-ltb n (2 ^ 63) h)

-- a size of each kind comes from such a number
pick-exactly : (m b : ℕ) (t : Bool) → Exactly b ≡ pick t (Exactly m) Over → b ≡ m
unfolding pick
pick-exactly m b true q = cc
pick-exactly m b false q = let z : ◌≡◌ {A = ℕ} 0 1 = cc in absurd (omega arith)

pick-over : (m : ℕ) (t : Bool) → ltb m (2 ^ 63) ≡ t → Over ≡ pick t (Exactly m) Over → 2 ^ 63 ≤ m
unfolding pick
pick-over m true e q = let z : ◌≡◌ {A = ℕ} 0 1 = cc in absurd (omega arith)
pick-over m false e q = ltb-false m (2 ^ 63) e

pick_nothing : (m : ℕ) (t : Bool) → Nothing ≡ pick t (Exactly m) Over → ⊥
unfolding pick
pick_nothing m true q = let z : ◌≡◌ {A = ℕ} 0 1 = cc in omega arith
pick_nothing m false q = let z : ◌≡◌ {A = ℕ} 0 1 = cc in omega arith

zero_of : (m n : ℕ) → n ≡ 0 → Exactly 0 ≡ bytes_for (some (m * n))
zero_of m n e = rw (e, mul-zero) (sym (small 0 (omega arith)))

over-of : (m n : ℕ) → 2 ^ 63 ≤ m → (n ≡ 0 → ⊥) → Over ≡ bytes_for (some (m * n))
over-of m n h z = let p : 0 < n = omega arith in sym (large (m * n) (omega (arith, le-mul_of_pos_right m p)))

module _ (n : ℕ) where
  pub times_nothing : (o : Option ℕ) → Nothing ≡ bytes_for o → Nothing ≡ bytes_for (times_size o n)
  unfolding bytes_for times_size
  times_nothing none q = refl
  times_nothing (some m) q = absurd (pick_nothing m (ltb m (2 ^ 63)) q)

  pub over_zero : n ≡ 0 → (o : Option ℕ) → Over ≡ bytes_for o → Exactly 0 ≡ bytes_for (times_size o n)
  unfolding bytes_for times_size
  over_zero e none q = let z : ◌≡◌ {A = ℕ} 0 1 = cc in absurd (omega arith)
  over_zero e (some m) q = zero_of m n e

  pub over-more : (n ≡ 0 → ⊥) → (o : Option ℕ) → Over ≡ bytes_for o → Over ≡ bytes_for (times_size o n)
  unfolding bytes_for times_size
  over-more e none q = let z : ◌≡◌ {A = ℕ} 0 1 = cc in absurd (omega arith)
  over-more e (some m) q = over-of m n (pick-over m (ltb m (2 ^ 63)) refl q) e

  module _ (b : ℕ) where
    pub exactly-zero : n ≡ 0 → (o : Option ℕ) → Exactly b ≡ bytes_for o → Exactly 0 ≡ bytes_for (times_size o n)
    unfolding bytes_for times_size
    exactly-zero e none q = let z : ◌≡◌ {A = ℕ} 0 1 = cc in absurd (omega arith)
    exactly-zero e (some m) q = zero_of m n e

    module _ (e : n ≡ 0 → ⊥) where
      pub product_fits : b ≤ 9223372036854775807 / n → b * n < 2 ^ 63
      product_fits h = let p : 0 < n = omega arith in omega (arith, (le-div_iff_mul-le p).0 h)

      pub exactly-fits : b ≤ 9223372036854775807 / n → (o : Option ℕ) → Exactly b ≡ bytes_for o → Exactly (b * n) ≡ bytes_for (times_size o n)
      unfolding bytes_for times_size
      exactly-fits h none q = let z : ◌≡◌ {A = ℕ} 0 1 = cc in absurd (omega arith)
      exactly-fits h (some m) q = rw (sym (pick-exactly m b (ltb m (2 ^ 63)) q)) (sym (small (b * n) (product_fits h)))

      pub exactly-over : 9223372036854775807 / n < b → (o : Option ℕ) → Exactly b ≡ bytes_for o → Over ≡ bytes_for (times_size o n)
      unfolding bytes_for times_size
      exactly-over h none q = let z : ◌≡◌ {A = ℕ} 0 1 = cc in absurd (omega arith)
      exactly-over h (some m) q =
          let p : 0 < n = omega arith in
          rw (sym (pick-exactly m b (ltb m (2 ^ 63)) q)) (sym (large (b * n) (omega (arith, (div-lt_iff_lt-mul p).0 h))))

-- ---- sizes

by_cong : (g h : ℕ → Option ℕ) (t : Ty) → ((k : ℕ) → g k ≡ h k) → size_by g t ≡ size_by h t
unfolding size_by
by_cong g h (TInt s u) e = refl
by_cong g h (TFloat s) e = refl
by_cong g h TBool e = refl
by_cong g h TChar e = refl
by_cong g h TByte e = refl
by_cong g h (TAddress y) e = refl
by_cong g h (TArray y n) e = ap (λ (o : Option ℕ). times_size o n) (e y)
by_cong g h (TCustom t) e = refl
by_cong g h TNull e = refl

module _ (tree text : List ℕ) (y : ℕ) where
  step_local : Local (size_step (type_at tree text))
  unfolding size_step
  step_local g h r a = by_cong _ _ (type_at tree text r) (λ k. below_cong g h r k none (a k))

  size_is : exact_size tree text y ≡ size_by (λ k. below (exact_size tree text) y k none) (type_at tree text y)
  unfolding exact_size size_step
  size_is = fix-step none (size_step (type_at tree text)) step_local y

  -- what is handed on, with what document 01 says of it
  pub handed-on : (r : Bytes) → r ≡ bytes_for (exact_size tree text y) → exact_bytes r ≡ size_at tree text y
  unfolding size_at size exact_size size_within bytes_for exact_bytes pick
  handed-on r e = ap exact_bytes e ∙ go (exact_size tree text y)
    where
      picked : (n : ℕ) (t : Bool) → exact_bytes (pick t (Exactly n) Over) ≡ pick t (some n) none
      picked n true = refl
      picked n false = refl

      go : (o : Option ℕ) → exact_bytes (bytes_for o) ≡ size_within o
      go none = refl
      go (some n) = picked n (ltb n (2 ^ 63))

  module _ (f : ℕ) (ef : f ≡ detail_of tree y % 16) where
    module _ (q : f ≡ 7) (a : ℕ) (ea : a ≡ word_of tree y A) where
      array_is : exact_size tree text y ≡ times_size (below (exact_size tree text) y a none) (wide_of tree text y B)
      unfolding size_by
      array_is = size_is ∙ rw (type_array tree text y f ef q, ea)

      pub array_in : a < y → (n : ℕ) → n ≡ word_of tree y 1 + word_of tree y 2 * 4294967296 → (x r : Bytes) → x ≡ bytes_for (exact_size tree text a)
          → ((o : Option ℕ) → x ≡ bytes_for o → r ≡ bytes_for (times_size o n)) → r ≡ bytes_for (exact_size tree text y)
      unfolding wide_of
      array_in h n en x r ex t =
          t (exact_size tree text a) ex ∙ ap bytes_for (rw en (sym (array_is ∙ rw (below_in (exact_size tree text) y a none h))))

      pub array_out : y ≤ a → Nothing ≡ bytes_for (exact_size tree text y)
      unfolding bytes_for times_size
      array_out h =
          let e : exact_size tree text y ≡ none = array_is ∙ rw (below_out (exact_size tree text) y a none h) in rw e

    scalar : (o : Option ℕ) → size_by (λ k. below (exact_size tree text) y k none) (type_at tree text y) ≡ o → bytes_for o ≡ bytes_for (exact_size tree text y)
    scalar o e = ap bytes_for (sym (size_is ∙ e))

    pub plain_none : f < 1 → Nothing ≡ bytes_for (exact_size tree text y)
    unfolding size_by bytes_for
    plain_none h = let e : f ≡ 0 = omega arith in scalar none (rw (type-is tree text y f ef, e))

    pub plain_address : f ≡ 6 → Exactly 8 ≡ bytes_for (exact_size tree text y)
    unfolding size_by bytes_for
    plain_address e = scalar (some 8) (rw (type_address tree text y f ef e))

    module _ (h : 1 ≤ f) (l : f ≤ 2) (s : Bool) (es : s ≡ bit 16 (detail_of tree y)) where
      number : size_by (λ k. below (exact_size tree text) y k none) (type_at tree text y) ≡ some (pick s 4 8)
      unfolding size_by
      number = rw (type-is tree text y f ef, es) (by_form tree text y
          (λ k t. 1 ≤ k → k ≤ 2 → size_by (λ k. below (exact_size tree text) y k none) t ≡ some (pick (bit 16 (detail_of tree y)) 4 8))
          (λ i j. absurd (omega arith)) (λ i j. refl) (λ i j. refl) (λ i j. absurd (omega arith)) (λ i j. absurd (omega arith))
          (λ i j. absurd (omega arith)) (λ i j. absurd (omega arith)) (λ i j. absurd (omega arith)) (λ i j. absurd (omega arith))
          (λ k g i j. absurd (omega arith)) f h l)

      pub plain_short : s ≡ true → Exactly 4 ≡ bytes_for (exact_size tree text y)
      unfolding bytes_for pick
      plain_short e = scalar (some 4) (number ∙ rw e)

      pub plain_long : s ≡ false → Exactly 8 ≡ bytes_for (exact_size tree text y)
      unfolding bytes_for pick
      plain_long e = scalar (some 8) (number ∙ rw e)

    pub plain_byte : 2 < f → f < 6 → Exactly 1 ≡ bytes_for (exact_size tree text y)
    unfolding size_by bytes_for
    plain_byte h l = scalar (some 1) (rw (type-is tree text y f ef) (by_form tree text y
        (λ k t. 2 < k → k < 6 → size_by (λ k. below (exact_size tree text) y k none) t ≡ some 1)
        (λ i j. absurd (omega arith)) (λ i j. absurd (omega arith)) (λ i j. absurd (omega arith)) (λ i j. refl) (λ i j. refl) (λ i j. refl)
        (λ i j. absurd (omega arith)) (λ i j. absurd (omega arith)) (λ i j. absurd (omega arith)) (λ k g i j. absurd (omega arith)) f h l))

    pub plain_rest : 6 ≤ f → (f ≡ 6 → ⊥) → (detail_of tree y % 16 ≡ 7 → ⊥) → Nothing ≡ bytes_for (exact_size tree text y)
    unfolding size_by bytes_for
    plain_rest l n₆ n₇ = scalar none (rw (type-is tree text y f ef) (by_form tree text y
        (λ k t. 6 ≤ k → (k ≡ 6 → ⊥) → (k ≡ 7 → ⊥) → size_by (λ k. below (exact_size tree text) y k none) t ≡ none)
        (λ i p q. absurd (omega arith)) (λ i p q. absurd (omega arith)) (λ i p q. absurd (omega arith)) (λ i p q. absurd (omega arith))
        (λ i p q. absurd (omega arith)) (λ i p q. absurd (omega arith)) (λ i p q. absurd (p refl)) (λ i p q. absurd (q refl))
        (λ i p q. refl) (λ k g i p q. refl) f l n₆ (λ e. n₇ (sym ef ∙ e))))

-- both promises of `size` from the first
pub promised : (tree : List ℕ) (y : ℕ) (r : Bytes) → ((text : List ℕ) → r ≡ bytes_for (exact_size tree text y))
    → ((text : List ℕ) → r ≡ bytes_for (exact_size tree text y)) × ((text : List ℕ) → exact_bytes r ≡ size_at tree text y)
promised tree y r h = (h, λ text. handed-on tree text y r (h text))
