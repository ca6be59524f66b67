-- Integers as differences of two naturals, `sub_ℕ p q`: when two are equal, and what their sum, negation and order are.
-- Each law is by cases on which of the numbers is larger, so that a statement over ℤ becomes one that `omega` proves over ℕ.
use mathlib.Core.Path.{◌≡◌, refl, sym, ap, ap₂, ◌∙◌}
use mathlib.Core.Logic.{◌⊎◌, inl, inr, ⊎_elim}
use mathlib.Core.Bool.{Bool, true, false}
use Prim.Native.Nat.{ℕ, zero, suc, ◌+◌, ◌-◌, ◌≤◌, ◌<◌}
use native.Mathlib.Omega.{arith}
use lib.Dec.{ltb}
use lib.IntN.{pos, negsuc, neg_ℤ, sub_ℕ, ◌+ℤ◌}
use lib.Signed.{lt_z}
use borrow.Author.Tests.{lt-ltb, le-ltb, ltb-true, ltb-false}

decide : (t : Bool) → (t ≡ true) ⊎ (t ≡ false)
decide true = inl refl
decide false = inr refl

pub lt-or_ge : (a b : ℕ) → (a < b) ⊎ (b ≤ a)
lt-or_ge a b = ⊎_elim (λ e. inl (ltb-true a b e)) (λ e. inr (ltb-false a b e)) (decide (ltb a b))

-- the two forms of a difference
pub sub-less : (a b : ℕ) → a < b → sub_ℕ a b ≡ negsuc (b - suc a)
sub-less a b h = simp (lt-ltb a b h)

pub sub_more : (a b : ℕ) → b ≤ a → sub_ℕ a b ≡ pos (a - b)
sub_more a b h = simp (le-ltb a b h)

pub sub-zero : (a : ℕ) → sub_ℕ a 0 ≡ pos a
sub-zero a = sub_more a 0 (omega arith) ∙ ap pos (omega arith)

-- two differences are equal where the crosswise sums are
pub sub-eq : (p q p' q' : ℕ) → p + q' ≡ p' + q → sub_ℕ p q ≡ sub_ℕ p' q'
sub-eq p q p' q' e =
    ⊎_elim
    (λ (h : p < q). sub-less p q h ∙ ap negsuc (omega arith) ∙ sym (sub-less p' q' (omega arith)))
    (λ (h : q ≤ p). sub_more p q h ∙ ap pos (omega arith) ∙ sym (sub_more p' q' (omega arith)))
    (lt-or_ge p q)

neg_sub : (n : ℕ) → neg_ℤ (pos n) ≡ sub_ℕ 0 n
neg_sub zero = refl
neg_sub (suc n) = sym (sub-less 0 (suc n) (omega arith) ∙ ap negsuc (omega arith))

pub sub_neg : (p q : ℕ) → neg_ℤ (sub_ℕ p q) ≡ sub_ℕ q p
sub_neg p q =
    ⊎_elim
    (λ (h : p < q). ap neg_ℤ (sub-less p q h) ∙ ap pos (omega arith) ∙ sym (sub_more q p (omega arith)))
    (λ (h : q ≤ p). ap neg_ℤ (sub_more p q h) ∙ neg_sub (p - q) ∙ sub-eq 0 (p - q) q p (omega arith))
    (lt-or_ge p q)

pub sub-add : (p q p' q' : ℕ) → sub_ℕ p q +ℤ sub_ℕ p' q' ≡ sub_ℕ (p + p') (q + q')
sub-add p q p' q' =
    ⊎_elim
    (λ (h : p < q).
    ⊎_elim
    (λ (k : p' < q'). ap₂ ◌+ℤ◌ (sub-less p q h) (sub-less p' q' k) ∙ ap negsuc (omega arith) ∙ sym (sub-less (p + p') (q + q') (omega arith)))
    (λ (k : q' ≤ p'). ap₂ ◌+ℤ◌ (sub-less p q h) (sub_more p' q' k) ∙ sub-eq (p' - q') (suc (q - suc p)) (p + p') (q + q') (omega arith))
    (lt-or_ge p' q'))
    (λ (h : q ≤ p).
    ⊎_elim
    (λ (k : p' < q'). ap₂ ◌+ℤ◌ (sub_more p q h) (sub-less p' q' k) ∙ sub-eq (p - q) (suc (q' - suc p')) (p + p') (q + q') (omega arith))
    (λ (k : q' ≤ p'). ap₂ ◌+ℤ◌ (sub_more p q h) (sub_more p' q' k) ∙ ap pos (omega arith) ∙ sym (sub_more (p + p') (q + q') (omega arith)))
    (lt-or_ge p' q'))
    (lt-or_ge p q)

-- two tests agree where each fact gives the other
pub ltb_same : (a b c d : ℕ) → (a < b → c < d) → (c < d → a < b) → ltb a b ≡ ltb c d
ltb_same a b c d f g =
    ⊎_elim (λ (h : a < b). lt-ltb a b h ∙ sym (lt-ltb c d (f h)))
    (λ (h : b ≤ a). le-ltb a b h ∙ sym (le-ltb c d (⊎_elim (λ (k : c < d). absurd (clash a b h (g k))) (λ (k : d ≤ c). k) (lt-or_ge c d))))
    (lt-or_ge a b)
  where
    clash : (a b : ℕ) → b ≤ a → a < b → ⊥
    clash a b h k = omega arith

-- the order, crosswise too
pub sub-lt : (p q p' q' : ℕ) → lt_z (sub_ℕ p q) (sub_ℕ p' q') ≡ ltb (p + q') (p' + q)
sub-lt p q p' q' =
    ⊎_elim
    (λ (h : p < q).
    ⊎_elim
    (λ (k : p' < q'). ap₂ lt_z (sub-less p q h) (sub-less p' q' k) ∙ ltb_same (q' - suc p') (q - suc p) (p + q') (p' + q) (λ l. omega arith) (λ l. omega arith))
    (λ (k : q' ≤ p'). ap₂ lt_z (sub-less p q h) (sub_more p' q' k) ∙ sym (lt-ltb (p + q') (p' + q) (omega arith)))
    (lt-or_ge p' q'))
    (λ (h : q ≤ p).
    ⊎_elim
    (λ (k : p' < q'). ap₂ lt_z (sub_more p q h) (sub-less p' q' k) ∙ sym (le-ltb (p + q') (p' + q) (omega arith)))
    (λ (k : q' ≤ p'). ap₂ lt_z (sub_more p q h) (sub_more p' q' k) ∙ ltb_same (p - q) (p' - q') (p + q') (p' + q) (λ l. omega arith) (λ l. omega arith))
    (lt-or_ge p' q'))
    (lt-or_ge p q)
