-- Laws of `all_below` and `any_below`, as a loop meets them: one number more, a number that decides, the bound reached, and what a passed test says of each number.
-- By induction on the bound. Assumes nothing.
use mathlib.Core.Path.{◌≡◌, refl, sym, ap, ◌∙◌}
use Prim.Native.Nat.{ℕ, zero, suc, ◌+◌, ◌≤◌, ◌<◌}
use mathlib.Core.Bool.{Bool, true, false, ◌&&◌, ◌||◌, false≢true}
use native.Mathlib.Numerals.{add-one}
use native.Mathlib.Omega.{arith}
use lib.Dec.{eqb}
use borrow.Author.Tests.{eqb-true, eqb-false}
use Rattle.laws.specs.Below.{all_below, any_below}
use Rattle.laws.proofs.Tests.{and_left, and_right}

-- a number below suc n is n, or it is below n
split : {P : Type 0} (n i : ℕ) (b : Bool) → b ≡ eqb i n → i < suc n → (i ≡ n → P) → (i < n → P) → P
split n i true e h last before = last (eqb-true i n (sym e))
split n i false e h last before = let d : i ≡ n → ⊥ = eqb-false i n (sym e) in before (omega arith)

and_false : (a b : Bool) → b ≡ false → (a && b) ≡ false
and_false true b e = e
and_false false b e = refl

or_true_right : (a b : Bool) → b ≡ true → (a || b) ≡ true
or_true_right true b e = refl
or_true_right false b e = e

or_left : (a b : Bool) → (a || b) ≡ false → a ≡ false
or_left true b e = absurd (false≢true (sym e))
or_left false b e = refl

or_right : (a b : Bool) → (a || b) ≡ false → b ≡ false
or_right true b e = absurd (false≢true (sym e))
or_right false b e = e

module _ (f : ℕ → Bool) where
  pub all_more : (n : ℕ) → all_below n f ≡ true → f n ≡ true → all_below (n + 1) f ≡ true
  unfolding all_below
  all_more n a h = rw (add-one n, a) h

  pub all-stop : (n i : ℕ) → i < n → f i ≡ false → all_below n f ≡ false
  unfolding all_below
  all-stop zero i h e = absurd (omega arith)
  all-stop (suc n) i h e =
      split n i _ refl h
      (λ q. and_false (all_below n f) (f n) (ap f (sym q) ∙ e))
      (λ b. rw (all-stop n i b e) refl)

  pub all_done : (i n : ℕ) → all_below i f ≡ true → i ≤ n → n ≤ i → all_below n f ≡ true
  all_done i n a h k = let q : i ≡ n = omega arith in rw q at a

  pub all-at : (n i : ℕ) → all_below n f ≡ true → i < n → f i ≡ true
  unfolding all_below
  all-at zero i a h = absurd (omega arith)
  all-at (suc n) i a h =
      split n i _ refl h
      (λ q. ap f q ∙ and_right (all_below n f) (f n) a)
      (λ b. all-at n i (and_left (all_below n f) (f n) a) b)

  pub all_of : (n : ℕ) → ((i : ℕ) → i < n → f i ≡ true) → all_below n f ≡ true
  unfolding all_below
  all_of zero h = refl
  all_of (suc n) h = rw (all_of n (λ i b. h i (omega arith))) (h n (omega arith))

  pub any_more : (n : ℕ) → any_below n f ≡ false → f n ≡ false → any_below (n + 1) f ≡ false
  unfolding any_below
  any_more n a h = rw (add-one n, a) h

  pub any_stop : (n i : ℕ) → i < n → f i ≡ true → any_below n f ≡ true
  unfolding any_below
  any_stop zero i h e = absurd (omega arith)
  any_stop (suc n) i h e =
      split n i _ refl h
      (λ q. or_true_right (any_below n f) (f n) (ap f (sym q) ∙ e))
      (λ b. rw (any_stop n i b e) refl)

  pub any_done : (i n : ℕ) → any_below i f ≡ false → i ≤ n → n ≤ i → any_below n f ≡ false
  any_done i n a h k = let q : i ≡ n = omega arith in rw q at a

  pub any_at : (n i : ℕ) → any_below n f ≡ false → i < n → f i ≡ false
  unfolding any_below
  any_at zero i a h = absurd (omega arith)
  any_at (suc n) i a h =
      split n i _ refl h
      (λ q. ap f q ∙ or_right (any_below n f) (f n) a)
      (λ b. any_at n i (or_left (any_below n f) (f n) a) b)

  pub any_of : (n : ℕ) → ((i : ℕ) → i < n → f i ≡ false) → any_below n f ≡ false
  unfolding any_below
  any_of zero h = refl
  any_of (suc n) h = rw (any_of n (λ i b. h i (omega arith))) (h n (omega arith))
