-- A table's rule at each index, from one test that antt computes over the whole table.
-- By induction on the number of entries. Assumes nothing.
use mathlib.Core.Path.{◌≡◌, refl, sym, subst}
use mathlib.Core.Logic.{◌⊎◌, inl, inr, ⊎_elim}
use mathlib.Core.Bool.{Bool, true, false}
use mathlib.Core.List.{List, [], ◌∷◌}
use Prim.Native.Nat.{ℕ, zero, suc, ◌<◌, ◌≤◌}
use native.Mathlib.Nat.{eq-or-lt_of_le, le_of_suc-le-suc}
use native.Mathlib.Omega.{arith}
use lib.Dec.{T}
use lib.ListN.{length, get_or}

abbrev pub both : Bool → Bool → Bool
both true b = b
both false b = false

pub both_left : (a b : Bool) → T (both a b) → T a
both_left true b t = tt
both_left false b t = t

pub both_right : (a b : Bool) → T (both a b) → T b
both_right true b t = t
both_right false b t = absurd t

-- the test passes at each number below n
abbrev pub upto : ℕ → (ℕ → Bool) → Bool
upto zero f = true
upto (suc n) f = both (f n) (upto n f)

pub passes : (n : ℕ) (f : ℕ → Bool) → T (upto n f) → (k : ℕ) → k < n → T (f k)
passes zero f t k h = absurd (omega arith)
passes (suc n) f t k h = go (eq-or-lt_of_le (le_of_suc-le-suc h)) (passes n f (both_right (f n) (upto n f) t) k)
  where
    go : (k ≡ n) ⊎ (k < n) → (k < n → T (f k)) → T (f k)
    go (inl e) r = subst (λ (m : ℕ). T (f m)) (sym e) (both_left (f n) (upto n f) t)
    go (inr l) r = r l

-- a fact at each number below n, the last first
abbrev pub each : ℕ → (ℕ → Type 0) → Type 0
each zero P = Unit {0}
each (suc n) P = P n × each n P

pub at_each : (n : ℕ) (P : ℕ → Type 0) → each n P → (k : ℕ) → k < n → P k
at_each zero P t k h = absurd (omega arith)
at_each (suc n) P t k h = go (eq-or-lt_of_le (le_of_suc-le-suc h)) (at_each n P t.1 k)
  where
    go : (k ≡ n) ⊎ (k < n) → (k < n → P k) → P k
    go (inl e) r = subst P (sym e) t.0
    go (inr l) r = r l

-- past its end a table gives what it is asked to
pub past : {A : Type 0} (xs : List A) (d : A) (k : ℕ) → length xs ≤ k → get_or xs k d ≡ d
past [] d k h = refl
past (x ∷ xs) d zero h = absurd (omega arith)
past (x ∷ xs) d (suc k) h = past xs d k (omega arith)

-- below n, or not
pub below_or_not : (k n : ℕ) → (k < n) ⊎ (n ≤ k)
below_or_not k zero = inr (omega arith)
below_or_not zero (suc n) = inl (omega arith)
below_or_not (suc k) (suc n) = ⊎_elim (λ h. inl (omega arith)) (λ h. inr (omega arith)) (below_or_not k n)
