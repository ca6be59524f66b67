-- Laws of `lowest` and `sum_below`: what decides the lowest number, what is known of it, and the sum with one more.
-- By induction on the bound. Assumes nothing.
use mathlib.Core.Path.{◌≡◌, refl, sym}
use mathlib.Core.Logic.{⊎_elim}
use Prim.Native.Nat.{ℕ, zero, suc, ◌+◌, ◌≤◌, ◌<◌}
use mathlib.Core.Bool.{Bool, true, false}
use mathlib.Core.Option.{Option, none, some}
use native.Mathlib.Nat.{eq-or-lt_of_le}
use native.Mathlib.Numerals.{add-one}
use native.Mathlib.Omega.{arith}
use Rattle.laws.specs.Fix.{pick}
use Rattle.laws.specs.Below.{sum_below, lowest, or_else}

none_some : {k : ℕ} → ◌≡◌ {A = Option ℕ} none (some k) → ⊥
none_some e = let z : ◌≡◌ {A = ℕ} 0 1 = cc in omega arith

pub lowest-none : (n : ℕ) (f : ℕ → Bool) → ((k : ℕ) → k < n → f k ≡ false) → lowest n f ≡ none
unfolding lowest or_else pick
lowest-none zero f h = refl
lowest-none (suc n) f h = rw (lowest-none n f (λ k hk. h k (omega arith)), h n (omega arith)) refl

pub lowest_some : (n : ℕ) (f : ℕ → Bool) (r : ℕ) → r < n → ((k : ℕ) → k < r → f k ≡ false) → f r ≡ true → lowest n f ≡ some r
unfolding lowest or_else pick
lowest_some zero f r h before found = absurd (omega arith)
lowest_some (suc n) f r h before found =
    let last : r ≤ n = omega arith in
    ⊎_elim
    (λ (e : r ≡ n).
    let t : f n ≡ true = rw e at found in
    rw (lowest-none n f (λ k hk. before k (omega arith)), t, e) refl)
    (λ (l : r < n). rw (lowest_some n f r l before found) refl)
    (eq-or-lt_of_le last)

-- the lowest number is one of which f holds
pub lowest-holds : (n : ℕ) (f : ℕ → Bool) (k : ℕ) → lowest n f ≡ some k → (k < n) × (f k ≡ true)
unfolding lowest or_else pick
lowest-holds zero f k e = absurd (none_some e)
lowest-holds (suc n) f k e = go (lowest n f) (lowest-holds n f k) (f n) refl e
  where
    go : (o : Option ℕ) → (o ≡ some k → (k < n) × (f k ≡ true)) → (b : Bool) → f n ≡ b → or_else o (pick b (some n) none) ≡ some k
        → (k < suc n) × (f k ≡ true)
    go (some j) before b eb q = let t : (k < n) × (f k ≡ true) = before q in (omega (arith, t.0), t.1)
    go none before true eb q = let z : n ≡ k = cc in (omega arith, rw (sym z) eb)
    go none before false eb q = absurd (none_some q)

-- where there is none, f holds of no number
pub lowest_missed : (n : ℕ) (f : ℕ → Bool) (k : ℕ) → lowest n f ≡ none → k < n → f k ≡ false
unfolding lowest or_else pick
lowest_missed zero f k e h = absurd (omega arith)
lowest_missed (suc n) f k e h = go (lowest n f) (lowest_missed n f k) (f n) refl e
  where
    go : (o : Option ℕ) → (o ≡ none → k < n → f k ≡ false) → (b : Bool) → f n ≡ b → or_else o (pick b (some n) none) ≡ none → f k ≡ false
    go (some j) before b eb q = absurd (none_some (sym q))
    go none before true eb q = absurd (none_some (sym q))
    go none before false eb q =
        let le : k ≤ n = omega arith in
        ⊎_elim (λ (z : k ≡ n). rw z eb) (λ (l : k < n). before refl l) (eq-or-lt_of_le le)

pub sum_below-more : (n : ℕ) (f : ℕ → ℕ) → sum_below (n + 1) f ≡ sum_below n f + f n
unfolding sum_below
sum_below-more n f = rw (add-one n) refl
