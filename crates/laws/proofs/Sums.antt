-- Sums over the numbers below n: order, sums of sums, and the one term that a test picks out.
-- By induction on n. Assumes nothing.
use mathlib.Core.Path.{◌≡◌, refl, sym}
use mathlib.Core.Bool.{Bool, true, false}
use Prim.Native.Nat.{ℕ, zero, suc, ◌+◌, ◌*◌, ◌≤◌, ◌<◌}
use native.Mathlib.Decide.{dec_lt, ℕ_discrete}
use native.Mathlib.Omega.{arith}
use lib.Dec.{eqb, T, eqb_refl}
use borrow.Author.Tests.{ne_eqb}
use Rattle.laws.specs.Fix.{pick}
use Rattle.laws.specs.Below.{sum_below}

pub sum-le : (n : ℕ) (f g : ℕ → ℕ) → ((i : ℕ) → i < n → f i ≤ g i) → sum_below n f ≤ sum_below n g
unfolding sum_below
sum-le zero f g h = omega arith
sum-le (suc n) f g h = omega (arith, sum-le n f g (λ i k. h i (omega arith)), h n (omega arith))

pub sum_same : (n : ℕ) (f g : ℕ → ℕ) → ((i : ℕ) → i < n → f i ≡ g i) → sum_below n f ≡ sum_below n g
sum_same n f g h = omega (arith, sum-le n f g (λ i k. omega (arith, h i k)), sum-le n g f (λ i k. omega (arith, h i k)))

pub sum-add : (n : ℕ) (f g : ℕ → ℕ) → sum_below n (λ i. f i + g i) ≡ sum_below n f + sum_below n g
unfolding sum_below
sum-add zero f g = refl
sum-add (suc n) f g = rw (sum-add n f g) (omega arith)

pub sum-zero : (n : ℕ) → sum_below n (λ i. 0) ≡ 0
unfolding sum_below
sum-zero zero = refl
sum-zero (suc n) = rw (sum-zero n)

pub sum_one : (n : ℕ) → sum_below n (λ i. 1) ≡ n
unfolding sum_below
sum_one zero = refl
sum_one (suc n) = rw (sum_one n) (omega arith)

pub sum-swap : (n m : ℕ) (a : ℕ → ℕ → ℕ) → sum_below n (λ i. sum_below m (λ j. a i j)) ≡ sum_below m (λ j. sum_below n (λ i. a i j))
unfolding sum_below
sum-swap zero m a = sym (sum-zero m)
sum-swap (suc n) m a = rw (sum-swap n m a) (sym (sum-add m (λ j. sum_below n (λ i. a i j)) (λ j. a n j)))

pub sum_times : (n c : ℕ) (f : ℕ → ℕ) → sum_below n (λ i. f i * c) ≡ sum_below n f * c
unfolding sum_below
sum_times zero c f = omega arith
sum_times (suc n) c f = rw (sum_times n c f) (omega arith)

-- 1 where the two are the same, else 0
unfoldable pub hit : ℕ → ℕ → ℕ
unfolding pick
hit w j = pick (eqb w j) 1 0

pick-one : (b : Bool) → T b → ◌≡◌ {A = ℕ} (pick b 1 0) 1
unfolding pick
pick-one true t = refl
pick-one false t = absurd t

hit_same : (w : ℕ) → hit w w ≡ 1
unfolding hit
hit_same w = pick-one (eqb w w) (eqb_refl w)

-- the last number, or one before it
hit_last : (n w : ℕ) (f : ℕ → ℕ) (s : ℕ) → Dec (w < n) → w < suc n → (w < n → f w ≤ s) → f w ≤ s + hit w n * f n
hit_last n w f s (yes k) h g = omega (arith, g k)
hit_last n w f s (no k) h g = let e : n ≡ w = omega (arith, k, h) in rw (e, hit_same w) (omega arith)

pub sum_hit : (n w : ℕ) (f : ℕ → ℕ) → w < n → f w ≤ sum_below n (λ j. hit w j * f j)
unfolding sum_below
sum_hit zero w f h = absurd (omega arith)
sum_hit (suc n) w f h = hit_last n w f (sum_below n (λ j. hit w j * f j)) (dec_lt w n) h (λ k. sum_hit n w f k)

-- ---- of all numbers below n, at most one is w

hit_small : (b : Bool) → pick b 1 0 ≤ 1
unfolding pick
hit_small true = omega arith
hit_small false = omega arith

hit_other : (w j : ℕ) → ¬ (w ≡ j) → hit w j ≡ 0
unfolding hit pick
hit_other w j h = rw (ne_eqb w j h)

hits_before : (n w : ℕ) → n ≤ w → sum_below n (hit w) ≡ 0
unfolding sum_below
hits_before zero w h = refl
hits_before (suc n) w h = omega (arith, hits_before n w (omega arith), hit_other w n (λ e. omega arith))

hits_last : (n w : ℕ) → Dec (w ≡ n) → sum_below n (hit w) ≤ 1 → sum_below n (hit w) + hit w n ≤ 1
unfolding hit
hits_last n w (yes e) h = omega (arith, hits_before n w (omega (arith, e)), hit_small (eqb w n))
hits_last n w (no e) h = omega (arith, h, hit_other w n e)

pub sum_hits : (n w : ℕ) → sum_below n (hit w) ≤ 1
unfolding sum_below
sum_hits zero w = omega arith
sum_hits (suc n) w = hits_last n w (ℕ_discrete w n) (sum_hits n w)
