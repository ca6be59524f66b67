-- Tests and sums over all numbers below a bound. Assumes nothing: these are definitions.
use Rattle.std.specs.Prelude.{ℕ, zero, suc, ◌+◌, Bool, true, false, ◌&&◌, ◌||◌}
use Rattle.std.proofs.Math.Option.{Option, none, some}
use Rattle.laws.specs.Fix.{pick}

-- f holds of every number below n
unfoldable pub all_below : ℕ → (ℕ → Bool) → Bool
all_below zero f = true
all_below (suc n) f = all_below n f && f n

-- f holds of some number below n
unfoldable pub any_below : ℕ → (ℕ → Bool) → Bool
any_below zero f = false
any_below (suc n) f = any_below n f || f n

-- f 0 + .. + f (n - 1)
unfoldable pub sum_below : ℕ → (ℕ → ℕ) → ℕ
sum_below zero f = 0
sum_below (suc n) f = sum_below n f + f n

unfoldable pub or_else : {X : Type 0} → Option X → Option X → Option X
or_else (some x) o = some x
or_else none o = o

-- the lowest number below n of which f holds
unfoldable pub lowest : ℕ → (ℕ → Bool) → Option ℕ
unfolding pick or_else
lowest zero f = none
lowest (suc n) f = or_else (lowest n f) (pick (f n) (some n) none)

-- the highest number below n of which f holds
unfoldable pub last : ℕ → (ℕ → Bool) → Option ℕ
unfolding pick
last zero f = none
last (suc n) f = pick (f n) (some n) (last n f)

-- a number that may be missing, as it stands in bytes: one more than it, or 0
unfoldable pub past : Option ℕ → ℕ
past none = 0
past (some j) = suc j
