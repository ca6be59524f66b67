-- A function on record numbers by its one step: `fix none step r`, where the step may ask for smaller numbers only.
-- Assumes nothing: these are definitions.
use Rattle.std.specs.Prelude.{ℕ, zero, suc, Bool, true, false, ltb}

-- x where the test holds, else y
unfoldable pub pick : {X : Type 0} → Bool → X → X → X
pick true x y = x
pick false x y = y

-- what g says of k, where k is below r, and else `bad`
unfoldable pub below : {X : Type 0} → (ℕ → X) → ℕ → ℕ → X → X
unfolding pick
below g r k bad = pick (ltb k r) (g k) bad

-- as `fix`, for at most so many steps down
unfoldable pub fix_f : {X : Type 0} → X → ((ℕ → X) → ℕ → X) → ℕ → ℕ → X
fix_f none step zero r = none
fix_f none step (suc f) r = step (fix_f none step f) r

-- what `step` says of r, with what it says of lower numbers; r + 1 steps down are enough
unfoldable pub fix : {X : Type 0} → X → ((ℕ → X) → ℕ → X) → ℕ → X
unfolding fix_f
fix none step r = fix_f none step (suc r) r
