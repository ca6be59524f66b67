-- Numbers in a list, and how many different ones there are. Assumes nothing: these are definitions.
use Rattle.std.specs.Prelude.{ℕ, ◌+◌, Bool, false, ◌||◌, List, [], ◌∷◌, eqb}
use Rattle.laws.specs.Fix.{pick}
use Rattle.laws.specs.Below.{sum_below}

unfoldable pub has : ℕ → List ℕ → Bool
has r [] = false
has r (x ∷ l) = eqb r x || has r l

-- how many numbers below n are in the list, each counted once
unfoldable pub different : ℕ → List ℕ → ℕ
unfolding sum_below pick has
different n l = sum_below n (λ r. pick (has r l) 1 0)

-- what the numbers in the list weigh together, each as often as it is there
unfoldable pub total : (ℕ → ℕ) → List ℕ → ℕ
total v [] = 0
total v (x ∷ l) = v x + total v l

-- how often q is in the list
unfoldable pub occurs : ℕ → List ℕ → ℕ
unfolding total pick
occurs q l = total (λ x. pick (eqb q x) 1 0) l
