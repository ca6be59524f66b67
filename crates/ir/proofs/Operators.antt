-- An operator's number names it in the list of its kind, and a number past the end names the first.
-- A list that is numbered from 0, by one computed test. Assumes nothing.
use mathlib.Core.Path.{◌≡◌, refl}
use mathlib.Core.Bool.{Bool, true, ◌&&◌}
use mathlib.Core.List.{List, [], ◌∷◌}
use Prim.Native.Nat.{ℕ, zero, suc, ◌+◌, ◌≤◌, ◌<◌}
use native.Mathlib.Omega.{arith}
use lib.Dec.{eqb}
use lib.ListN.{length, get_or}
use borrow.Author.Tests.{eqb-true}
use Rattle.laws.proofs.Tests.{and_left, and_right}
use Rattle.syntax.specs.Syntax.{binary_ops, binary_number, Or}

-- the numbers of xs are i and those behind it
abbrev numbered_from : {X : Type 0} → (X → ℕ) → List X → ℕ → Bool
numbered_from f [] i = true
numbered_from f (x ∷ xs) i = eqb (f x) i && numbered_from f xs (suc i)

at : {X : Type 0} (f : X → ℕ) (xs : List X) (d : X) (i k : ℕ) → numbered_from f xs i ≡ true → k < length xs → i + k ≡ f (get_or xs k d)
at f [] d i k e h = absurd (omega arith)
at f (x ∷ xs) d i zero e h = omega (arith, eqb-true (f x) i (and_left (eqb (f x) i) (numbered_from f xs (suc i)) e))
at f (x ∷ xs) d i (suc k) e h =
    let z : suc i + k ≡ f (get_or xs k d) = at f xs d (suc i) k (and_right (eqb (f x) i) (numbered_from f xs (suc i)) e) (omega arith) in
    omega arith

past : {X : Type 0} (xs : List X) (d : X) (k : ℕ) → length xs ≤ k → get_or xs k d ≡ d
past [] d k h = refl
past (x ∷ xs) d zero h = absurd (omega arith)
past (x ∷ xs) d (suc k) h = past xs d k (omega arith)

pub binary_in_lem : (k : ℕ) → k < 18 → k ≡ binary_number (get_or binary_ops k Or)
binary_in_lem k h = omega (arith, at binary_number binary_ops Or 0 k refl h)
