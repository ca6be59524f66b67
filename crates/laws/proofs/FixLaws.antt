-- The equation of `fix`, for a step that looks below its number alone; and laws of `pick` and `below`.
-- By induction on the steps down: two numbers of steps that suffice give the same. Assumes nothing.
use mathlib.Core.Path.{◌≡◌, refl}
use Prim.Native.Nat.{ℕ, zero, suc, ◌≤◌, ◌<◌}
use mathlib.Core.Bool.{Bool, true, false}
use native.Mathlib.Omega.{arith}
use lib.Dec.{ltb}
use borrow.Author.Tests.{lt-ltb, le-ltb, ltb-true}
use Rattle.laws.specs.Fix.{pick, below, fix_f, fix}

-- g and h agree below r
abbrev pub Agree : {X : Type 0} → (ℕ → X) → (ℕ → X) → ℕ → Type 0
Agree g h r = (k : ℕ) → k < r → g k ≡ h k

-- a step that looks below its number alone
abbrev pub Local : {X : Type 0} → ((ℕ → X) → ℕ → X) → Type 0
Local {X} step = (g h : ℕ → X) (r : ℕ) → Agree g h r → step g r ≡ step h r

pub pick_yes : {X : Type 0} (b : Bool) (x y : X) → b ≡ true → pick b x y ≡ x
unfolding pick
pick_yes b x y e = rw e

pub pick_no : {X : Type 0} (b : Bool) (x y : X) → b ≡ false → pick b x y ≡ y
unfolding pick
pick_no b x y e = rw e

pub below_in : {X : Type 0} (g : ℕ → X) (r k : ℕ) (bad : X) → k < r → below g r k bad ≡ g k
unfolding below
below_in g r k bad h = pick_yes (ltb k r) (g k) bad (lt-ltb k r h)

pub below_out : {X : Type 0} (g : ℕ → X) (r k : ℕ) (bad : X) → r ≤ k → below g r k bad ≡ bad
unfolding below
below_out g r k bad h = pick_no (ltb k r) (g k) bad (le-ltb k r h)

pick_cong : {X : Type 0} (b : Bool) (x x' y : X) → (b ≡ true → x ≡ x') → pick b x y ≡ pick b x' y
unfolding pick
pick_cong true x x' y e = e refl
pick_cong false x x' y e = refl

pub below_cong : {X : Type 0} (g h : ℕ → X) (r k : ℕ) (bad : X) → (k < r → g k ≡ h k) → below g r k bad ≡ below h r k bad
unfolding below
below_cong g h r k bad e = pick_cong (ltb k r) (g k) (h k) bad (λ t. e (ltb-true k r t))

same : {X : Type 0} (none : X) (step : (ℕ → X) → ℕ → X) → Local step → (f g r : ℕ) → r < f → r < g → fix_f none step f r ≡ fix_f none step g r
unfolding fix_f
same none step loc zero g r hf hg = absurd (omega arith)
same none step loc (suc f) zero r hf hg = absurd (omega arith)
same none step loc (suc f) (suc g) r hf hg =
    loc (fix_f none step f) (fix_f none step g) r (λ k hk. same none step loc f g k (omega arith) (omega arith))

pub fix-step : {X : Type 0} (none : X) (step : (ℕ → X) → ℕ → X) → Local step → (r : ℕ) → fix none step r ≡ step (fix none step) r
unfolding fix fix_f
fix-step none step loc r = loc (fix_f none step r) (fix none step) r (λ k hk. same none step loc r (suc k) k hk (omega arith))
