-- Laws of numbers that stop at a bound: sums may be taken in parts, and the larger of two stops as the two do.
-- By whether each number is below the bound. Assumes nothing.
use mathlib.Core.Path.{◌≡◌, refl, sym, ap, ◌∙◌}
use Prim.Native.Nat.{ℕ, zero, suc, ◌+◌, ◌≤◌, ◌<◌, max}
use native.Mathlib.Omega.{arith}
use lib.Dec.{eqb, leb, ltb}
use borrow.Author.Tests.{le-ltb, ltb-true, ltb-false, le-leb, lt-leb, leb-true, leb-false, ne_eqb}
use Rattle.std.proofs.Math.Nat.{max-eq_left, max-eq_right}
use Rattle.laws.specs.Fix.{pick}
use Rattle.laws.proofs.FixLaws.{pick_yes, pick_no}
use Rattle.laws.proofs.Tests.{tested}
use Rattle.records.specs.Depth.{larger}
use Rattle.judge.specs.Inner.{capped}

cap_same : (m p q : ℕ) → m ≤ p → m ≤ q → capped m p ≡ capped m q
unfolding capped pick
cap_same m p q a b = rw (le-ltb p m a, le-ltb q m b) refl

module _ (m x : ℕ) where
  pub cap_low : x ≤ m → capped m x ≡ x
  unfolding capped pick
  cap_low h = tested (ltb x m) (λ t. rw t refl) (λ t. rw t (omega (arith, ltb-false x m t)))

  pub cap_high : m ≤ x → capped m x ≡ m
  unfolding capped pick
  cap_high h = rw (le-ltb x m h) refl

  pub cap_small : capped m x ≤ m
  cap_small =
      tested (ltb x m)
      (λ t. omega (arith, ltb-true x m t, cap_low (omega (arith, ltb-true x m t))))
      (λ t. omega (arith, cap_high (ltb-false x m t)))

  pub cap_cap : (y : ℕ) → capped m (capped m x + y) ≡ capped m (x + y)
  cap_cap y =
      tested (ltb x m)
      (λ t. ap (λ (z : ℕ). capped m (z + y)) (cap_low (omega (arith, ltb-true x m t))))
      (λ t.
      let h : m ≤ x = ltb-false x m t in
      cap_same m (capped m x + y) (x + y) (omega (arith, cap_high h)) (omega arith))

pub cap_rises : (m x y : ℕ) → x ≤ y → capped m x ≤ capped m y
cap_rises m x y h =
    tested (ltb y m)
    (λ t.
    let k : y < m = ltb-true y m t in
    omega (arith, cap_low m x (omega arith), cap_low m y (omega arith)))
    (λ t. omega (arith, cap_small m x, cap_high m y (ltb-false y m t)))

pub larger-second : (x y : ℕ) → x ≤ y → y ≡ larger x y
unfolding larger
larger-second x y h = sym (pick_yes (leb x y) y x (le-leb x y h))

pub larger-first : (x y : ℕ) → y < x → x ≡ larger x y
unfolding larger
larger-first x y h = sym (pick_no (leb x y) y x (lt-leb x y h))

pub larger-is : (x y : ℕ) → max x y ≡ larger x y
larger-is x y =
    tested (leb x y)
    (λ t. max-eq_right (leb-true x y t) ∙ larger-second x y (leb-true x y t))
    (λ t. max-eq_left (omega (arith, leb-false x y t)) ∙ larger-first x y (leb-false x y t))

pub larger-none : (x : ℕ) → larger x 0 ≡ x
larger-none x =
    tested (leb x 0)
    (λ t. sym (larger-second x 0 (leb-true x 0 t)) ∙ omega (arith, leb-true x 0 t))
    (λ t. sym (larger-first x 0 (leb-false x 0 t)))

pub cap_larger : (m x y : ℕ) → larger (capped m x) (capped m y) ≡ capped m (larger x y)
cap_larger m x y =
    tested (leb x y)
    (λ t.
    let h : x ≤ y = leb-true x y t in
    sym (larger-second (capped m x) (capped m y) (cap_rises m x y h)) ∙ ap (capped m) (larger-second x y h))
    (λ t.
    let h : y < x = leb-false x y t in
    let up : capped m y ≤ capped m x = cap_rises m y x (omega arith) in
    tested (leb (capped m x) (capped m y))
    (λ s.
    let k : capped m x ≤ capped m y = leb-true (capped m x) (capped m y) s in
    sym (larger-second (capped m x) (capped m y) k) ∙ (let e : capped m y ≡ capped m x = omega arith in e) ∙ ap (capped m) (larger-first x y h))
    (λ s. sym (larger-first (capped m x) (capped m y) (leb-false (capped m x) (capped m y) s)) ∙ ap (capped m) (larger-first x y h)))

-- a count that stops at 2 is 1 when the whole count is
pub cap_one : (x : ℕ) → eqb (capped 2 x) 1 ≡ eqb x 1
unfolding capped pick
cap_one zero = refl
cap_one (suc zero) = refl
cap_one (suc (suc x)) = rw (le-ltb (suc (suc x)) 2 (omega arith), ne_eqb (suc (suc x)) 1 (λ e. omega arith)) refl
