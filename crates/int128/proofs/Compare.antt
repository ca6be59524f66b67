-- What `<`, `<=` and `==` of two `Int128` say of their values, from what the traits ensure; and the order of two numbers by their halves and signs.
-- The order of two integers by its two tests; the library decides their equality; the bits' order by `Halves`, the values' by their differences (`Whole`).
use mathlib.Core.Path.{◌≡◌, refl, sym, ap, ap₂, ◌∙◌}
use mathlib.Core.Logic.{⊎_elim}
use mathlib.Core.Bool.{Bool, true, false, cond, not}
use Prim.Native.Nat.{ℕ, ◌+◌, ◌*◌, ◌^◌, ◌≤◌, ◌<◌}
use native.Mathlib.Omega.{arith}
use lib.Dec.{ltb, leb}
use lib.IntN.{ℤ, pos, negsuc, sub_ℕ}
use lib.Signed.{lt_z, le_z}
use borrow.Author.Tests.{lt-ltb, le-ltb, le-leb, lt-leb}
use Rattle.std.specs.Bool.{Decides}
use Rattle.std.specs.Cmp.{signed_Decides}
use Rattle.std.proofs.Common.{Ordering, Less, Equal, Greater}
use Rattle.std.specs.Ordering.{int_cmp, int_eq, is_lt, is_le, on, as_partial_cmp, partial_lt, partial_le}
use Rattle.int128.specs.declared.Int128.{Int128}
use Rattle.int128.specs.Value.{bits_of, value_of}
use Rattle.int128.proofs.Difference.{lt-or_ge, ltb_same, sub-lt}
use Rattle.int128.proofs.Halves.{below_upper}
use Rattle.int128.proofs.Whole.{Sized, fits, value_low, value-high}

-- an order by its two tests
abbrev tested : Bool → Bool → Ordering
tested p q = cond p Less (cond q Greater Equal)

tested_lt : (p q : Bool) → is_lt (tested p q) ≡ p
tested_lt true q = refl
tested_lt false true = refl
tested_lt false false = refl

tested_le : (a b : ℕ) → is_le (tested (ltb a b) (ltb b a)) ≡ leb a b
tested_le a b =
    ⊎_elim (λ (h : a < b). rw (lt-ltb a b h, le-leb a b (omega arith)) refl)
    (λ (h : b ≤ a).
    ⊎_elim (λ (k : b < a). rw (le-ltb a b h, lt-ltb b a k, lt-leb a b k) refl)
    (λ (k : a ≤ b). rw (le-ltb a b h, le-ltb b a k, le-leb a b k) refl)
    (lt-or_ge b a))
    (lt-or_ge a b)

int_le-is : (a b : ℤ) → is_le (int_cmp a b) ≡ le_z a b
int_le-is (pos a) (pos b) = tested_le a b
int_le-is (pos a) (negsuc b) = refl
int_le-is (negsuc a) (pos b) = refl
int_le-is (negsuc a) (negsuc b) = tested_le b a

module _ (x y : Int128) where
  pub lt_is : partial_lt (as_partial_cmp (on value_of int_cmp)) x y ≡ lt_z (value_of x) (value_of y)
  lt_is = tested_lt (lt_z (value_of x) (value_of y)) (lt_z (value_of y) (value_of x))

  pub le-is : partial_le (as_partial_cmp (on value_of int_cmp)) x y ≡ le_z (value_of x) (value_of y)
  le-is = int_le-is (value_of x) (value_of y)

  pub eq-is : Decides (on value_of int_eq x y) (value_of x ≡ value_of y)
  eq-is = signed_Decides (value_of x) (value_of y)

-- by the halves
pub same_upper : (W ah al bh bl : ℕ) → ah ≡ bh → ltb al bl ≡ ltb (ah * W + al) (bh * W + bl)
same_upper W ah al bh bl e =
    let f : ah * W ≡ bh * W = ap (λ (x : ℕ). x * W) e in
    ltb_same al bl (ah * W + al) (bh * W + bl) (λ h. omega arith) (λ h. omega arith)

pub other_upper : (W ah al bh bl : ℕ) → al < W → bl < W → (ah ≡ bh → ⊥) → ltb ah bh ≡ ltb (ah * W + al) (bh * W + bl)
other_upper W ah al bh bl k l n =
    ltb_same ah bh (ah * W + al) (bh * W + bl) (below_upper W ah al bh bl k)
    (λ (h : ah * W + al < bh * W + bl).
    ⊎_elim (λ (x : ah < bh). x)
    (λ (x : bh ≤ ah). absurd (⊎_elim (λ (y : bh < ah). clash h (below_upper W bh bl ah al l y)) (λ (y : ah ≤ bh). n (both x y)) (lt-or_ge bh ah)))
    (lt-or_ge ah bh))
  where
    clash : {p q : ℕ} → p < q → q < p → ⊥
    clash h g = omega arith

    both : {p q : ℕ} → p ≤ q → q ≤ p → q ≡ p
    both h g = omega arith

-- by the two signs
module _ (x y : Int128) (s : Sized x) (t : Sized y) where
  crosswise : (p q : ℕ) → value_of x ≡ sub_ℕ (bits_of x) p → value_of y ≡ sub_ℕ (bits_of y) q → ltb (bits_of x + q) (bits_of y + p) ≡ lt_z (value_of x) (value_of y)
  crosswise p q e f = sym (ap₂ lt_z e f ∙ sub-lt (bits_of x) p (bits_of y) q)

  shifted : (m : ℕ) → ltb (bits_of x) (bits_of y) ≡ ltb (bits_of x + m) (bits_of y + m)
  shifted m = go (bits_of x) (bits_of y)
    where
      go : (a b : ℕ) → ltb a b ≡ ltb (a + m) (b + m)
      go a b = ltb_same a b (a + m) (b + m) (λ h. omega arith) (λ h. omega arith)

  pub low-low : x.hi < 2 ^ 63 → y.hi < 2 ^ 63 → ltb (bits_of x) (bits_of y) ≡ lt_z (value_of x) (value_of y)
  low-low h k = shifted 0 ∙ crosswise 0 0 (value_low x s h) (value_low y t k)

  pub high-high : 2 ^ 63 ≤ x.hi → 2 ^ 63 ≤ y.hi → ltb (bits_of x) (bits_of y) ≡ lt_z (value_of x) (value_of y)
  high-high h k = shifted (2 ^ 128) ∙ crosswise (2 ^ 128) (2 ^ 128) (value-high x s h) (value-high y t k)

  pub low-high : x.hi < 2 ^ 63 → 2 ^ 63 ≤ y.hi → false ≡ lt_z (value_of x) (value_of y)
  low-high h k = sym (le-ltb _ _ (go (bits_of x) (bits_of y) (2 ^ 128) (fits y t))) ∙ crosswise 0 (2 ^ 128) (value_low x s h) (value-high y t k)
    where
      go : (a b M : ℕ) → b < M → b + 0 ≤ a + M
      go a b M f = omega arith

  pub high-low : 2 ^ 63 ≤ x.hi → y.hi < 2 ^ 63 → true ≡ lt_z (value_of x) (value_of y)
  high-low h k = sym (lt-ltb _ _ (go (bits_of x) (bits_of y) (2 ^ 128) (fits x s))) ∙ crosswise (2 ^ 128) 0 (value-high x s h) (value_low y t k)
    where
      go : (a b M : ℕ) → a < M → a + 0 < b + M
      go a b M f = omega arith

pub leb_not : (a b : ℕ) → not (ltb b a) ≡ leb a b
leb_not a b = ⊎_elim (λ (h : b < a). ap not (lt-ltb b a h) ∙ sym (lt-leb a b h)) (λ (h : a ≤ b). ap not (le-ltb b a h) ∙ sym (le-leb a b h)) (lt-or_ge b a)

pub not-less : (a b : ℤ) → not (lt_z b a) ≡ le_z a b
not-less (pos a) (pos b) = leb_not a b
not-less (pos a) (negsuc b) = refl
not-less (negsuc a) (pos b) = refl
not-less (negsuc a) (negsuc b) = leb_not b a
