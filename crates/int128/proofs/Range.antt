-- Two's complement of 128 bits as a difference, and which differences lie in the range -2 ^ 127 .. 2 ^ 127 - 1.
-- By the laws of `Difference`; the library's laws of `to_z` and `of_z` give the rest.
use mathlib.Core.Path.{◌≡◌, sym, ap, ◌∙◌}
use mathlib.Core.Option.{none, some}
use Prim.Native.Nat.{ℕ, suc, ◌+◌, ◌-◌, ◌^◌, ◌≤◌, ◌<◌}
use native.Mathlib.Omega.{arith}
use lib.IntN.{ℤ, pos, negsuc, sub_ℕ}
use lib.Signed.{mag}
use mir.Syntax.{w128}
use mir.Val.{to_z}
use mir.ValLaws.{to_z-Fits}
use borrow.Author.Tests.{lt-ltb, le-ltb, le-leb, lt-leb}
use Rattle.int128.specs.Ops.{exact, exact_in}
use Rattle.int128.proofs.Difference.{sub-less, sub_more, sub-zero, sub-eq}

pub low : (n : ℕ) → n < 2 ^ 127 → to_z w128 n ≡ sub_ℕ n 0
low n h = simp (lt-ltb n (2 ^ 127) h) (sym (sub-zero n))

pub high : (n : ℕ) → 2 ^ 127 ≤ n → n < 2 ^ 128 → to_z w128 n ≡ sub_ℕ n (2 ^ 128)
high n h k = simp (le-ltb n (2 ^ 127) h) (sym (sub-less n (2 ^ 128) k))

-- inside and outside a range of any width: `mag z` is n both for n and for -(n + 1)
pub inside : (h : ℕ) (z : ℤ) → mag z < suc h → exact_in (suc h) z ≡ some z
inside h (pos n) l = simp (lt-ltb n (suc h) l)
inside h (negsuc n) l = simp (le-leb n h (omega arith))

pub outside : (h : ℕ) (z : ℤ) → suc h ≤ mag z → exact_in (suc h) z ≡ none
outside h (pos n) l = simp (le-ltb n (suc h) l)
outside h (negsuc n) l = simp (lt-leb n h (omega arith))

pub exact_yes : (z : ℤ) → mag z < 2 ^ 127 → exact z ≡ some z
exact_yes z l = inside (2 ^ 127 - 1) z l

pub exact-no : (z : ℤ) → 2 ^ 127 ≤ mag z → exact z ≡ none
exact-no z l = outside (2 ^ 127 - 1) z l

-- what 128 bits hold lies in the range
pub exact-bits : (n : ℕ) → n < 2 ^ 128 → exact (to_z w128 n) ≡ some (to_z w128 n)
exact-bits n h = exact_yes (to_z w128 n) (to_z-Fits w128 n (record { fits = h })).sfits

pub exact_above : (p q : ℕ) → q + 2 ^ 127 ≤ p → exact (sub_ℕ p q) ≡ none
exact_above p q h = ap exact (sub_more p q (below (2 ^ 127) h)) ∙ exact-no (pos (p - q)) (far (2 ^ 127) h)
  where
    below : (H : ℕ) → q + H ≤ p → q ≤ p
    below H h = omega arith

    far : (H : ℕ) → q + H ≤ p → H ≤ p - q
    far H h = omega arith

pub exact_below : (p q : ℕ) → p + 2 ^ 127 < q → exact (sub_ℕ p q) ≡ none
exact_below p q h = ap exact (sub-less p q (below (2 ^ 127) h)) ∙ exact-no (negsuc (q - suc p)) (far (2 ^ 127) h)
  where
    below : (H : ℕ) → p + H < q → p < q
    below H h = omega arith

    far : (H : ℕ) → p + H < q → H ≤ q - suc p
    far H h = omega arith

-- the bits r stand for the difference p - q
pub exact-is : (p q r s : ℕ) → r < 2 ^ 128 → to_z w128 r ≡ sub_ℕ r s → p + s ≡ r + q → some (to_z w128 r) ≡ exact (sub_ℕ p q)
exact-is p q r s h e k = sym (exact-bits r h) ∙ ap exact (e ∙ sub-eq r s p q (sym k))
