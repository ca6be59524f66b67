-- The complement of the 128 bits is -z - 1: with one added it is the negation.
-- The bits and their complement are read as differences, by the sign.
use mathlib.Core.Path.{◌≡◌, refl, sym, ap, ◌∙◌}
use mathlib.Core.Logic.{⊎_elim}
use Prim.Native.Nat.{ℕ, ◌+◌, ◌-◌, ◌^◌, ◌≤◌, ◌<◌}
use native.Mathlib.Omega.{arith}
use lib.IntN.{ℤ, pos, neg_ℤ, sub_ℕ, ◌+ℤ◌, ◌-ℤ◌, +ℤ_assoc}
use mir.Syntax.{w128}
use mir.Val.{to_z, of_z}
use mir.ValLaws.{of_z-to_z}
use lib.Dec.{lit<}
use Rattle.int128.specs.declared.Int128.{Int128}
use Rattle.int128.specs.Value.{bits_of, value_of}
use Rattle.int128.specs.Ops.{not_of}
use Rattle.int128.proofs.Difference.{lt-or_ge, sub-zero, sub-add, sub-eq, sub_neg}
use Rattle.int128.proofs.Range.{low, high}
use Rattle.int128.proofs.Whole.{Sized, fits, bits_back}

pub not-bits : (n : ℕ) → n < 2 ^ 128 → not_of (to_z w128 n) ≡ to_z w128 ((2 ^ 128 - 1) - n)
not-bits n h = ap (λ (m : ℕ). to_z w128 ((2 ^ 128 - 1) - m)) (of_z-to_z w128 n (record { fits = h }))

-- s is the shift of n's sign, t that of its complement's
step : (n s t M : ℕ) → n < M → s + t ≡ M → neg_ℤ (sub_ℕ n s) ≡ sub_ℕ ((M - 1) - n) t +ℤ pos 1
step n s t M h e =
    sub_neg n s ∙ sub-eq s n ((M - 1) - n + 1) (t + 0) (omega arith) ∙ sym (ap (λ (z : ℤ). sub_ℕ ((M - 1) - n) t +ℤ z) (sym (sub-zero 1)) ∙ sub-add ((M - 1) - n) t 1 0)

pub not-one : (n : ℕ) → n < 2 ^ 128 → not_of (to_z w128 n) +ℤ pos 1 ≡ neg_ℤ (to_z w128 n)
not-one n h =
    ap (λ (z : ℤ). z +ℤ pos 1) (not-bits n h)
    ∙ ⊎_elim
    (λ (l : n < 2 ^ 127).
    ap (λ (z : ℤ). z +ℤ pos 1) (high ((2 ^ 128 - 1) - n) (flip (2 ^ 127) (2 ^ 128) refl l) (still (2 ^ 128) (lit< tt)))
    ∙ sym (ap neg_ℤ (low n l) ∙ step n 0 (2 ^ 128) (2 ^ 128) h refl))
    (λ (l : 2 ^ 127 ≤ n).
    ap (λ (z : ℤ). z +ℤ pos 1) (low ((2 ^ 128 - 1) - n) (flop (2 ^ 127) (2 ^ 128) refl (lit< tt) l))
    ∙ sym (ap neg_ℤ (high n l h) ∙ step n (2 ^ 128) 0 (2 ^ 128) h refl))
    (lt-or_ge n (2 ^ 127))
  where
    flip : (H M : ℕ) → M ≡ H + H → n < H → H ≤ (M - 1) - n
    flip H M m l = omega arith

    flop : (H M : ℕ) → M ≡ H + H → 0 < H → H ≤ n → (M - 1) - n < H
    flop H M m p l = omega arith

    still : (M : ℕ) → 0 < M → (M - 1) - n < M
    still M p = omega arith

-- a - b as a + !b + 1
pub minus : (z : ℤ) (n : ℕ) → n < 2 ^ 128 → z +ℤ not_of (to_z w128 n) +ℤ pos 1 ≡ z -ℤ to_z w128 n
minus z n h = +ℤ_assoc z (not_of (to_z w128 n)) (pos 1) ∙ ap (λ (y : ℤ). z +ℤ y) (not-one n h)

-- the bits of a complement
pub bits-not : (x y : Int128) → Sized x → Sized y → value_of y ≡ not_of (value_of x) → bits_of y ≡ (2 ^ 128 - 1) - bits_of x
bits-not x y s t e =
    sym (bits_back y t) ∙ ap (of_z w128) (e ∙ not-bits (bits_of x) (fits x s)) ∙ of_z-to_z w128 ((2 ^ 128 - 1) - bits_of x) (record { fits = still (2 ^ 128) (bits_of x) (lit< tt) })
  where
    still : (M n : ℕ) → 0 < M → (M - 1) - n < M
    still M n p = omega arith
