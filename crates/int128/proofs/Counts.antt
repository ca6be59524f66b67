-- A shift's answer by its count: below 128 or not, and a count that is itself a number of 128 bits.
-- The tests of the definitions, and for a right shift the two signs.
use mathlib.Core.Path.{◌≡◌, refl, sym, ap, ◌∙◌, subst}
use mathlib.Core.Logic.{⊎_elim}
use mathlib.Core.Option.{Option, none, some}
use Prim.Native.Nat.{ℕ, suc, ◌+◌, ◌-◌, ◌*◌, ◌/◌, ◌%◌, ◌^◌, ◌≤◌, ◌<◌}
use native.Mathlib.Nat.{le_trans, lt_of_le_of_lt, div-le_self}
use native.Mathlib.Omega.{arith}
use lib.Dec.{lit≤, lit<}
use lib.IntN.{ℤ, negsuc}
use mir.Syntax.{w128}
use mir.Val.{to_z}
use mir.ValLaws.{to_z_pos, to_z-neg}
use borrow.Author.Tests.{le-ltb, lt-ltb}
use Rattle.int128.specs.declared.Int128.{Int128}
use Rattle.int128.specs.Value.{bits_of, value_of}
use Rattle.int128.specs.Ops.{shl_of, shr_of, by_count}
use Rattle.int128.proofs.Difference.{lt-or_ge}
use Rattle.int128.proofs.Halves.{above, positive}
use Rattle.int128.proofs.Whole.{Sized, less, more, bits_back}
use Rattle.int128.proofs.Small.{word, negative}

pub shl_yes : (x : Int128) (n b : ℕ) → Sized x → n < 128 → b ≡ bits_of x * 2 ^ n % 2 ^ 128 → some (to_z w128 b) ≡ shl_of (value_of x) n
shl_yes x n b s h e = ap (λ (m : ℕ). some (to_z w128 m)) (e ∙ ap (λ (m : ℕ). m * 2 ^ n % 2 ^ 128) (sym (bits_back x s))) ∙ sym (simp (lt-ltb n 128 h))

pub shl-no : (z : ℤ) (n : ℕ) → 128 ≤ n → none ≡ shl_of z n
shl-no z n h = sym (simp (le-ltb n 128 h))

pub shr_no : (z : ℤ) (n : ℕ) → 128 ≤ n → none ≡ shr_of z n
shr_no z n h = sym (simp (le-ltb n 128 h))

pub shr_low : (m n b : ℕ) → m < 2 ^ 127 → n < 128 → b ≡ m / 2 ^ n → some (to_z w128 b) ≡ shr_of (to_z w128 m) n
shr_low m n b l h e =
    ap (λ (k : ℕ). some (to_z w128 k)) e
    ∙ ap some (to_z_pos w128 (m / 2 ^ n) (lt_of_le_of_lt (div-le_self m (2 ^ n)) l))
    ∙ sym (ap (λ (z : ℤ). shr_of z n) (to_z_pos w128 m l) ∙ simp (lt-ltb n 128 h))

-- m's complement is shifted to b, and b's complement is the answer
pub shr_high : (m n b : ℕ) → 2 ^ 127 ≤ m → m < 2 ^ 128 → n < 128 → b ≡ ((2 ^ 128 - 1) - m) / 2 ^ n → some (to_z w128 ((2 ^ 128 - 1) - b)) ≡ shr_of (to_z w128 m) n
shr_high m n b l f h e =
    ap (λ (k : ℕ). some (to_z w128 k)) (complements (2 ^ 128) b)
    ∙ ap some (to_z-neg w128 b (subst (λ (k : ℕ). k < 2 ^ 127) (sym e) (lt_of_le_of_lt (div-le_self ((2 ^ 128 - 1) - m) (2 ^ n)) (flop (2 ^ 127) (2 ^ 128) refl (lit< tt) l))))
    ∙ ap (λ (k : ℕ). some (negsuc k)) (e ∙ ap (λ (k : ℕ). k / 2 ^ n) (complements (2 ^ 128) m))
    ∙ sym (ap (λ (z : ℤ). shr_of z n) (negative m l) ∙ simp (lt-ltb n 128 h))
  where
    complements : (M k : ℕ) → (M - 1) - k ≡ M - suc k
    complements M k = omega arith

    flop : (H M : ℕ) → M ≡ H + H → 0 < H → H ≤ m → (M - 1) - m < H
    flop H M e p l = omega arith

-- a count in halves
module _ (f : ℕ → Option ℤ) (x : Int128) where
  pub count_yes : x.hi ≡ 0 → x.lo < 2 ^ 64 → f x.lo ≡ by_count f (value_of x)
  count_yes e l = sym (ap (by_count f) (ap (λ (h : ℕ). to_z w128 (h * 2 ^ 64 + x.lo)) e ∙ word x.lo l))

  pub count_no : ((n : ℕ) → 128 ≤ n → none ≡ f n) → Sized x → (x.hi ≡ 0 → ⊥) → none ≡ by_count f (value_of x)
  count_no g s n =
      ⊎_elim
      (λ (l : x.hi < 2 ^ 63).
      g (bits_of x) (le_trans (lit≤ tt) (above (2 ^ 64) 1 {hi = x.hi} x.lo (positive x.hi n))) ∙ sym (ap (by_count f) (to_z_pos w128 (bits_of x) (less x s l))))
      (λ (l : 2 ^ 63 ≤ x.hi). sym (ap (by_count f) (negative (bits_of x) (more x l))))
      (lt-or_ge x.hi (2 ^ 63))
