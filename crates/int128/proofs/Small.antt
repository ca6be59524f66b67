-- Numbers of 64 bits as numbers of 128: unsigned with an upper half of 0, signed with an upper half that copies the sign.
-- `to_z` at both widths, with 2 ^ 64 and 2 ^ 128 as variables.
use mathlib.Core.Path.{◌≡◌, refl, sym, ap, ◌∙◌, subst}
use mathlib.Core.Logic.{⊎_elim}
use mathlib.Core.Option.{none, some}
use Prim.Native.Nat.{ℕ, zero, suc, ◌+◌, ◌-◌, ◌*◌, ◌^◌, ◌≤◌, ◌<◌, zero-le}
use native.Mathlib.Omega.{arith}
use native.Mathlib.Nat.{le_trans, lt_of_lt_of_le}
use lib.Dec.{T, lit≤}
use lib.IntN.{ℤ, pos, negsuc, ◌-ℤ◌}
use mathlib.Core.Bool.{Bool, true, false}
use lib.Signed.{mag, lt_z}
use mir.Syntax.{w64, w128}
use mir.Val.{to_z, of_z, SFits}
use mir.ValLaws.{to_z_pos, to_z-of_z}
use borrow.Author.Tests.{le-ltb, lt-ltb, le-leb, ltb-true}
use Rattle.int128.specs.declared.Int128.{Int128}
use Rattle.int128.specs.Value.{bits_of, value_of}
use Rattle.int128.specs.Ops.{to_i64_of, to_u64_of}
use Rattle.int128.proofs.Difference.{lt-or_ge, sub_more}
use Rattle.int128.proofs.Range.{inside, outside}
use Rattle.int128.proofs.Halves.{below, above, no_upper, positive}
use Rattle.int128.proofs.Whole.{Sized, less, more}

pub word : (x : ℕ) → x < 2 ^ 64 → to_z w128 (0 * 2 ^ 64 + x) ≡ pos x
word x h = ap (to_z w128) (no_upper x) ∙ to_z_pos w128 x (lt_of_lt_of_le h (lit≤ tt))

pub negative : (n : ℕ) → 2 ^ 127 ≤ n → to_z w128 n ≡ negsuc (2 ^ 128 - suc n)
negative n h = simp (le-ltb n (2 ^ 127) h)

negative64 : (n : ℕ) → 2 ^ 63 ≤ n → to_z w64 n ≡ negsuc (2 ^ 64 - suc n)
negative64 n h = simp (le-ltb n (2 ^ 63) h)

pub extended : (x : ℕ) → 2 ^ 63 ≤ x → x < 2 ^ 64 → to_z w128 ((2 ^ 64 - 1) * 2 ^ 64 + x) ≡ to_z w64 x
extended x h k =
    negative ((2 ^ 64 - 1) * 2 ^ 64 + x) (above (2 ^ 64) (2 ^ 63) {hi = 2 ^ 64 - 1} x (lit≤ tt)) ∙ ap negsuc (go ((2 ^ 64 - 1) * 2 ^ 64) (2 ^ 64) (2 ^ 128) refl) ∙ sym (negative64 x h)
  where
    go : (K W M : ℕ) → K + W ≡ M → M - suc (K + x) ≡ W - suc x
    go K W M e = omega arith

-- the value of an upper half of 0 or of ones, for the bound that the lower half has
pub word-no : (x : ℕ) → x < 2 ^ 64 → 2 ^ 63 ≤ x → none ≡ to_i64_of (to_z w128 (0 * 2 ^ 64 + x))
word-no x h k = sym (ap to_i64_of (word x h) ∙ outside (2 ^ 63 - 1) (pos x) k)

pub word_yes : (x : ℕ) → x < 2 ^ 63 → some (to_z w64 x) ≡ to_i64_of (to_z w128 (0 * 2 ^ 64 + x))
word_yes x h = ap some (to_z_pos w64 x h) ∙ sym (ap to_i64_of (word x (lt_of_lt_of_le h (lit≤ tt))) ∙ inside (2 ^ 63 - 1) (pos x) h)

pub ones_no : (x : ℕ) → x < 2 ^ 63 → none ≡ to_i64_of (to_z w128 ((2 ^ 64 - 1) * 2 ^ 64 + x))
ones_no x h =
    sym
    (ap to_i64_of (negative ((2 ^ 64 - 1) * 2 ^ 64 + x) (above (2 ^ 64) (2 ^ 63) {hi = 2 ^ 64 - 1} x (lit≤ tt)) ∙ ap negsuc (go ((2 ^ 64 - 1) * 2 ^ 64) (2 ^ 64) (2 ^ 128) refl))
    ∙ outside (2 ^ 63 - 1) (negsuc (2 ^ 64 - suc x)) (far (2 ^ 63) h))
  where
    go : (K W M : ℕ) → K + W ≡ M → M - suc (K + x) ≡ W - suc x
    go K W M e = omega arith

    far : (H : ℕ) → x < H → H ≤ H + H - suc x
    far H h = omega arith

-- -1 - n at 64 bits, for n below 2 ^ 63
pub flipped : (n : ℕ) → n < 2 ^ 63 → negsuc 0 -ℤ to_z w64 n ≡ negsuc n
flipped n h = ap (λ (z : ℤ). negsuc 0 -ℤ z) (to_z_pos w64 n h) ∙ go n
  where
    go : (n : ℕ) → negsuc 0 -ℤ pos n ≡ negsuc n
    go zero = refl
    go (suc n) = ap negsuc (omega arith)

pub ones_yes : (x : ℕ) → 2 ^ 63 ≤ x → x < 2 ^ 64
    → some (to_z w64 (of_z w64 (negsuc 0 -ℤ to_z w64 ((2 ^ 64 - 1) - x)))) ≡ to_i64_of (to_z w128 ((2 ^ 64 - 1) * 2 ^ 64 + x))
ones_yes x h k =
    ap (λ (z : ℤ). some (to_z w64 (of_z w64 z))) (flipped ((2 ^ 64 - 1) - x) (near x h))
    ∙ ap some (to_z-of_z w64 (negsuc ((2 ^ 64 - 1) - x)) (record { sfits = near x h }))
    ∙ sym
    (ap to_i64_of (extended x h k ∙ negative64 x h ∙ ap negsuc (go x)) ∙ inside (2 ^ 63 - 1) (negsuc ((2 ^ 64 - 1) - x)) (near x h))
  where
    near : (x : ℕ) → 2 ^ 63 ≤ x → (2 ^ 64 - 1) - x < 2 ^ 63
    near x h = omega arith

    go : (x : ℕ) → 2 ^ 64 - suc x ≡ (2 ^ 64 - 1) - x
    go x = omega arith

-- any other upper half: 2 ^ 64 or more, or less than -2 ^ 64
other : (x : Int128) → Sized x → (x.hi ≡ 0 → ⊥) → (x.hi ≡ 2 ^ 64 - 1 → ⊥) → 2 ^ 64 ≤ mag (value_of x)
other x s n m =
    ⊎_elim
    (λ (l : x.hi < 2 ^ 63).
    subst (λ (z : ℤ). 2 ^ 64 ≤ mag z) (sym (to_z_pos w128 (bits_of x) (less x s l))) (above (2 ^ 64) 1 {hi = x.hi} x.lo (positive x.hi n)))
    (λ (l : 2 ^ 63 ≤ x.hi).
    subst (λ (z : ℤ). 2 ^ 64 ≤ mag z) (sym (negative (bits_of x) (more x l)))
    (far (2 ^ 64) (2 ^ 128) ((2 ^ 64 - 1) * 2 ^ 64) (bits_of x) refl (below (2 ^ 64) (2 ^ 64 - 1) (short x.hi s.upper m) s.lower)))
    (lt-or_ge x.hi (2 ^ 63))
  where
    short : (h : ℕ) → h < 2 ^ 64 → (h ≡ 2 ^ 64 - 1 → ⊥) → h < 2 ^ 64 - 1
    short h k m = ⊎_elim (λ (y : h < 2 ^ 64 - 1). y) (λ (y : 2 ^ 64 - 1 ≤ h). absurd (m (omega arith))) (lt-or_ge h (2 ^ 64 - 1))

    far : (W M K n : ℕ) → K + W ≡ M → n < K → W ≤ M - suc n
    far W M K n e h = omega arith

pub other-no : (x : Int128) → Sized x → (x.hi ≡ 0 → ⊥) → (x.hi ≡ 2 ^ 64 - 1 → ⊥) → none ≡ to_i64_of (value_of x)
other-no x s n m = sym (outside (2 ^ 63 - 1) (value_of x) (le_trans (lit≤ tt) (other x s n m)))

-- unsigned
pub unsigned_yes : (x : ℕ) → x < 2 ^ 64 → some (pos x) ≡ to_u64_of (to_z w128 (0 * 2 ^ 64 + x))
unsigned_yes x h = sym (ap to_u64_of (word x h) ∙ simp (le-leb 0 x zero-le, lt-ltb x (2 ^ 64) h))

pub unsigned_no : (x : Int128) → Sized x → (x.hi ≡ 0 → ⊥) → none ≡ to_u64_of (value_of x)
unsigned_no x s n =
    ⊎_elim
    (λ (l : x.hi < 2 ^ 63).
    sym (ap to_u64_of (to_z_pos w128 (bits_of x) (less x s l)) ∙ simp (le-leb 0 (bits_of x) zero-le, le-ltb (bits_of x) (2 ^ 64) (above (2 ^ 64) 1 {hi = x.hi} x.lo (positive x.hi n)))))
    (λ (l : 2 ^ 63 ≤ x.hi). sym (ap to_u64_of (negative (bits_of x) (more x l))))
    (lt-or_ge x.hi (2 ^ 63))

-- a signed number of 64 bits below 0, and one that is not
pub record Negative (z : ℤ) : Type 0 where
  pub less_one : ℕ
  pub is : z ≡ negsuc less_one
  pub small : less_one < 2 ^ 63
  pub flip : negsuc 0 -ℤ to_z w64 (of_z w64 z) ≡ pos less_one

pub negative_is : (z : ℤ) → SFits w64 z → lt_z (to_z w64 (of_z w64 z)) (pos 0) ≡ true → Negative z
negative_is (pos n) f e = absurd (nothing n (ltb-true n 0 (ap (λ (z : ℤ). lt_z z (pos 0)) (sym (to_z-of_z w64 (pos n) f)) ∙ e)))
  where
    nothing : (n : ℕ) → n < 0 → ⊥
    nothing n h = omega arith
negative_is (negsuc k) f e =
    record {
      less_one = k;
      is = refl;
      small = f.sfits;
      flip = ap (λ (z : ℤ). negsuc 0 -ℤ z) (to_z-of_z w64 (negsuc k) f) ∙ sub_more (suc k) 1 (omega arith) ∙ ap pos (one_less k);
    }
  where
    one_less : (k : ℕ) → suc k - 1 ≡ k
    one_less k = omega arith

pub record Positive (z : ℤ) : Type 0 where
  pub number : ℕ
  pub is : z ≡ pos number
  pub small : number < 2 ^ 63

pub positive_is : (z : ℤ) → SFits w64 z → lt_z (to_z w64 (of_z w64 z)) (pos 0) ≡ false → Positive z
positive_is (pos n) f e = record { number = n; is = refl; small = f.sfits }
positive_is (negsuc k) f e = absurd (subst (λ (b : Bool). T b) (sym (ap (λ (z : ℤ). lt_z z (pos 0)) (to_z-of_z w64 (negsuc k) f)) ∙ e) tt)

-- the upper half of ones with the complement of n is -(n + 1)
pub ones_value : (n : ℕ) → n < 2 ^ 63 → to_z w128 ((2 ^ 64 - 1) * 2 ^ 64 + ((2 ^ 64 - 1) - n)) ≡ negsuc n
ones_value n h = extended ((2 ^ 64 - 1) - n) (far n h) (near n) ∙ negative64 ((2 ^ 64 - 1) - n) (far n h) ∙ ap negsuc (go n h)
  where
    far : (n : ℕ) → n < 2 ^ 63 → 2 ^ 63 ≤ (2 ^ 64 - 1) - n
    far n h = omega arith

    near : (n : ℕ) → (2 ^ 64 - 1) - n < 2 ^ 64
    near n = omega arith

    go : (n : ℕ) → n < 2 ^ 63 → 2 ^ 64 - suc ((2 ^ 64 - 1) - n) ≡ n
    go n h = omega arith
