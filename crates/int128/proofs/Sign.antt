-- Sign and magnitude: a number's magnitude by its halves, the number from a magnitude and a sign, and products by sign and magnitude.
-- The complement's law gives the magnitude below 0; the rest is by cases on the sign.
use mathlib.Core.Path.{◌≡◌, refl, sym, ap, ap₂, ◌∙◌, subst}
use mathlib.Core.Logic.{⊎_elim}
use mathlib.Core.Bool.{Bool, true, false, not, cond, beq}
use mathlib.Core.Option.{none, some, map}
use Prim.Native.Nat.{ℕ, zero, suc, ◌+◌, ◌-◌, ◌*◌, ◌/◌, ◌%◌, ◌^◌, ◌≤◌, ◌<◌}
use native.Mathlib.Nat.{le_trans, lt_of_lt_of_le, lt_of_le_of_lt, add_assoc}
use native.Mathlib.Omega.{arith}
use lib.Dec.{leb, eqb, lit≤, lit<}
use lib.IntN.{ℤ, pos, negsuc, nat_abs, ◌*ℤ◌}
use lib.Signed.{non_neg, mag, mag_rem, quot_z, rem_z}
use mir.Syntax.{w128}
use mir.Val.{to_z}
use mir.ValLaws.{to_z_pos, to_z-Fits}
use borrow.Author.Tests.{le-leb, lt-leb}
use Rattle.int128.specs.declared.Int128.{Int128}
use Rattle.int128.specs.Value.{bits_of, value_of}
use Rattle.int128.specs.Ops.{exact, signed_of, div_of, rem_of}
use Rattle.int128.proofs.Difference.{lt-or_ge}
use Rattle.int128.proofs.Range.{exact_yes, exact-no}
use Rattle.int128.proofs.Halves.{above, complement}
use Rattle.int128.proofs.Whole.{Sized, fits, less, more}
use Rattle.int128.proofs.Small.{negative}

pub value_pos : (x : Int128) → Sized x → x.hi < 2 ^ 63 → value_of x ≡ pos (bits_of x)
value_pos x s h = to_z_pos w128 (bits_of x) (less x s h)

pub abs_low : (x : Int128) → Sized x → x.hi < 2 ^ 63 → bits_of x ≡ nat_abs (value_of x)
abs_low x s h = sym (ap nat_abs (value_pos x s h))

-- below 0 the magnitude is one more than the complement
abs_high : (x : Int128) (n : ℕ) → Sized x → 2 ^ 63 ≤ x.hi → n ≡ (2 ^ 128 - 1) - bits_of x + 1 → n ≡ nat_abs (value_of x)
abs_high x n s h e = e ∙ one_more (2 ^ 128) (bits_of x) (fits x s) ∙ sym (ap nat_abs (negative (bits_of x) (more x h)))
  where
    one_more : (M k : ℕ) → k < M → (M - 1) - k + 1 ≡ suc (M - suc k)
    one_more M k l = omega arith

pub abs_carry : (x : Int128) → Sized x → 2 ^ 63 ≤ x.hi → x.lo ≡ 0 → ((2 ^ 64 - 1) - x.hi + 1) * 2 ^ 64 + 0 ≡ nat_abs (value_of x)
abs_carry x s h e =
    abs_high x (((2 ^ 64 - 1) - x.hi + 1) * 2 ^ 64 + 0) s h
    (carry ((2 ^ 64 - 1) - x.hi) x.lo e ∙ ap (λ (n : ℕ). n + 1) (complement (2 ^ 64) x.hi x.lo s.upper s.lower))
  where
    carry : (k l : ℕ) → l ≡ 0 → (k + 1) * 2 ^ 64 + 0 ≡ k * 2 ^ 64 + ((2 ^ 64 - 1) - l) + 1
    carry k l e = omega arith

pub abs_plain : (x : Int128) → Sized x → 2 ^ 63 ≤ x.hi → ((2 ^ 64 - 1) - x.hi) * 2 ^ 64 + ((2 ^ 64 - 1) - x.lo + 1) ≡ nat_abs (value_of x)
abs_plain x s h =
    abs_high x (((2 ^ 64 - 1) - x.hi) * 2 ^ 64 + ((2 ^ 64 - 1) - x.lo + 1)) s h
    (sym (add_assoc (((2 ^ 64 - 1) - x.hi) * 2 ^ 64) ((2 ^ 64 - 1) - x.lo) 1) ∙ ap (λ (n : ℕ). n + 1) (complement (2 ^ 64) x.hi x.lo s.upper s.lower))

pub is_negative : (x : Int128) → Sized x → leb (2 ^ 63) x.hi ≡ not (non_neg (value_of x))
is_negative x s =
    ⊎_elim (λ (h : x.hi < 2 ^ 63). lt-leb (2 ^ 63) x.hi h ∙ sym (ap (λ (z : ℤ). not (non_neg z)) (value_pos x s h)))
    (λ (h : 2 ^ 63 ≤ x.hi). le-leb (2 ^ 63) x.hi h ∙ sym (ap (λ (z : ℤ). not (non_neg z)) (negative (bits_of x) (more x h))))
    (lt-or_ge x.hi (2 ^ 63))

-- a magnitude with a sign
pub signed_pos : (n : ℕ) → n < 2 ^ 127 → some (to_z w128 n) ≡ exact (signed_of false n)
signed_pos n h = ap some (to_z_pos w128 n h) ∙ sym (exact_yes (pos n) h)

pub signed_pos_over : (n : ℕ) → 2 ^ 127 ≤ n → none ≡ exact (signed_of false n)
signed_pos_over n h = sym (exact-no (pos n) h)

pub signed_neg_over : (n : ℕ) → 2 ^ 127 < n → none ≡ exact (signed_of true n)
signed_neg_over zero h = absurd (nothing (2 ^ 127) h)
  where
    nothing : (H : ℕ) → H < 0 → ⊥
    nothing H h = omega arith
signed_neg_over (suc n) h = sym (exact-no (negsuc n) (pred (2 ^ 127) h))
  where
    pred : (H : ℕ) → H < suc n → H ≤ n
    pred H h = omega arith

-- with either sign nothing of 2 ^ 128 or more fits
pub signed_over : (b : Bool) (n : ℕ) → 2 ^ 128 ≤ n → none ≡ exact (signed_of b n)
signed_over false n h = signed_pos_over n (le_trans (lit≤ tt) h)
signed_over true n h = signed_neg_over n (lt_of_lt_of_le (lit< tt) h)

-- -2 ^ 127 is its own bits
pub signed_least : (h l : ℕ) → h ≡ 2 ^ 63 → l ≡ 0 → some (to_z w128 (h * 2 ^ 64 + l)) ≡ exact (signed_of true (h * 2 ^ 64 + l))
signed_least h l e f =
    subst (λ (n : ℕ). some (to_z w128 n) ≡ exact (signed_of true n)) (sym (ap₂ (λ (x y : ℕ). x * 2 ^ 64 + y) e f)) refl

pub beyond_lower : (h l : ℕ) → h ≡ 2 ^ 63 → (l ≡ 0 → ⊥) → 2 ^ 127 < h * 2 ^ 64 + l
beyond_lower h l e n = subst (λ (x : ℕ). 2 ^ 127 < x * 2 ^ 64 + l) (sym e) (go l n (2 ^ 127))
  where
    go : (l : ℕ) → (l ≡ 0 → ⊥) → (H : ℕ) → H < H + l
    go zero n H = absurd (n refl)
    go (suc l) n H = omega arith

pub beyond_upper : (h l : ℕ) → 2 ^ 63 ≤ h → (h ≡ 2 ^ 63 → ⊥) → 2 ^ 127 < h * 2 ^ 64 + l
beyond_upper h l k n = lt_of_lt_of_le (lit< tt) (above (2 ^ 64) (2 ^ 63 + 1) {hi = h} l (go h k n))
  where
    go : (h : ℕ) → 2 ^ 63 ≤ h → (h ≡ 2 ^ 63 → ⊥) → 2 ^ 63 + 1 ≤ h
    go h k n = ⊎_elim (λ (y : 2 ^ 63 < h). omega arith) (λ (y : h ≤ 2 ^ 63). absurd (n (omega arith))) (lt-or_ge (2 ^ 63) h)

-- whether two signs differ
abbrev pub unlike : ℤ → ℤ → Bool
unlike a b = not (beq (not (non_neg a)) (not (non_neg b)))

pub mul_signed : (a b : ℤ) → a *ℤ b ≡ signed_of (unlike a b) (nat_abs a * nat_abs b)
mul_signed (pos a) (pos b) = refl
mul_signed (pos a) (negsuc b) = refl
mul_signed (negsuc a) (pos b) = refl
mul_signed (negsuc a) (negsuc b) = refl

pub quot_signed : (a b : ℤ) → quot_z a b ≡ signed_of (unlike a b) (nat_abs a / nat_abs b)
quot_signed (pos a) (pos b) = refl
quot_signed (pos a) (negsuc b) = refl
quot_signed (negsuc a) (pos b) = refl
quot_signed (negsuc a) (negsuc b) = refl

pub rem_signed : (a b : ℤ) → rem_z a b ≡ signed_of (not (non_neg a)) (nat_abs a % nat_abs b)
rem_signed (pos a) b = refl
rem_signed (negsuc a) b = refl

-- a magnitude that was computed from two, with the signs as they were tested
pub unlike_is : (a b : ℤ) (s t : Bool) (n k : ℕ) → s ≡ not (non_neg a) → t ≡ not (non_neg b) → n ≡ k → signed_of (not (beq s t)) n ≡ signed_of (unlike a b) k
unlike_is a b s t n k e f g = ap₂ (λ (x y : Bool). signed_of (not (beq x y)) n) e f ∙ ap (signed_of (unlike a b)) g

-- the answers of a division: nothing by 0, else the magnitudes' quotient with a sign, and a remainder where there is a quotient
pub div-none : (a b : ℤ) → eqb (nat_abs b) 0 ≡ true → none ≡ div_of a b
div-none a b e = sym (ap (λ (t : Bool). cond t none (exact (quot_z a b))) e)

pub div_is : (a b : ℤ) (s t : Bool) (n : ℕ) → s ≡ not (non_neg a) → t ≡ not (non_neg b) → n ≡ nat_abs a / nat_abs b → eqb (nat_abs b) 0 ≡ false
    → exact (signed_of (not (beq s t)) n) ≡ div_of a b
div_is a b s t n e f g z =
    ap exact (unlike_is a b s t n (nat_abs a / nat_abs b) e f g ∙ sym (quot_signed a b)) ∙ sym (ap (λ (x : Bool). cond x none (exact (quot_z a b))) z)

pub rem_is : (a b q : ℤ) (s : Bool) (n : ℕ) → div_of a b ≡ some q → mag a < 2 ^ 127 → s ≡ not (non_neg a) → n ≡ nat_abs a % nat_abs b → exact (signed_of s n) ≡ rem_of a b
rem_is a b q s n d h e f =
    ap exact (ap₂ signed_of e f ∙ sym (rem_signed a b)) ∙ exact_yes (rem_z a b) (lt_of_le_of_lt (mag_rem a b) h) ∙ sym (ap (map (λ (z : ℤ). rem_z a b)) d)

pub rem_none : (a b : ℤ) → none ≡ div_of a b → none ≡ rem_of a b
rem_none a b e = ap (map (λ (z : ℤ). rem_z a b)) e

pub value_mag : (x : Int128) → Sized x → mag (value_of x) < 2 ^ 127
value_mag x s = (to_z-Fits w128 (bits_of x) (record { fits = fits x s })).sfits
