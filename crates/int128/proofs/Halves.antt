-- Halves to whole, for halves in any base W: `hi * W + lo`. Its order goes by the upper half, and a sum of wholes is the sums of the halves
-- with a carry. `omega` takes a product of two variables as one unknown, so the products are first brought to one form.
use mathlib.Core.Path.{◌≡◌, refl, sym, ap, ap₂, ◌∙◌}
use mathlib.Core.Logic.{⊎_elim}
use Prim.Native.Nat.{ℕ, zero, suc, ◌+◌, ◌-◌, ◌*◌, ◌/◌, ◌%◌, ◌^◌, ◌≤◌, ◌<◌}
use native.Mathlib.Nat.{add-mul, mul_assoc, mul-le-mul_right, le_trans, le-add_right, lt_of_lt_of_le, sub-add_cancel, zero-mul, zero-add}
use native.Mathlib.Omega.{arith}
use lib.Arith.{digits_lt, digits_div, digits_mod}
use Rattle.int128.proofs.Difference.{lt-or_ge}

pub below : (W h : ℕ) {hi lo : ℕ} → hi < h → lo < W → hi * W + lo < h * W
below W h k l = digits_lt k l

pub above : (W h : ℕ) {hi : ℕ} (lo : ℕ) → h ≤ hi → h * W ≤ hi * W + lo
above W h {hi} lo k = le_trans (mul-le-mul_right W k) (le-add_right (hi * W) lo)

-- the low halves give lc * W + ls, the high ones with that carry hc * W + hs
pub carried : (W ah al bh bl c lc ls hc hs : ℕ) → lc * W + ls ≡ al + bl + c → hc * W + hs ≡ ah + bh + lc
    → hc * (W * W) + (hs * W + ls) ≡ (ah * W + al) + (bh * W + bl) + c
carried W ah al bh bl c lc ls hc hs e f =
    let g : hc * (W * W) + hs * W ≡ ah * W + bh * W + lc * W = ap₂ ◌+◌ (sym (mul_assoc hc W W)) refl ∙ sym (add-mul (hc * W) hs W) ∙ ap (λ (x : ℕ). x * W) f ∙ add-mul (ah + bh) lc W ∙ ap (λ (x : ℕ). x + lc * W) (add-mul ah bh W) in
    omega arith

-- the order of two wholes: by the upper halves, or by the lower where the upper are equal
pub below_upper : (W ah al bh bl : ℕ) → al < W → ah < bh → ah * W + al < bh * W + bl
below_upper W ah al bh bl l h = lt_of_lt_of_le (digits_lt h l) (le-add_right (bh * W) bl)

-- the halves of a whole are its own
pub upper_is : (W ah al bh bl : ℕ) → al < W → bl < W → ah * W + al ≡ bh * W + bl → ah ≡ bh
upper_is W ah al bh bl k l e = sym (digits_div ah k) ∙ ap (λ (n : ℕ). n / W) e ∙ digits_div bh l

pub lower-is : (W ah al bh bl : ℕ) → al < W → bl < W → ah * W + al ≡ bh * W + bl → al ≡ bl
lower-is W ah al bh bl k l e = sym (digits_mod ah k) ∙ ap (λ (n : ℕ). n % W) e ∙ digits_mod bh l

-- the complement of each half is the complement of the whole
pub complement : (W hi lo : ℕ) → hi < W → lo < W → ((W - 1) - hi) * W + ((W - 1) - lo) ≡ (W * W - 1) - (hi * W + lo)
complement W hi lo h l =
    let k : ℕ = (W - 1) - hi in
    let e : k * W + hi * W + 1 * W ≡ W * W = sym (add-mul (k + hi) 1 W ∙ ap (λ (x : ℕ). x + 1 * W) (add-mul k hi W)) ∙ ap (λ (x : ℕ). x * W) (omega arith) in
    go (k * W) (hi * W) (W * W) (e ∙ refl)
  where
    go : (K J M : ℕ) → K + J + 1 * W ≡ M → K + ((W - 1) - lo) ≡ (M - 1) - (J + lo)
    go K J M e = omega arith

-- differences, without and with a borrow
pub sub_plain : (W ah al bh bl : ℕ) → bh ≤ ah → bl ≤ al → (ah - bh) * W + (al - bl) ≡ (ah * W + al) - (bh * W + bl)
sub_plain W ah al bh bl h l =
    let e : (ah - bh) * W + bh * W ≡ ah * W = sym (add-mul (ah - bh) bh W) ∙ ap (λ (x : ℕ). x * W) (sub-add_cancel h) in
    go ((ah - bh) * W) (bh * W) (ah * W) e
  where
    go : (K J I : ℕ) → K + J ≡ I → K + (al - bl) ≡ (I + al) - (J + bl)
    go K J I e = omega arith

pub borrow_lt : (W ah al bh bl : ℕ) → al < bl → bh * W + bl ≤ ah * W + al → bh < ah
borrow_lt W ah al bh bl l h =
    ⊎_elim (λ (k : bh < ah). k) (λ (k : ah ≤ bh). absurd (go (ah * W) (bh * W) (mul-le-mul_right W k) h)) (lt-or_ge bh ah)
  where
    go : (I J : ℕ) → I ≤ J → J + bl ≤ I + al → ⊥
    go I J k h = omega arith

pub sub_borrow : (W ah al bh bl : ℕ) → al < bl → bl < W → bh < ah → (ah - bh - 1) * W + ((W - 1) - bl + 1 + al) ≡ (ah * W + al) - (bh * W + bl)
sub_borrow W ah al bh bl l k h =
    let e : (ah - bh - 1) * W + bh * W + 1 * W ≡ ah * W = sym (add-mul (ah - bh - 1 + bh) 1 W ∙ ap (λ (x : ℕ). x + 1 * W) (add-mul (ah - bh - 1) bh W)) ∙ ap (λ (x : ℕ). x * W) (one_back ah bh h) in
    go ((ah - bh - 1) * W) (bh * W) (ah * W) e
  where
    one_back : (x y : ℕ) → y < x → x - y - 1 + y + 1 ≡ x
    one_back x y h = omega arith

    go : (K J I : ℕ) → K + J + 1 * W ≡ I → K + ((W - 1) - bl + 1 + al) ≡ (I + al) - (J + bl)
    go K J I e = omega arith

pub upper_le : (W ah al bh bl : ℕ) → al < W → bh * W + bl ≤ ah * W + al → bh ≤ ah
upper_le W ah al bh bl l h =
    ⊎_elim (λ (k : ah < bh). absurd (go (ah * W + al) (bh * W + bl) (below_upper W ah al bh bl l k) h)) (λ (k : bh ≤ ah). k) (lt-or_ge ah bh)
  where
    go : (x y : ℕ) → x < y → y ≤ x → ⊥
    go x y k h = omega arith

-- a whole of W or more has an upper half above 0, and one below W is its lower half
pub upper_pos : (W h l : ℕ) → l < W → W ≤ h * W + l → 0 < h
upper_pos W zero l k h = absurd (go (0 * W) (zero-mul W) k h)
  where
    go : (x : ℕ) → x ≡ 0 → l < W → W ≤ x + l → ⊥
    go x e k h = omega arith
upper_pos W (suc n) l k h = omega arith

pub only-lower : (W h l n : ℕ) → l < W → n < W → h * W + l ≡ n → l ≡ n
only-lower W h l n k m e = lower-is W h l 0 n k m (e ∙ sym (ap (λ (x : ℕ). x + n) (zero-mul W) ∙ zero-add n))

-- a whole with an upper half of 0 is its lower half
pub no_upper : (x : ℕ) → 0 * 2 ^ 64 + x ≡ x
no_upper x = omega arith

pub positive : (n : ℕ) → (n ≡ 0 → ⊥) → 1 ≤ n
positive zero f = absurd (f refl)
positive (suc n) f = omega arith
