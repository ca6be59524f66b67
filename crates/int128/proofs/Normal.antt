-- A divisor shifted so that its top bit is bit 63: what the shift is, and that it leaves quotient and remainder as they were.
-- The library's law of leading zeros, and powers of two split at the shift.
use mathlib.Core.Path.{◌≡◌, sym, ap, ap₂, ◌∙◌, subst}
use Prim.Native.Nat.{ℕ, suc, ◌+◌, ◌-◌, ◌*◌, ◌/◌, ◌%◌, ◌^◌, ◌≤◌, ◌<◌}
use native.Mathlib.Nat.{le_trans, le_of_eq, lt_of_lt_of_le, lt_of_le_of_lt, suc_inj, add-suc, add_comm, mul-le-mul_left, mul-le-mul_right, mul-lt-mul_of_pos_right, lt_of_mul-lt-mul_right, mul_comm, mul_assoc, le-add_right, mul-div-mul_right, mul-div_cancel, mul-mod_left, add-zero, div-lt_iff_lt-mul, le-div_iff_mul-le}
use native.Mathlib.Omega.{arith}
use lib.Arith.{digits_lt, mod-mul}
use lib.Pow.{pow_pos, pow-add, pow_mono, shl_lt}
use lib.Count.{count_leading_zeros, leading_top}

pub record Shift (v s : ℕ) : Type 0 where
  pub short : s < 64
  pub top : 2 ^ 63 ≤ v * 2 ^ s
  pub fits : v * 2 ^ s < 2 ^ 64

-- the count of leading zeros
pub leading : (v : ℕ) → 0 < v → v < 2 ^ 64 → (count_leading_zeros 64 v < 64) × (2 ^ 63 ≤ v * 2 ^ count_leading_zeros 64 v) × (v * 2 ^ count_leading_zeros 64 v < 2 ^ 64)
leading v p h =
    let t = leading_top 64 v p h in
    (below (count_leading_zeros 64 v) t.0 t.1, from (count_leading_zeros 64 v) t.0 t.1 t.2, upto (count_leading_zeros 64 v) t.0 t.1 t.3)
  where
    below : (s k : ℕ) → s + suc k ≡ 64 → s < 64
    below s k e = omega arith

    from : (s k : ℕ) → s + suc k ≡ 64 → 2 ^ k ≤ v → 2 ^ 63 ≤ v * 2 ^ s
    from s k e l =
        subst (λ (x : ℕ). 2 ^ x ≤ v * 2 ^ s) (add_comm k s ∙ suc_inj (sym (add-suc s k) ∙ e)) (le_trans (le_of_eq (pow-add 2 k s)) (mul-le-mul_right (2 ^ s) l))

    upto : (s k : ℕ) → s + suc k ≡ 64 → v < 2 ^ suc k → v * 2 ^ s < 2 ^ 64
    upto s k e l = subst (λ (x : ℕ). v * 2 ^ s < 2 ^ x) (add_comm (suc k) s ∙ e) (shl_lt {a = v} (suc k) s l)

-- both times c leave the quotient, and c times the remainder
pub scaled_div : (n v c : ℕ) → 0 < c → n * c / (v * c) ≡ n / v
scaled_div n v c h = mul-div-mul_right n v h

pub scaled_mod : (n v c : ℕ) → 0 < c → 0 < v → n * c % (v * c) / c ≡ n % v
scaled_mod n v c h k =
    ap (λ (x : ℕ). x / c) (mod-mul (n * c) k h ∙ ap₂ ◌+◌ (ap (λ (x : ℕ). x % v * c) (mul-div_cancel n h)) (mul-mod_left n c) ∙ add-zero (n % v * c)) ∙ mul-div_cancel (n % v) h

-- a dividend whose upper word is below v, shifted: it still fits, and its upper word is below the shifted divisor
module _ (W u1 u0 v c : ℕ) (hw : 0 < W) (hc : 0 < c) (hu : u1 < v) (hl : u0 < W) where
  pub shifted_lt : (u1 * W + u0) * c < v * c * W
  shifted_lt = lt_of_lt_of_le (mul-lt-mul_of_pos_right (digits_lt hu hl) hc) (le_of_eq (mul_assoc v W c ∙ ap (λ (x : ℕ). v * x) (mul_comm W c) ∙ sym (mul_assoc v c W)))

  pub shifted_fits : v * c < W → (u1 * W + u0) * c < W * W
  shifted_fits h = lt_of_lt_of_le shifted_lt (mul-le-mul_right W (le_trans (suc-le (v * c)) h))
    where
      suc-le : (x : ℕ) → x ≤ suc x
      suc-le x = omega arith

  pub upper_lt : (h l : ℕ) → h * W + l ≡ (u1 * W + u0) * c → h < v * c
  upper_lt h l e = lt_of_mul-lt-mul_right W (lt_of_le_of_lt (le_trans (le-add_right (h * W) l) (le_of_eq e)) shifted_lt)

-- a divisor of two words by the shift of its upper word: with k for 64 - s, d / 2 ^ k is a word with its top bit set
module _ (dh dl s : ℕ) (hl : dl < 2 ^ 64) (sh : Shift dh s) where
  halves : 2 ^ (64 - s) * 2 ^ s ≡ 2 ^ 64
  halves =
      let e : 64 - s + s ≡ 64 = go sh.short in
      sym (pow-add 2 (64 - s) s) ∙ ap (λ (k : ℕ). 2 ^ k) e
    where
      go : s < 64 → 64 - s + s ≡ 64
      go h = omega arith

  upper_short : dh < 2 ^ (64 - s)
  upper_short = lt_of_mul-lt-mul_right (2 ^ s) (subst (λ (x : ℕ). dh * 2 ^ s < x) (sym halves) sh.fits)

  pub top_lt : (dh * 2 ^ 64 + dl) / 2 ^ (64 - s) < 2 ^ 64
  top_lt = (div-lt_iff_lt-mul (pow_pos (64 - s))).1 (subst (λ (x : ℕ). dh * 2 ^ 64 + dl < x) (mul_comm (2 ^ (64 - s)) (2 ^ 64)) (digits_lt upper_short hl))

  pub top_ge : 2 ^ 63 ≤ (dh * 2 ^ 64 + dl) / 2 ^ (64 - s)
  top_ge =
      (le-div_iff_mul-le (pow_pos (64 - s))).1
      (le_trans (mul-le-mul_right (2 ^ (64 - s)) sh.top)
      (le_trans (le_of_eq (mul_assoc dh (2 ^ s) (2 ^ (64 - s)) ∙ ap (λ (x : ℕ). dh * x) (mul_comm (2 ^ s) (2 ^ (64 - s)) ∙ halves))) (le-add_right (dh * 2 ^ 64) dl)))

-- the upper word of a dividend over 2 ^ k, for a k above 0, is below 2 ^ 63
pub leading_lt : (n k h l : ℕ) → n < 2 ^ 128 → 0 < k → h * 2 ^ 64 + l ≡ n / 2 ^ k → h < 2 ^ 63
leading_lt n k h l f hk e =
    lt_of_mul-lt-mul_right (2 ^ 64) {m = h} {n = 2 ^ 63}
    (lt_of_le_of_lt (le_trans (le-add_right (h * 2 ^ 64) l) (le_of_eq e))
    ((div-lt_iff_lt-mul (pow_pos k)).1 (lt_of_lt_of_le f (mul-le-mul_left (2 ^ 127) (pow_mono hk)))))
