-- Shifts of a whole by its halves, for halves in a base W = Q * P: by less than a half's width (times P, or over P), and by a half's width or more.
-- A remainder or a quotient is read off the number written as digits, `q * m + r` with r below m.
use mathlib.Core.Path.{◌≡◌, sym, ap, ap₂, ◌∙◌, subst}
use Prim.Native.Nat.{ℕ, ◌+◌, ◌-◌, ◌*◌, ◌/◌, ◌%◌, ◌^◌, ◌≤◌, ◌<◌, zero-le}
use native.Mathlib.Nat.{add-zero, add-mul, mul_assoc, mul_comm, add_assoc, mod-lt, mul-div_cancel, mul-mod_left, div-add-mod', mul-div-mul_right, div-lt_iff_lt-mul, mul-add-mod_self_right, div-div-eq-div-mul, mul-add-div_right, lt_of_le_of_lt, mul-one, mod-eq_of_lt, div-one}
use native.Mathlib.Omega.{arith}
use lib.Arith.{digits_lt, digits_div, digits_mod, mod-mul}
use lib.Pow.{pow_pos, pow-add}

-- (hi * W + lo) * P by the digits of the two halves' products
pub spread : (P W hi lo a₁ a₀ l₁ l₀ : ℕ) → hi * P ≡ a₁ * W + a₀ → lo * P ≡ l₁ * W + l₀ → (hi * W + lo) * P ≡ a₁ * (W * W) + ((a₀ + l₁) * W + l₀)
spread P W hi lo a₁ a₀ l₁ l₀ e f =
    add-mul (hi * W) lo P
    ∙ ap₂ ◌+◌ (swap hi W P ∙ ap (λ (n : ℕ). n * W) e) f
    ∙ gather a₁ a₀ l₁ l₀ W
  where
    swap : (x y z : ℕ) → x * y * z ≡ x * z * y
    swap x y z = mul_assoc x y z ∙ ap (λ (n : ℕ). x * n) (mul_comm y z) ∙ sym (mul_assoc x z y)

    gather : (a₁ a₀ l₁ l₀ W : ℕ) → (a₁ * W + a₀) * W + (l₁ * W + l₀) ≡ a₁ * (W * W) + ((a₀ + l₁) * W + l₀)
    gather a₁ a₀ l₁ l₀ W = simp (add-mul, mul_assoc, add_assoc)

module _ (P Q : ℕ) (hp : 0 < P) (hq : 0 < Q) where
  -- the upper bits of a half, moved up by P, leave room for what comes from the other half
  room : (x : ℕ) → x * P % (Q * P) ≡ x % Q * P
  room x = mod-mul (x * P) hq hp ∙ ap₂ ◌+◌ (ap (λ (n : ℕ). n % Q * P) (mul-div_cancel x hp)) (mul-mod_left x P) ∙ add-zero (x % Q * P)

  pub room-lt : (x y : ℕ) → y < P → x * P % (Q * P) + y < Q * P
  room-lt x y h = subst (λ (n : ℕ). n + y < Q * P) (sym (room x)) (digits_lt (mod-lt x hq) h)

  -- the part of a half that moves into the other
  pub moved_lt : (x : ℕ) → x < Q * P → x / Q < P
  moved_lt x h = (div-lt_iff_lt-mul hq).1 (subst (λ (n : ℕ). x < n) (mul_comm Q P) h)

  moved : (x : ℕ) → x * P ≡ x / Q * (Q * P) + x * P % (Q * P)
  moved x = sym (div-add-mod' (x * P) (Q * P)) ∙ ap (λ (n : ℕ). n * (Q * P) + x * P % (Q * P)) (mul-div-mul_right x Q hp)

  pub up : (hi lo : ℕ) → lo < Q * P
      → (hi * P % (Q * P) + lo / Q) * (Q * P) + lo * P % (Q * P) ≡ (hi * (Q * P) + lo) * P % (Q * P * (Q * P))
  up hi lo h =
      sym
      (ap (λ (n : ℕ). n % (Q * P * (Q * P))) (spread P (Q * P) hi lo (hi * P / (Q * P)) (hi * P % (Q * P)) (lo / Q) (lo * P % (Q * P)) (sym (div-add-mod' (hi * P) (Q * P))) (moved lo))
      ∙ digits_mod (hi * P / (Q * P)) (digits_lt (room-lt hi (lo / Q) (moved_lt lo h)) (mod-lt (lo * P) positive)))
    where
      positive : 0 < Q * P
      positive = lt_of_le_of_lt zero-le (digits_lt hq hp)

  pub down : (hi lo : ℕ) → hi / P * (Q * P) + (hi * Q % (Q * P) + lo / P) ≡ (hi * (Q * P) + lo) / P
  down hi lo =
      sym (add_assoc (hi / P * (Q * P)) (hi * Q % (Q * P)) (lo / P))
      ∙ ap (λ (n : ℕ). n + lo / P) (ap (λ (n : ℕ). n * (Q * P) + hi * Q % (Q * P)) (sym upper) ∙ div-add-mod' (hi * Q) (Q * P))
      ∙ sym (mul-add-div_right hp (hi * Q) lo)
      ∙ ap (λ (n : ℕ). (n + lo) / P) (mul_assoc hi Q P)
    where
      upper : hi * Q / (Q * P) ≡ hi / P
      upper = ap (λ (n : ℕ). hi * Q / n) (mul_comm Q P) ∙ mul-div-mul_right hi P hq

-- by W or more: K is what is left of the shift
pub up_half : (W K hi lo : ℕ) → 0 < W → lo * K % W * W + 0 ≡ (hi * W + lo) * (K * W) % (W * W)
up_half W K hi lo h =
    sym
    (ap (λ (n : ℕ). n % (W * W)) (sym (mul_assoc (hi * W + lo) K W) ∙ ap (λ (n : ℕ). n * W) (add-mul (hi * W) lo K))
    ∙ mod-mul ((hi * W * K + lo * K) * W) h h
    ∙ ap₂ (λ (x y : ℕ). x % W * W + y) (mul-div_cancel (hi * W * K + lo * K) h) (mul-mod_left (hi * W * K + lo * K) W)
    ∙ ap (λ (n : ℕ). n * W + 0) (ap (λ (n : ℕ). (n + lo * K) % W) (mul_assoc hi W K ∙ ap (λ (n : ℕ). hi * n) (mul_comm W K) ∙ sym (mul_assoc hi K W)) ∙ mul-add-mod_self_right (hi * K) W (lo * K)))

pub down_half : (W K hi lo : ℕ) → lo < W → hi / K ≡ (hi * W + lo) / (W * K)
down_half W K hi lo h = sym (sym (div-div-eq-div-mul (hi * W + lo) W K) ∙ ap (λ (n : ℕ). n / K) (digits_div hi h))

-- the same at powers of two, for halves of 64 bits
parts : (n : ℕ) → n < 64 → 2 ^ (64 - n) * 2 ^ n ≡ 2 ^ 64
parts n h =
    let e : 64 - n + n ≡ 64 = omega arith in
    sym (pow-add 2 (64 - n) n) ∙ ap (λ (k : ℕ). 2 ^ k) e

past : (n : ℕ) → 64 ≤ n → 2 ^ (n - 64) * 2 ^ 64 ≡ 2 ^ n
past n h =
    let e : n - 64 + 64 ≡ n = omega arith in
    sym (pow-add 2 (n - 64) 64) ∙ ap (λ (k : ℕ). 2 ^ k) e

pub room64 : (n x y : ℕ) → n < 64 → y < 2 ^ 64 → x * 2 ^ n % 2 ^ 64 + y / 2 ^ (64 - n) < 2 ^ 64
room64 n x y h l =
    subst (λ (W : ℕ). x * 2 ^ n % W + y / 2 ^ (64 - n) < W) (parts n h)
    (room-lt (2 ^ n) (2 ^ (64 - n)) (pow_pos n) (pow_pos (64 - n)) x (y / 2 ^ (64 - n)) (moved_lt (2 ^ n) (2 ^ (64 - n)) (pow_pos n) (pow_pos (64 - n)) y (subst (λ (W : ℕ). y < W) (sym (parts n h)) l)))

pub up64 : (n hi lo : ℕ) → n < 64 → lo < 2 ^ 64 → (hi * 2 ^ n % 2 ^ 64 + lo / 2 ^ (64 - n)) * 2 ^ 64 + lo * 2 ^ n % 2 ^ 64 ≡ (hi * 2 ^ 64 + lo) * 2 ^ n % 2 ^ 128
up64 n hi lo h l =
    subst (λ (W : ℕ). (hi * 2 ^ n % W + lo / 2 ^ (64 - n)) * W + lo * 2 ^ n % W ≡ (hi * W + lo) * 2 ^ n % (W * W)) (parts n h)
    (up (2 ^ n) (2 ^ (64 - n)) (pow_pos n) (pow_pos (64 - n)) hi lo (subst (λ (W : ℕ). lo < W) (sym (parts n h)) l))

pub up128 : (n hi lo : ℕ) → 64 ≤ n → lo * 2 ^ (n - 64) % 2 ^ 64 * 2 ^ 64 + 0 ≡ (hi * 2 ^ 64 + lo) * 2 ^ n % 2 ^ 128
up128 n hi lo h = up_half (2 ^ 64) (2 ^ (n - 64)) hi lo (pow_pos 64) ∙ ap (λ (k : ℕ). (hi * 2 ^ 64 + lo) * k % 2 ^ 128) (past n h)

-- of a right shift by n the upper half's low bits move up by 64 - n, so the two powers change places
pub low64 : (n x y : ℕ) → n < 64 → y < 2 ^ 64 → x * 2 ^ (64 - n) % 2 ^ 64 + y / 2 ^ n < 2 ^ 64
low64 n x y h l =
    subst (λ (W : ℕ). x * 2 ^ (64 - n) % W + y / 2 ^ n < W) (mul_comm (2 ^ n) (2 ^ (64 - n)) ∙ parts n h)
    (room-lt (2 ^ (64 - n)) (2 ^ n) (pow_pos (64 - n)) (pow_pos n) x (y / 2 ^ n) (moved_lt (2 ^ (64 - n)) (2 ^ n) (pow_pos (64 - n)) (pow_pos n) y (subst (λ (W : ℕ). y < W) (sym (mul_comm (2 ^ n) (2 ^ (64 - n)) ∙ parts n h)) l)))

pub down64 : (n hi lo : ℕ) → n < 64 → hi / 2 ^ n * 2 ^ 64 + (hi * 2 ^ (64 - n) % 2 ^ 64 + lo / 2 ^ n) ≡ (hi * 2 ^ 64 + lo) / 2 ^ n
down64 n hi lo h =
    subst (λ (W : ℕ). hi / 2 ^ n * W + (hi * 2 ^ (64 - n) % W + lo / 2 ^ n) ≡ (hi * W + lo) / 2 ^ n) (parts n h) (down (2 ^ n) (2 ^ (64 - n)) (pow_pos n) (pow_pos (64 - n)) hi lo)

pub down128 : (n hi lo : ℕ) → 64 ≤ n → lo < 2 ^ 64 → 0 * 2 ^ 64 + hi / 2 ^ (n - 64) ≡ (hi * 2 ^ 64 + lo) / 2 ^ n
down128 n hi lo h l =
    zero-first (hi / 2 ^ (n - 64)) ∙ down_half (2 ^ 64) (2 ^ (n - 64)) hi lo l ∙ ap (λ (k : ℕ). (hi * 2 ^ 64 + lo) / k) (mul_comm (2 ^ 64) (2 ^ (n - 64)) ∙ past n h)
  where
    zero-first : (x : ℕ) → 0 * 2 ^ 64 + x ≡ x
    zero-first x = omega arith

-- by 0
pub up0 : (x : ℕ) → x < 2 ^ 128 → x ≡ x * 2 ^ 0 % 2 ^ 128
up0 x h = sym (ap (λ (n : ℕ). n % 2 ^ 128) (mul-one x) ∙ mod-eq_of_lt h)

pub down0 : (x : ℕ) → x ≡ x / 2 ^ 0
down0 x = sym (div-one x)
