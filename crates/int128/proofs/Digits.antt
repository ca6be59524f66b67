-- Long division by digits: the estimate of a digit from leading parts, its correction, the step from one digit to the next, and the remainder.
-- All over any numbers; a quotient is compared by multiplying out.
use mathlib.Core.Path.{◌≡◌, sym, ap, ap₂, ◌∙◌, subst}
use Prim.Native.Nat.{ℕ, ◌+◌, ◌-◌, ◌*◌, ◌/◌, ◌%◌, ◌≤◌, ◌<◌}
use native.Mathlib.Nat.{le_trans, le_of_eq, lt_of_lt_of_le, le_antisymm, mul-le-mul_left, mul-le-mul_right, mul_comm, mul_assoc, mul-add, add-mul, add_assoc, mod-lt, div-add-mod', div-mul-le_self, lt-div-mul-add, le-div_iff_mul-le, div-lt_iff_lt-mul, suc-mul}
use native.Mathlib.Omega.{arith}
use lib.Arith.{digits_lt, digits_div, digits_mod}

-- The estimate (n / k) / (d / k) is not below n / d,
pub over : (n d k : ℕ) → 0 < k → 0 < d / k → n / d ≤ n / k / (d / k)
over n d k hk hd =
    (le-div_iff_mul-le hd).1
    ((le-div_iff_mul-le hk).1
    (le_trans (le_of_eq (mul_assoc (n / d) (d / k) k)) (le_trans (mul-le-mul_left (n / d) (div-mul-le_self d k)) (div-mul-le_self n d))))

two_times : (x y : ℕ) → 2 * x * y ≡ x * y + x * y
two_times x y = mul_assoc 2 x y ∙ twice (x * y)
  where
    twice : (z : ℕ) → 2 * z ≡ z + z
    twice z = omega arith

part-le : (d k : ℕ) → 0 < k → d ≤ d / k * k + k
part-le d k hk = le_trans (le_of_eq (sym (div-add-mod' d k))) (go (d / k * k) (d % k) (mod-lt d hk))
  where
    go : (x y : ℕ) → y < k → x + y ≤ x + k
    go x y h = omega arith

-- n is below q + 3 times a, for a the part of d that k leaves
bound : (n d k b : ℕ) → 0 < k → 0 < d → b ≤ 2 * (d / k) → n / d < b → n < (n / d + 3) * (d / k * k)
bound n d k b hk hd hb hq =
    subst (λ (x : ℕ). n < x) (sym (add-mul (n / d) 3 (d / k * k)))
    (sum (n / d * d) (n / d * (d / k * k)) (n / d * k) (d / k * k) (lt-div-mul-add hd)
    (le_trans (mul-le-mul_left (n / d) (part-le d k hk)) (le_of_eq (mul-add (n / d) (d / k * k) k)))
    (le_trans (le_of_eq (sym (suc-mul (n / d) k))) (le_trans (mul-le-mul_right k (le_trans hq hb)) (le_of_eq (two_times (d / k) k))))
    (part-le d k hk))
  where
    sum : (x y z a : ℕ) → n < x + d → x ≤ y + z → z + k ≤ a + a → d ≤ a + k → n < y + 3 * a
    sum x y z a h i j l = omega arith

-- and at most 2 above it, where the quotient is below a base b and d / k is half of that or more (Knuth's theorem B)
pub near : (n d k b : ℕ) → 0 < k → 0 < d → 0 < d / k → b ≤ 2 * (d / k) → n / d < b → n / k / (d / k) ≤ n / d + 2
near n d k b hk hd ht hb hq =
    last (n / k / (d / k)) (n / d)
    ((div-lt_iff_lt-mul ht).1 ((div-lt_iff_lt-mul hk).1 (subst (λ (x : ℕ). n < x) (sym (mul_assoc (n / d + 3) (d / k) k)) (bound n d k b hk hd hb hq))))
  where
    last : (x q : ℕ) → x < q + 3 → x ≤ q + 2
    last x q h = omega arith

-- a quotient from its two bounds
pub exactly : (n d q : ℕ) → 0 < d → d * q ≤ n → n / d ≤ q → q ≡ n / d
exactly n d q hd h k = le_antisymm ((le-div_iff_mul-le hd).1 (le_trans (le_of_eq (mul_comm q d)) h)) k

pub too_large : (n d q : ℕ) → 0 < d → n < d * q → n / d < q
too_large n d q hd h = (div-lt_iff_lt-mul hd).1 (lt_of_lt_of_le h (le_of_eq (mul_comm d q)))

-- the quotient times the divisor, and what is left
pub product_le : (n d q : ℕ) → q ≡ n / d → d * q ≤ n
product_le n d q e = le_trans (le_of_eq (mul_comm d q ∙ ap (λ (x : ℕ). x * d) e)) (div-mul-le_self n d)

pub left_over : (n d q : ℕ) → q ≡ n / d → n - d * q ≡ n % d
left_over n d q e = go (n / d * d) (d * q) (mul_comm d q ∙ ap (λ (x : ℕ). x * d) e) (div-add-mod' n d)
  where
    go : (x y : ℕ) → y ≡ x → x + n % d ≡ n → n - y ≡ n % d
    go x y f g = omega arith

-- one digit after another in base c: the remainder goes on to the next digit
module _ (a m c n : ℕ) (hn : 0 < n) where
  split : a * c + m ≡ (a / n * c + (a % n * c + m) / n) * n + (a % n * c + m) % n
  split =
      ap (λ (x : ℕ). x * c + m) (sym (div-add-mod' a n))
      ∙ ap (λ (x : ℕ). x + m) (add-mul (a / n * n) (a % n) c)
      ∙ add_assoc (a / n * n * c) (a % n * c) m
      ∙ ap₂ ◌+◌ (mul_assoc (a / n) n c ∙ ap (λ (x : ℕ). a / n * x) (mul_comm n c) ∙ sym (mul_assoc (a / n) c n)) (sym (div-add-mod' (a % n * c + m) n))
      ∙ sym (add_assoc (a / n * c * n) ((a % n * c + m) / n * n) ((a % n * c + m) % n))
      ∙ ap (λ (x : ℕ). x + (a % n * c + m) % n) (sym (add-mul (a / n * c) ((a % n * c + m) / n) n))

  pub carry_div : (a * c + m) / n ≡ a / n * c + (a % n * c + m) / n
  carry_div = ap (λ (x : ℕ). x / n) split ∙ digits_div (a / n * c + (a % n * c + m) / n) (mod-lt (a % n * c + m) hn)

  pub carry_mod : (a * c + m) % n ≡ (a % n * c + m) % n
  carry_mod = ap (λ (x : ℕ). x % n) split ∙ digits_mod (a / n * c + (a % n * c + m) / n) (mod-lt (a % n * c + m) hn)

-- a dividend below c times the divisor has a quotient below c
pub digit_lt : (h l d c : ℕ) → 0 < d → h < d → l < c → (h * c + l) / d < c
digit_lt h l d c hd hh hl = (div-lt_iff_lt-mul hd).1 (subst (λ (x : ℕ). h * c + l < x) (mul_comm d c) (digits_lt hh hl))

-- the estimate of a digit of h * p + l from the leading part h and the divisor's
pub estimate : (h l d p : ℕ) → 0 < p → 0 < d → 0 < d / p → p ≤ 2 * (d / p) → h < d → l < p → ((h * p + l) / d ≤ h / (d / p)) × (h / (d / p) ≤ (h * p + l) / d + 2)
estimate h l d p hp hd ht hb hh hl =
    let e : (h * p + l) / p ≡ h = digits_div h hl in (
      subst (λ (x : ℕ). (h * p + l) / d ≤ x / (d / p)) e (over (h * p + l) d p hp ht),
      subst (λ (x : ℕ). x / (d / p) ≤ (h * p + l) / d + 2) e (near (h * p + l) d p p hp hd ht hb (digit_lt h l d p hd hh hl)),
    )

-- two digits of a quotient, in base p
module _ (h lo d p q₁ r₁ q₀ r₀ : ℕ) (hd : 0 < d) (e₁ : q₁ ≡ (h * p + lo / p) / d) (f₁ : r₁ ≡ (h * p + lo / p) % d) (e₀ : q₀ ≡ (r₁ * p + lo % p) / d) (f₀ : r₀ ≡ (r₁ * p + lo % p) % d) where
  dividend : (h * p + lo / p) * p + lo % p ≡ h * (p * p) + lo
  dividend =
      ap (λ (x : ℕ). x + lo % p) (add-mul (h * p) (lo / p) p)
      ∙ add_assoc (h * p * p) (lo / p * p) (lo % p)
      ∙ ap₂ ◌+◌ (mul_assoc h p p) (div-add-mod' lo p)

  pub two_quotient : q₁ * p + q₀ ≡ (h * (p * p) + lo) / d
  two_quotient =
      ap₂ (λ (x y : ℕ). x * p + y) e₁ (e₀ ∙ ap (λ (x : ℕ). (x * p + lo % p) / d) f₁)
      ∙ sym (carry_div (h * p + lo / p) (lo % p) p d hd)
      ∙ ap (λ (x : ℕ). x / d) dividend

  pub two_remainder : r₀ ≡ (h * (p * p) + lo) % d
  two_remainder =
      f₀ ∙ ap (λ (x : ℕ). (x * p + lo % p) % d) f₁
      ∙ sym (carry_mod (h * p + lo / p) (lo % p) p d hd)
      ∙ ap (λ (x : ℕ). x % d) dividend
