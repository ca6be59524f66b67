-- Multiplying two numbers of two digits each in any base P, column by column with carries, and the bounds of the columns at digits of 32 bits.
-- Four regroupings that `simp` sorts, between which a column is written by its carry and its digit, as in the toolchain's example hackers_delight.
use mathlib.Core.Path.{◌≡◌, refl, ap, ◌∙◌}
use Prim.Native.Nat.{ℕ, ◌+◌, ◌-◌, ◌*◌, ◌^◌, ◌≤◌, ◌<◌}
use native.Mathlib.Nat.{add_assoc, add_comm, add_left_comm, mul_assoc, mul_comm, mul_left_comm, mul-add, add-mul, le_trans, mul-le-mul_left, mul-le-mul_right}
use native.Mathlib.Omega.{arith}

ruleset sorted = (mul-add, add-mul, mul_assoc, mul_comm, mul_left_comm, add_assoc, add_comm, add_left_comm)

step₁ : (P a₀ a₁ b₀ b₁ : ℕ) → (a₁ * P + a₀) * (b₁ * P + b₀) ≡ a₁ * b₁ * (P * P) + a₁ * b₀ * P + a₀ * b₁ * P + a₀ * b₀
step₁ P a₀ a₁ b₀ b₁ = simp sorted refl

step₂ : (P x y z q₀ r₀ : ℕ) → x * (P * P) + y * P + z * P + (q₀ * P + r₀) ≡ x * (P * P) + (y + q₀) * P + z * P + r₀
step₂ P x y z q₀ r₀ = simp sorted refl

step₃ : (P x z r₀ q r : ℕ) → x * (P * P) + (q * P + r) * P + z * P + r₀ ≡ x * (P * P) + q * (P * P) + (r + z) * P + r₀
step₃ P x z r₀ q r = simp sorted refl

step₄ : (P x r₀ q q₁ r₁ : ℕ) → x * (P * P) + q * (P * P) + (q₁ * P + r₁) * P + r₀ ≡ (x + q + q₁) * (P * P) + (r₁ * P + r₀)
step₄ P x r₀ q q₁ r₁ = simp sorted refl

-- the product by its columns, given each column's carry and digit
pub columns : (P a₀ a₁ b₀ b₁ q₀ r₀ q r q₁ r₁ : ℕ) → a₀ * b₀ ≡ q₀ * P + r₀ → a₁ * b₀ + q₀ ≡ q * P + r → r + a₀ * b₁ ≡ q₁ * P + r₁
    → (a₁ * P + a₀) * (b₁ * P + b₀) ≡ (a₁ * b₁ + q + q₁) * (P * P) + (r₁ * P + r₀)
columns P a₀ a₁ b₀ b₁ q₀ r₀ q r q₁ r₁ e₀ e e₁ =
    step₁ P a₀ a₁ b₀ b₁ ∙ ap (λ (x : ℕ). a₁ * b₁ * (P * P) + a₁ * b₀ * P + a₀ * b₁ * P + x) e₀
    ∙ step₂ P (a₁ * b₁) (a₁ * b₀) (a₀ * b₁) q₀ r₀ ∙ ap (λ (x : ℕ). a₁ * b₁ * (P * P) + x * P + a₀ * b₁ * P + r₀) e
    ∙ step₃ P (a₁ * b₁) (a₀ * b₁) r₀ q r ∙ ap (λ (x : ℕ). a₁ * b₁ * (P * P) + q * (P * P) + x * P + r₀) e₁
    ∙ step₄ P (a₁ * b₁) r₀ q q₁ r₁

-- a product of two digits of 32 bits
pub digits_le : (x y : ℕ) → x < 2 ^ 32 → y < 2 ^ 32 → x * y ≤ (2 ^ 32 - 1) * (2 ^ 32 - 1)
digits_le x y h k = le_trans (mul-le-mul_left x (pred y k)) (mul-le-mul_right (2 ^ 32 - 1) (pred x h))
  where
    pred : (z : ℕ) → z < 2 ^ 32 → z ≤ 2 ^ 32 - 1
    pred z h = omega arith
