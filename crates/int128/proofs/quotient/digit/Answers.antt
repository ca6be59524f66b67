-- `int128::quotient::digit` meets its contract: the estimate from the leading parts is settled, and what is left is below the divisor, so one word.
-- `Digits.estimate` in base 2 ^ 32, and what `settle` and `rest` ensure of h * 2 ^ 32 + l.
use Prim.Native.Nat.{ℕ, ◌+◌, ◌*◌, ◌/◌, ◌%◌, ◌^◌, ◌≤◌, ◌<◌}
use native.Mathlib.Nat.{lt_of_lt_of_le, div-add-mod', add-mul, add_assoc, mul_assoc}
use native.Mathlib.Omega.{arith}
use lib.Dec.{lit<}
use lib.Pow.{pow_pos}
use mathlib.Core.Path.{◌≡◌, ◌∙◌, sym, ap, subst₂}
use Rattle.int128.proofs.Halves.{no_upper}
use Rattle.int128.proofs.Digits.{estimate}
use Rattle.int128.proofs.quotient.digit.Goals as goal

-- the dividend and the divisor in halves
whole : (h l : ℕ) → h / 2 ^ 32 * 2 ^ 64 + (h % 2 ^ 32 * 2 ^ 32 + l) ≡ h * 2 ^ 32 + l
whole h l =
    sym (add_assoc (h / 2 ^ 32 * 2 ^ 64) (h % 2 ^ 32 * 2 ^ 32) l)
    ∙ ap (λ (x : ℕ). x + l) (ap (λ (x : ℕ). x + h % 2 ^ 32 * 2 ^ 32) (sym (mul_assoc (h / 2 ^ 32) (2 ^ 32) (2 ^ 32))) ∙ sym (add-mul (h / 2 ^ 32 * 2 ^ 32) (h % 2 ^ 32) (2 ^ 32)))
    ∙ ap (λ (x : ℕ). x * 2 ^ 32 + l) (div-add-mod' h (2 ^ 32))

top : (d : ℕ) → 2 ^ 63 ≤ d → 2 ^ 32 ≤ 2 * (d / 2 ^ 32)
top d h = omega arith

top_pos : (d : ℕ) → 2 ^ 63 ≤ d → 0 < d / 2 ^ 32
top_pos d h = omega arith

positive : (d : ℕ) → 2 ^ 63 ≤ d → 0 < d
positive d h = lt_of_lt_of_le (lit< tt) h

pub settle-q-requires : goal.settle-q-requires
settle-q-requires c = let h = c.args.h in
    let l = c.args.l in
    let d = c.args.d in
    let e = estimate h l d (2 ^ 32) (pow_pos 32) (positive d c.requires.0) (top_pos d c.requires.0) (top d c.requires.0) c.requires.1 c.requires.2 in
    subst₂ (λ (x y : ℕ). (0 < y) × (x / y ≤ h / (d / 2 ^ 32)) × (h / (d / 2 ^ 32) ≤ x / y + 2)) (sym (whole h l)) (sym (no_upper d)) (positive d c.requires.0, e.0, e.1)
