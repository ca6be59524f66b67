-- `int128::quotient::div_two` meets its contract: dividend and divisor are shifted alike, which leaves the quotient, and two digits of 32 bits are taken.
-- The laws of `Normal` for the shift and of `Digits` for the digits; with an upper no-upper of 0 it is one division of words.
use Prim.Native.Nat.{ℕ, ◌+◌, ◌*◌, ◌/◌, ◌%◌, ◌^◌, ◌≤◌, ◌<◌, zero-le}
use native.Mathlib.Nat.{mod-lt, mod-eq_of_lt, lt_of_le_of_lt, lt_of_lt_of_le}
use native.Mathlib.Omega.{arith}
use lib.Dec.{lit<}
use lib.Arith.{digits_lt}
use lib.Pow.{pow_pos}
use mathlib.Core.Path.{◌≡◌, ◌∙◌, sym, ap, ap₂, subst}
use Rattle.int128.specs.Value.{bits_of}
use Rattle.int128.proofs.Digits.{digit_lt, two_quotient, two_remainder}
use Rattle.int128.proofs.Normal.{scaled_div, scaled_mod, shifted_fits, upper_lt}
use borrow.Author.Rules.{rules}
use Rattle.int128.proofs.quotient.div_two.Goals as goal

divisor_pos : {u v : ℕ} → u < v → 0 < v
divisor_pos h = lt_of_le_of_lt zero-le h

high_digit : (x : ℕ) → x < 2 ^ 64 → x / 2 ^ 32 < 2 ^ 32
high_digit x h = omega arith

-- what is known once both are shifted
pub record Shifted (u1 u0 v s h l d : ℕ) : Type 0 where
  pub is_divisor : d ≡ v * 2 ^ s
  pub is_dividend : h * 2 ^ 64 + l ≡ (u1 * 2 ^ 64 + u0) * 2 ^ s
  pub top : 2 ^ 63 ≤ d
  pub upper : h < d
  pub positive : 0 < d
  pub first : l / 2 ^ 32 < 2 ^ 32

pub overflow_add-result : goal.overflow_add-result
overflow_add-result c =
    let shifted : Shifted c.args.u1 c.args.u0 c.args.v c.norm_shift-s.result c.shl_bits-n.result.hi c.shl_bits-n.result.lo (c.args.v * 2 ^ c.norm_shift-s.result % 2 ^ 64) = let s = c.norm_shift-s.result in
    let e : c.args.v * 2 ^ s % 2 ^ 64 ≡ c.args.v * 2 ^ s = mod-eq_of_lt c.norm_shift-s.ensures.2 in
    let f : bits_of c.shl_bits-n.result ≡ (c.args.u1 * 2 ^ 64 + c.args.u0) * 2 ^ s = c.shl_bits-n.ensures ∙ mod-eq_of_lt (shifted_fits (2 ^ 64) c.args.u1 c.args.u0 c.args.v (2 ^ s) (pow_pos 64) (pow_pos s) c.requires (search rules) c.norm_shift-s.ensures.2) in
    record {
      is_divisor = e;
      is_dividend = f;
      top = subst (λ (x : ℕ). 2 ^ 63 ≤ x) (sym e) c.norm_shift-s.ensures.1;
      upper = subst (λ (x : ℕ). c.shl_bits-n.result.hi < x) (sym e) (upper_lt (2 ^ 64) c.args.u1 c.args.u0 c.args.v (2 ^ s) (pow_pos 64) (pow_pos s) c.requires (search rules) c.shl_bits-n.result.hi c.shl_bits-n.result.lo f);
      positive = lt_of_lt_of_le (lit< tt) (subst (λ (x : ℕ). 2 ^ 63 ≤ x) (sym e) c.norm_shift-s.ensures.1);
      first = high_digit c.shl_bits-n.result.lo (search rules);
    } in
    let first_short : c.digit-first.result.quotient < 2 ^ 32 = let k = shifted in
    subst (λ (x : ℕ). x < 2 ^ 32) (sym c.digit-first.ensures.0) (digit_lt c.shl_bits-n.result.hi (c.shl_bits-n.result.lo / 2 ^ 32) _ (2 ^ 32) k.positive k.upper k.first) in
    let carried : c.digit-first.result.remainder < c.args.v * 2 ^ c.norm_shift-s.result % 2 ^ 64 = subst (λ (x : ℕ). x < c.args.v * 2 ^ c.norm_shift-s.result % 2 ^ 64) (sym c.digit-first.ensures.1) (mod-lt (c.shl_bits-n.result.hi * 2 ^ 32 + c.shl_bits-n.result.lo / 2 ^ 32) shifted.positive) in
    let second_short : c.digit-second.result.quotient < 2 ^ 32 = subst (λ (x : ℕ). x < 2 ^ 32) (sym c.digit-second.ensures.0) (digit_lt c.digit-first.result.remainder (c.shl_bits-n.result.lo % 2 ^ 32) _ (2 ^ 32) shifted.positive carried (mod-lt c.shl_bits-n.result.lo (pow_pos 32))) in
    record { fits = digits_lt first_short second_short }

pub returns : goal.returns
returns c =
    let shifted : Shifted c.args.u1 c.args.u0 c.args.v c.norm_shift-s.result c.shl_bits-n.result.hi c.shl_bits-n.result.lo (c.args.v * 2 ^ c.norm_shift-s.result % 2 ^ 64) =
    let u1 = c.args.u1 in
    let u0 = c.args.u0 in
    let v = c.args.v in
    let s = c.norm_shift-s.result in
    let n = c.norm_shift-s.ensures in
    let r = c.shl_bits-n.result in
    let e : v * 2 ^ s % 2 ^ 64 ≡ v * 2 ^ s = mod-eq_of_lt n.2 in
    let f : bits_of r ≡ (u1 * 2 ^ 64 + u0) * 2 ^ s = c.shl_bits-n.ensures ∙ mod-eq_of_lt (shifted_fits (2 ^ 64) u1 u0 v (2 ^ s) (pow_pos 64) (pow_pos s) c.requires (search rules) n.2) in
    record {
      is_divisor = e;
      is_dividend = f;
      top = subst (λ (x : ℕ). 2 ^ 63 ≤ x) (sym e) n.1;
      upper = subst (λ (x : ℕ). r.hi < x) (sym e) (upper_lt (2 ^ 64) u1 u0 v (2 ^ s) (pow_pos 64) (pow_pos s) c.requires (search rules) r.hi r.lo f);
      positive = lt_of_lt_of_le (lit< tt) (subst (λ (x : ℕ). 2 ^ 63 ≤ x) (sym e) n.1);
      first = high_digit r.lo (search rules);
    } in
    let k = shifted in
    let r = c.shl_bits-n.result in
    let x = c.digit-first in
    let y = c.digit-second in
    let d = c.args.v * 2 ^ c.norm_shift-s.result % 2 ^ 64 in
    let n = c.args.u1 * 2 ^ 64 + c.args.u0 in (
      two_quotient r.hi r.lo d (2 ^ 32) x.result.quotient x.result.remainder y.result.quotient y.result.remainder k.positive x.ensures.0 x.ensures.1 y.ensures.0 y.ensures.1
          ∙ ap₂ ◌/◌ k.is_dividend k.is_divisor ∙ scaled_div n c.args.v (2 ^ c.norm_shift-s.result) (pow_pos c.norm_shift-s.result),
      ap (λ (z : ℕ). z / 2 ^ c.norm_shift-s.result)
          (two_remainder r.hi r.lo d (2 ^ 32) x.result.quotient x.result.remainder y.result.quotient y.result.remainder k.positive x.ensures.0 x.ensures.1 y.ensures.0 y.ensures.1
          ∙ ap₂ ◌%◌ k.is_dividend k.is_divisor)
          ∙ scaled_mod n c.args.v (2 ^ c.norm_shift-s.result) (pow_pos c.norm_shift-s.result) (divisor_pos c.requires),
    )
