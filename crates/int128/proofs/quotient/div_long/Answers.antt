-- `int128::quotient::div_long` meets its contract: the leading 64 bits of the divisor, and as much of the dividend, give an estimate that is settled.
-- The laws of `Normal` for the leading parts, and `Digits.over` and `Digits.near` for the estimate.
use Prim.Native.Nat.{ℕ, ◌+◌, ◌-◌, ◌*◌, ◌/◌, ◌^◌, ◌≤◌, ◌<◌}
use native.Mathlib.Nat.{lt_of_lt_of_le, mul-le-mul_left, div-lt_iff_lt-mul}
use native.Mathlib.Omega.{arith}
use lib.Dec.{lit<}
use lib.Pow.{pow_pos}
use mathlib.Core.Path.{◌≡◌, ◌∙◌, sym, ap₂, subst}
use Rattle.int128.specs.Value.{bits_of}
use Rattle.int128.proofs.Whole.{fits}
use Rattle.int128.proofs.Halves.{only-lower}
use Rattle.int128.proofs.Digits.{over, near}
use Rattle.int128.proofs.Normal.{Shift, top_lt, top_ge, leading_lt}
use borrow.Author.Rules.{rules}
use Rattle.int128.proofs.quotient.div_long.Goals as goal

half : (x : ℕ) → 2 ^ 63 ≤ x → 2 ^ 64 ≤ 2 * x
half x h = omega arith

some_left : (s : ℕ) → s < 64 → 0 < 64 - s
some_left s h = omega arith

pub div_two-estimate-requires : goal.div_two-estimate-requires
div_two-estimate-requires c =
    let shift : Shift c.args.d.hi c.norm_shift-s.result = record { short = c.norm_shift-s.ensures.0; top = c.norm_shift-s.ensures.1; fits = c.norm_shift-s.ensures.2 } in
    let part : ℕ = bits_of c.args.d / 2 ^ (64 - c.norm_shift-s.result) in
    let part-is : c.shr_bits-top.result.lo ≡ part =
    only-lower (2 ^ 64) c.shr_bits-top.result.hi c.shr_bits-top.result.lo _ (search rules) (top_lt c.args.d.hi c.args.d.lo c.norm_shift-s.result (search rules) shift) c.shr_bits-top.ensures in
    let part_ge : 2 ^ 63 ≤ part = top_ge c.args.d.hi c.args.d.lo c.norm_shift-s.result (search rules) shift in
    let n = c.args.n in
    let r = c.shr_bits-leading.result in
    subst (λ (x : ℕ). r.hi < x) (sym part-is)
    (lt_of_lt_of_le (leading_lt (bits_of n) (64 - c.norm_shift-s.result) r.hi r.lo (fits n (search rules)) (some_left c.norm_shift-s.result c.norm_shift-s.ensures.0) c.shr_bits-leading.ensures) part_ge)

pub settle-word-requires : goal.settle-word-requires
settle-word-requires c =
    let shift : Shift c.args.d.hi c.norm_shift-s.result = record { short = c.norm_shift-s.ensures.0; top = c.norm_shift-s.ensures.1; fits = c.norm_shift-s.ensures.2 } in
    let part : ℕ = bits_of c.args.d / 2 ^ (64 - c.norm_shift-s.result) in
    let part-is : c.shr_bits-top.result.lo ≡ part =
    only-lower (2 ^ 64) c.shr_bits-top.result.hi c.shr_bits-top.result.lo _ (search rules) (top_lt c.args.d.hi c.args.d.lo c.norm_shift-s.result (search rules) shift) c.shr_bits-top.ensures in
    let part_ge : 2 ^ 63 ≤ part = top_ge c.args.d.hi c.args.d.lo c.norm_shift-s.result (search rules) shift in
    let estimate_is : c.div_two-estimate.result.quotient ≡ bits_of c.args.n / 2 ^ (64 - c.norm_shift-s.result) / part = c.div_two-estimate.ensures.0 ∙ ap₂ ◌/◌ c.shr_bits-leading.ensures part-is in
    let n = bits_of c.args.n in
    let d = bits_of c.args.d in
    let k = 2 ^ (64 - c.norm_shift-s.result) in
    let hd : 0 < d = lt_of_lt_of_le (lit< tt) c.requires in
    let ht : 0 < d / k = lt_of_lt_of_le (lit< tt) part_ge in
    let hq : n / d < 2 ^ 64 = (div-lt_iff_lt-mul hd).1 (lt_of_lt_of_le (fits c.args.n (search rules)) (mul-le-mul_left (2 ^ 64) c.requires)) in (
      hd,
      subst (λ (x : ℕ). n / d ≤ x) (sym estimate_is) (over n d k (pow_pos (64 - c.norm_shift-s.result)) ht),
      subst (λ (x : ℕ). x ≤ n / d + 2) (sym estimate_is) (near n d k (2 ^ 64) (pow_pos (64 - c.norm_shift-s.result)) hd ht (half (d / k) part_ge) hq),
    )
