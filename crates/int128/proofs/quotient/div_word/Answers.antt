-- `int128::quotient::div_word` meets its contract: two digits of 64 bits, of which the first is one division of words.
-- `Digits.carry_div` and `Digits.carry_mod` in base 2 ^ 64, and what `div_two` ensures.
use Prim.Native.Nat.{ℕ, ◌+◌, ◌*◌, ◌/◌, ◌^◌}
use mathlib.Core.Path.{◌∙◌, sym, ap}
use Rattle.int128.proofs.Halves.{no_upper}
use Rattle.int128.proofs.Digits.{carry_div, carry_mod}
use Rattle.int128.proofs.quotient.div_word.Goals as goal

pub returns : goal.returns
returns c = (
  ap (λ (x : ℕ). c.args.n.hi / c.args.d * 2 ^ 64 + x) c.div_two-lower.ensures.0 ∙ sym (carry_div c.args.n.hi c.args.n.lo (2 ^ 64) c.args.d c.requires),
  no_upper c.div_two-lower.result.remainder ∙ c.div_two-lower.ensures.1 ∙ sym (carry_mod c.args.n.hi c.args.n.lo (2 ^ 64) c.args.d c.requires),
)
