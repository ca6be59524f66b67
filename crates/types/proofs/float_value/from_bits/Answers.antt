-- 64 bits as a float, a NaN set apart. By the test of the pattern. Assumes nothing.
use mathlib.Core.Path.{refl, sym, ◌∙◌}
use Rattle.types.specs.Floats.{float_of}
use Rattle.types.proofs.FloatFacts.{bits_nan}
use Rattle.types.proofs.float_value.from_bits.Goals as goal

pub returns-then-nan_bits : goal.returns-then-nan_bits
returns-then-nan_bits c = bits_nan _ (sym c.nan_bits.ensures ∙ c.if-nan_bits.true)

pub returns : goal.returns
unfolding float_of
returns c = refl
