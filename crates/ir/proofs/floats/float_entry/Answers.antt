-- The entry with these bits and this mark.
-- A pattern that is no NaN's comes back from its f64. Assumes nothing.
use mathlib.Core.Path.{refl, sym, ◌∙◌}
use Rattle.ir.specs.Floats.{entry_of_float}
use Rattle.ir.proofs.FloatLaws.{bits_back}
use Rattle.ir.proofs.floats.float_entry.Goals as goal

pub returns-then-nan_bits : goal.returns-then-nan_bits
unfolding entry_of_float
returns-then-nan_bits c = refl

pub returns : goal.returns
unfolding entry_of_float
returns c = bits_back _ _ c.ranges.bits (sym c.nan_bits.ensures ∙ c.if-nan_bits.false)
