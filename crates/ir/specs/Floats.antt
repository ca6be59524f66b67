-- What the code's floats stand for. A float entry is an f64 with its mark; a NaN, whose bits no f64 of the code gives back, stands as its bits.
-- Assumes nothing: these are definitions.
use Rattle.std.specs.Prelude.{ℕ, Bool, cond, Float}
use Rattle.std.specs.Float.{binary64}
use Rattle.std.specs.Float.Ieee.{to_bits, is_nan}
use Rattle.conversion.specs.Ir as Ir
use Rattle.ir.specs.declared.floats.FloatBits.{FloatBits}
use Rattle.ir.specs.declared.floats.FloatBits.TheVariants.{Number, Nan}

-- the bits of an f64 that the code holds; a NaN there has those of the quiet NaN
unfoldable pub bits_of_float : Float → ℕ
bits_of_float x = cond (is_nan x) 0x7FF8000000000000 (to_bits binary64 x)

-- 'a float entry is its value with its short mark'
unfoldable pub entry_of_float : FloatBits → Ir.FloatEntry
unfolding bits_of_float
entry_of_float (Number e) = record { bits = bits_of_float e.value; short = e.short }
entry_of_float (Nan b short) = record { bits = b; short = short }

abbrev pub entry : ℕ → Bool → Ir.FloatEntry
entry bits short = record { bits = bits; short = short }
