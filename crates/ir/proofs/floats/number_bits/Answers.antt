-- The bits of an f64 that the code holds.
-- A NaN differs from itself, and has no bits of its own here. Assumes nothing.
use lib.Ieee.{is_nan}
use lib.Ieee.Compare.{differs_from_itself}
use lib.Ieee.Bits.{is_false}
use denote.Floats.{passes}
use Rattle.ir.specs.Floats.{bits_of_float}
use Rattle.ir.proofs.FloatLaws.{same-no_nan}
use Rattle.ir.proofs.floats.number_bits.Goals as goal

pub returns-then-x : goal.returns-then-x
unfolding bits_of_float is_nan
returns-then-x c = rw (differs_from_itself _ (passes _ c.if-x.true))

pub float_to_bits-result : goal.float_to_bits-result
float_to_bits-result c = same-no_nan _ c.if-x.false

pub returns : goal.returns
unfolding bits_of_float
returns c = rw (is_false (is_nan c.args.x) (same-no_nan _ c.if-x.false))
