-- The test of a NaN's pattern.
-- The sign's bit off, and above an infinity's pattern. Assumes nothing.
use mathlib.Core.Path.{sym, ap, ◌∙◌}
use lib.Dec.{ltb}
use lib.Bits.{and_mask}
use lib.Ieee.{binary64}
use lib.Ieee.Bits.{nan_bits_above}
use Rattle.records.proofs.words.nan_bits.Goals as goal

pub returns : goal.returns
returns c = ap (ltb 9218868437227405312) (and_mask c.args.b 63) ∙ sym (nan_bits_above binary64 c.args.b)
