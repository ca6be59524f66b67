-- The float's bits, then the float with them and the mark.
-- By the law of both steps in a row. Assumes nothing.
use native.Mathlib.Omega.{arith}
use Rattle.statements.proofs.FitLaws.{refloat-fits}
use Rattle.statements.proofs.fits.refloat.Goals as goal

pub returns : goal.returns
returns c = λ tree. refloat-fits _ _ _ _ _ (omega arith) c.float_bits.ensures c.float_entry-f.ensures c.float_id.ensures
