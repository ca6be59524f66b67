-- The bucket of a float's words.
-- It is the definition's, and a remainder is below the divisor. Assumes nothing.
use mathlib.Core.Path.{refl}
use native.Mathlib.Nat.{mod-lt}
use Rattle.ir.specs.Arena.{float_bucket}
use Rattle.ir.proofs.pool.float_bucket.Goals as goal

pub returns : goal.returns
unfolding float_bucket
returns c = (refl, mod-lt _ c.requires)
