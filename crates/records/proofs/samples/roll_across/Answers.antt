-- Over a run by what stands at its ends: the definition, where nothing exceeds 64 bits.
-- The product of two words has 64 bits with room for another word. Assumes nothing.
use mathlib.Core.Path.{refl}
use native.Mathlib.Omega.{arith}
use Rattle.records.specs.Samples.{roll_across}
use Rattle.records.proofs.samples.roll_across.Goals as goal

pub returns : goal.returns
unfolding roll_across
returns c = (refl, omega arith)
