-- The mark of weight 16 is the bit that the definition reads. What `detail` ensures, under the test. Assumes nothing.
use mathlib.Core.Path.{ap}
use Prim.Native.Nat.{ℕ, ◌/◌, ◌%◌}
use lib.Dec.{eqb}
use Rattle.syntax.specs.Decode.{bit}
use Rattle.types.proofs.form.is_short.Goals as goal

pub returns : goal.returns
unfolding bit
returns c = ap (λ (d : ℕ). eqb (d / 16 % 2) 1) c.detail.ensures
