-- Whether a record is miscounted by its bytes. The loop's invariant: whether one of the records passed is.
-- Each byte of a slot is below 256. Assumes nothing.
use mathlib.Core.Path.{refl}
use native.Mathlib.Omega.{arith}
use Rattle.laws.specs.Below.{any_below}
use Rattle.judge.proofs.FaultLaws.{miscounted_more}
use Rattle.judge.proofs.references.some_miscounted.Goals as goal

pub loop-r-init : goal.loop-r-init
unfolding any_below
loop-r-init c = refl

pub loop-r-preserved : goal.loop-r-preserved
loop-r-preserved c = miscounted_more _ _ _ _ (λ i. omega (arith, c.shared_slice_known-1.given i)) c.load-slot.ensures c.loop-r.invariant
