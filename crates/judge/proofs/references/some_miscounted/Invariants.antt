-- Whether a record is miscounted by its bytes. The loop's invariant: whether one of the records passed is.
-- Each byte of a slot is below 256. Assumes nothing.
use mathlib.Core.Path.{◌≡◌}
use Rattle.laws.specs.Below.{any_below}
use Rattle.judge.specs.Inner.{miscounted_in}
use Rattle.judge.proofs.references.some_miscounted.Given as goal

abbrev pub invariant-loop-r : goal.invariant-loop-r
invariant-loop-r l = l.some ≡ any_below l.r (miscounted_in l.known)
