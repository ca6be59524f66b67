-- The lowest record that is not referred to exactly once: none where no bytes say so, else the loop finds it. Its invariant: every record passed is referred to once.
-- Assumes nothing.
use Prim.Native.Nat.{ℕ, ◌<◌}
use mathlib.Core.Path.{◌≡◌}
use mathlib.Core.Bool.{false, not}
use Rattle.records.specs.Rules.{referred_once}
use Rattle.judge.proofs.references.lowest_miscounted.Given as goal

abbrev pub invariant-loop-r : goal.invariant-loop-r
invariant-loop-r l = (k : ℕ) → k < l.r → not (referred_once l.tree k) ≡ false
