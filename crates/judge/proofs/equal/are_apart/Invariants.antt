-- The leading types are entered one after the other. The invariant: none of those passed equals an earlier one.
-- By what each step ensures and the law of what nothing is like. Assumes nothing.
use mathlib.Core.Path.{◌≡◌}
use mathlib.Core.Bool.{false, not}
use Prim.Native.Nat.{ℕ, ◌<◌}
use lib.ListN.{length}
use Rattle.records.specs.Rules.{type_is_new}
use Rattle.judge.specs.Equal.{DigestsPassed}
use Rattle.judge.proofs.equal.are_apart.Given as goal

abbrev pub invariant-loop-r : goal.invariant-loop-r
invariant-loop-r l = (length l.scratch ≡ length l.initial.scratch) × DigestsPassed l.tree l.text l.types l.stride l.r l.scratch × ((k : ℕ) → k < l.r → not (type_is_new l.tree l.text k) ≡ false)
