-- All records are taken. The invariant: what is known and counted of the records passed, and the lowest of them that breaks a rule or is too deep.
-- Assumes nothing.
use mathlib.Core.Path.{◌≡◌}
use mathlib.Core.Bool.{not}
use lib.Dec.{ltb}
use lib.ListN.{length}
use Rattle.records.specs.Depth.{depth}
use Rattle.judge.specs.Inner.{LowestSoFar, KnownBelow, Counting, other_rules}
use Rattle.judge.proofs.pass.pass.Given as goal

abbrev pub invariant-loop-r : goal.invariant-loop-r
invariant-loop-r l = (length l.known ≡ length l.initial.known) × KnownBelow l.tree l.r l.known × Counting l.tree l.r l.known × LowestSoFar l.n l.r (λ k. not (other_rules l.tree l.bytes k)) l.fault × LowestSoFar l.n l.r (λ k. ltb 64 (depth l.tree k)) l.deep
