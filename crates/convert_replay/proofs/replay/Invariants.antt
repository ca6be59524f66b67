-- The loop over the cases is safe: both arrays keep their length, and no more cases differ than were read. Assumes nothing.
use mathlib.Core.Path.{◌≡◌}
use Prim.Native.Nat.{◌≤◌}
use lib.ListN.{length}
use Rattle.convert_replay.proofs.replay.Given as goal

abbrev pub invariant-loop-cases : goal.invariant-loop-cases
invariant-loop-cases l = (length l.head ≡ 104) × (length l.body ≡ 620000) × (l.differ ≤ l.cases)
