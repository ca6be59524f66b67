-- The names' lengths are summed up. The invariant: no name has more bytes than a word says.
-- Assumes nothing.
use Prim.Native.Nat.{◌*◌, ◌≤◌}
use Rattle.records.specs.Words.{none}
use Rattle.judge.proofs.equal.names_long.Given as goal

abbrev pub invariant-loop-r : goal.invariant-loop-r
invariant-loop-r l = l.long ≤ none * l.r
