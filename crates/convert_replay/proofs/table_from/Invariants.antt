-- Where a table begins is within what six tables may have.
-- The invariant: each table passed has less than 2^32 bytes. Assumes nothing.
use Prim.Native.Nat.{◌*◌, ◌≤◌}
use Rattle.convert_replay.proofs.table_from.Given as goal

abbrev pub invariant-loop-j : goal.invariant-loop-j
invariant-loop-j l = l.from ≤ l.j * 4294967296
