-- `convert_tree::read_full` is safe: what was read is within the buffer.
-- The loop's invariant says that; a `for` ends by itself.
use Rattle.std.proofs.Common.{◌≤◌, length}
use Rattle.convert_tree.proofs.read_full.Given as goal

abbrev pub invariant-loop : goal.invariant-loop
invariant-loop l = l.n ≤ length l.buffer
