-- How far two parts of a buffer agree, the rest singly. The invariant: they agree so far. Assumes nothing.
use Rattle.std.proofs.Common.{◌≤◌}
use Rattle.records.proofs.RunLaws.{Common}
use Rattle.records.proofs.order.common.Given as goal

abbrev pub invariant-loop-k : goal.invariant-loop-k
invariant-loop-k l = l.k ≤ Common l.text l.a l.b l.n
