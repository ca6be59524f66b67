-- How far two parts of a buffer agree, N eights at a time. The invariant: they agree so far. Assumes nothing.
use Rattle.std.proofs.Common.{◌≤◌, ◌-◌}
use Rattle.records.proofs.RunLaws.{Common}
use Rattle.records.proofs.order.common_parts.Given as goal

abbrev pub invariant-loop-k : goal.invariant-loop-k
invariant-loop-k g l = l.k ≤ Common l.text l.a l.b l.n

abbrev pub decreases-loop-k : goal.decreases-loop-k
decreases-loop-k g l = l.n - l.k
