-- Eight eights at a time. The invariant: what was asked is what is left. Assumes nothing.
use Rattle.std.proofs.Common.{◌*◌}
use Rattle.records.proofs.TextLaws.{Same}
use Rattle.records.proofs.texts.same_long.Given as goal

abbrev pub invariant-loop-k : goal.invariant-loop-k
invariant-loop-k l = Same l.s l.t l.a l.b l.n (64 * l.k)
