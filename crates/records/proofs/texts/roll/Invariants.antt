-- From a digest on over a run of bytes. The invariants: what was asked is what is left from the place at hand on.
-- By the laws of that digest at each step. Assumes nothing.
use Rattle.std.proofs.Common.{◌*◌}
use Rattle.records.proofs.RollLaws.{RollLeft}
use Rattle.records.proofs.texts.roll.Given as goal

abbrev pub invariant-loop-k : goal.invariant-loop-k
invariant-loop-k l = RollLeft l.text l.d l.at l.n l.x (16 * l.k)

abbrev pub invariant-loop-k-2 : goal.invariant-loop-k-2
invariant-loop-k-2 l = RollLeft l.text l.d l.at l.n l.x l.k
