-- A walk along the chain of type r's bucket, for so many entries at most. The invariant: no type from the place at hand on is like type r.
-- By the laws of chains at the head, at each link and at the end. Assumes nothing.
use Rattle.laws.specs.Chain.{Met}
use Rattle.judge.specs.Equal.{alike, type_bucket}
use Rattle.judge.proofs.equal.may_have_alike.Given as goal

abbrev pub invariant-loop : goal.invariant-loop
invariant-loop l = Met (alike l.tree l.text) (type_bucket l.tree l.text l.types) l.r l.at
