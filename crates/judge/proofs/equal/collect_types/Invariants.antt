-- Each type is put into the entry of its number. The invariant: those passed are.
-- By the law of one more. Assumes nothing.
use mathlib.Core.Path.{◌≡◌}
use lib.ListN.{length}
use Rattle.judge.specs.Equal.{TypesListed}
use Rattle.judge.proofs.equal.collect_types.Given as goal

abbrev pub invariant-loop-r : goal.invariant-loop-r
invariant-loop-r l = TypesListed l.r l.scratch × (length l.scratch ≡ length l.initial.scratch)
