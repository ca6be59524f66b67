-- After i turns the first i bytes are copied, and the rest is as found.
-- One turn is the law of a copy. Assumes nothing.
use mathlib.Core.Path.{◌≡◌}
use mathlib.Core.List.{◌++◌}
use lib.ListN.{length, drop}
use Rattle.laws.specs.Splice.{part}
use Rattle.ir.proofs.cut.copy.Given as goal

abbrev pub invariant-loop-i : goal.invariant-loop-i
invariant-loop-i l = (l.out ≡ part l.src l.from l.i ++ drop l.i l.initial.out) × (length l.out ≡ length l.initial.out)
