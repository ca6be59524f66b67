-- `int128::quotient::settle` meets its contract. The loop's invariant: q is the quotient or at most 2 above it; a turn goes round only where q is above it.
-- The measure is what q is above the quotient: so the loop turns at most twice.
use Prim.Native.Nat.{◌+◌, ◌-◌, ◌/◌, ◌≤◌}
use Rattle.int128.specs.Value.{bits_of}
use Rattle.int128.proofs.quotient.settle.Given as goal

abbrev pub invariant-loop-n : goal.invariant-loop-n
invariant-loop-n l = (bits_of l.n / bits_of l.d ≤ l.q) × (l.q ≤ bits_of l.n / bits_of l.d + 2)

abbrev pub decreases-loop-n : goal.decreases-loop-n
decreases-loop-n l = l.q - bits_of l.n / bits_of l.d
