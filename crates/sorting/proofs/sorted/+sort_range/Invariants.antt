-- Entries are sorted: each half the other way round, and both merged. The measure is how many there are.
-- By the laws of two halves, over what the two calls and the merging ensure. Assumes nothing.
use Prim.Native.Nat.{◌-◌}
use Rattle.sorting.proofs.sorted.+sort_range.Given as goal

abbrev pub decreases-sort_range : goal.decreases-sort_range
decreases-sort_range l = l.hi - l.lo
