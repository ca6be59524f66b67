-- The records of entries are copied, one for one. The invariant: those passed are, and nothing else is written. Assumes nothing.
use Rattle.sorting.proofs.SortLaws.{Copied}
use Rattle.sorting.proofs.sorted.copy_records.Given as goal

abbrev pub invariant-loop-i : goal.invariant-loop-i
invariant-loop-i l = Copied l.at l.to l.m l.initial.scratch l.i l.scratch
