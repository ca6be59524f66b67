-- The lowest record that repeats a key. The invariant: it is that of the entries looked at, or the bound. Assumes nothing.
use Rattle.sorting.specs.Sorted.{record_key}
use Rattle.sorting.proofs.GroupLaws.{Looked}
use Rattle.sorting.proofs.sorted.first_repeated.Given as goal

abbrev pub invariant-loop-i : goal.invariant-loop-i
invariant-loop-i l = Looked (record_key l.tree l.text) l.scratch l.at l.m l.bound l.i l.lowest
