-- Each sorted record gets its number. The invariant: those passed have theirs, and the first with the last one's key is known. Assumes nothing.
use Rattle.std.proofs.Common.{◌≡◌, ℕ, ◌+◌}
use Rattle.records.specs.Words.{records}
use Rattle.sorting.specs.Sorted.{record_key, FirstUpTo, NumberedUpTo}
use Rattle.sorting.proofs.sorted.number_sorted.Given as goal

abbrev pub invariant-loop-i : goal.invariant-loop-i
invariant-loop-i l = ((q : ℕ) → q + 1 ≡ l.i → FirstUpTo (record_key l.tree l.text) l.initial.scratch l.at q l.first)
    × NumberedUpTo (record_key l.tree l.text) (records l.tree) l.at l.m l.to l.i l.initial.scratch l.scratch
