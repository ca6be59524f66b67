-- Two runs are merged, entry for entry. The invariant: those put out are sorted, and what is left comes behind them. Assumes nothing.
use Rattle.records.specs.Words.{records}
use Rattle.sorting.specs.Sorted.{record_key, Merging, OnlyThere}
use Rattle.sorting.proofs.sorted.merge.Given as goal

abbrev pub invariant-loop-k : goal.invariant-loop-k
invariant-loop-k l = Merging (record_key l.tree l.text) (records l.tree) l.runs l.k l.heads l.scratch
    × OnlyThere l.runs.to l.runs.lo l.runs.hi l.initial.scratch l.scratch
