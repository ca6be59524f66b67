-- The records that have a text become entries. The invariant: those passed that have one are, and nothing else is written.
-- By the contract of one record at each turn. Assumes nothing.
use Rattle.records.specs.Words.{records}
use Rattle.sorting.specs.Sorted.{OnlyThere}
use Rattle.texts.specs.Pass.{Collected}
use Rattle.texts.proofs.collect_texts.Given as goal

abbrev pub invariant-loop-r : goal.invariant-loop-r
invariant-loop-r l = Collected l.tree l.r l.m l.scratch × OnlyThere 0 0 (records l.tree) l.initial.scratch l.scratch
