-- Which head of two runs is next: the other where a run is at its end, else by their keys.
-- By the laws of two heads, over what the words and the choice ensure. Assumes nothing.
use Rattle.sorting.specs.Sorted.{record_key}
use Rattle.sorting.proofs.MergeLaws.{heads-asked}
use Rattle.sorting.proofs.sorted.choose_head.Goals as goal

pub choose-requires : goal.choose-requires
choose-requires c = record { a_bound = (heads-asked (record_key _ _) _ _ _ _ _ c.requires.merging _ _ c.load.ensures c.load-2.ensures c.if-left-runs.false c.if-right-runs.false).0; behind_one = (heads-asked (record_key _ _) _ _ _ _ _ c.requires.merging _ _ c.load.ensures c.load-2.ensures c.if-left-runs.false c.if-right-runs.false).1 }
