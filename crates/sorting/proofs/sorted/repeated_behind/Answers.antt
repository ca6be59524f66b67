-- The record of the entry behind, if both have the same key.
-- From what the comparison and the word ensure. Assumes nothing.
use Rattle.sorting.proofs.GroupLaws.{repeated_here, repeated_not}
use Rattle.sorting.proofs.sorted.repeated_behind.Goals as goal

pub returns-then-same_as_next : goal.returns-then-same_as_next
returns-then-same_as_next c = repeated_here _ _ _ _ _ c.requires _ _ _ _ c.same_as_next.ensures c.if-same_as_next.true c.load.ensures

pub returns : goal.returns
returns c = repeated_not _ _ _ _ _ c.requires _ _ _ c.same_as_next.ensures c.if-same_as_next.false
