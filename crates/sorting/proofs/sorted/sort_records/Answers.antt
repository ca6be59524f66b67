-- Records are sorted by their keys: copied, and sorted from the copy back.
-- By the laws of the copy, over what copying and sorting ensure. Assumes nothing.
use Rattle.sorting.proofs.SortLaws.{copied_sortable}
use Rattle.sorting.proofs.sorted.sort_records.Goals as goal

pub sort_range-requires : goal.sort_range-requires
sort_range-requires c = copied_sortable _ _ _ _ c.requires.0 _ _ c.requires.1 c.copy_records.ensures
