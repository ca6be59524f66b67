-- The records of entries are copied, one for one. By the law of one more. Assumes nothing.
use Rattle.std.proofs.Common.{rules}
use Rattle.sorting.proofs.SortLaws.{copied_more}
use Rattle.sorting.proofs.sorted.copy_records.Goals as goal

pub loop-i-preserved : goal.loop-i-preserved
loop-i-preserved c = copied_more _ _ _ _ c.requires _ _ _ _ c.loop-i-test.true c.loop-i.invariant (search rules) c.load-r.ensures c.put_pair.ensures
