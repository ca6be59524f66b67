-- Two entries one behind the other have the same key just if they agree to the end of both.
-- By the law of such keys, over what the words and the lengths ensure. Assumes nothing.
use native.Mathlib.Omega.{arith}
use Rattle.sorting.specs.Sorted.{record_key}
use Rattle.sorting.proofs.GroupLaws.{same-told}
use Rattle.sorting.proofs.sorted.same_as_next.Goals as goal

pub returns : goal.returns
returns c = same-told (record_key _ _) _ _ _ _ c.requires _ _ _ _ _ _ (omega arith) c.load-shared.ensures c.load.ensures c.load-2.ensures c.key_long-x.ensures c.key_long-y.ensures
