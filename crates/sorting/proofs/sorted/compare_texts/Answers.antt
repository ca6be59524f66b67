-- The texts of two records compared, by their words A and B.
-- By the laws of the texts of two records, over what the calls ensure. Assumes nothing.
use native.Mathlib.Omega.{arith}
use Rattle.sorting.proofs.AheadLaws.{compared-from, shared-fits, ends-known, compared}
use Rattle.sorting.proofs.sorted.compare_texts.Goals as goal

pub common_from-shared-requires : goal.common_from-shared-requires
common_from-shared-requires c = compared-from _ _ _ _ _ _ _ _ _ _ _ c.word-i.ensures c.word.ensures c.word-j.ensures c.word-2.ensures c.reach-x.ensures c.reach-y.ensures c.min.ensures _ c.requires.from_bound

pub comes_first-requires : goal.comes_first-requires
comes_first-requires c = ends-known _ _ _ _ _ _ _ _ _ _ _ c.word-i.ensures c.word.ensures c.word-j.ensures c.word-2.ensures c.reach-x.ensures c.reach-y.ensures c.min.ensures _ c.common_from-shared.ensures

pub overflow_cast-result : goal.overflow_cast-result
overflow_cast-result c = omega (arith, shared-fits _ _ _ _ _ _ _ _ _ _ _ c.word-i.ensures c.word.ensures c.word-j.ensures c.word-2.ensures c.reach-x.ensures c.reach-y.ensures c.min.ensures _ c.common_from-shared.ensures)

pub returns : goal.returns
returns c = compared _ _ _ _ _ _ _ _ _ _ _ c.word-i.ensures c.word.ensures c.word-j.ensures c.word-2.ensures c.reach-x.ensures c.reach-y.ensures c.min.ensures _ c.common_from-shared.ensures _ c.comes_first.ensures
