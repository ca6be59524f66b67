-- The digests, the entries, their order and the numbers, one after the other.
-- By the laws of texts numbered by sorting, over what the calls ensure. Assumes nothing.
use native.Mathlib.Omega.{arith}
use Rattle.texts.proofs.SortedLaws.{sorted-numbered, sorted-kept}
use Rattle.texts.proofs.number_by_sorting.Goals as goal

pub returns : goal.returns
returns c = let numbers = c.number_sorted.ensures in
    (sorted-numbered _ _ _ _ c.collect_texts-m.ensures.collected _ (omega (arith, c.requires.good.1, c.roll_texts.ensures.kept.long)) c.collect_texts-m.ensures.only_there _ c.sort_records.ensures.arranged c.sort_records.ensures.only_both _ numbers c.roll_texts.ensures.rolled, sorted-kept _ _ _ _ c.collect_texts-m.ensures.collected _ (omega (arith, c.requires.good.1, c.roll_texts.ensures.kept.long)) c.collect_texts-m.ensures.only_there _ c.sort_records.ensures.arranged c.sort_records.ensures.only_both _ numbers _ c.roll_texts.ensures.kept)
