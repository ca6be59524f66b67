-- Entries are sorted: each half the other way round, and both merged. The measure is how many there are.
-- By the laws of two halves, over what the two calls and the merging ensure. Assumes nothing.
use native.Mathlib.Omega.{arith}
use Rattle.sorting.proofs.SortLaws.{second_half, two_runs, halves_arranged, halves_only}
use Rattle.sorting.proofs.sorted.+sort_range.Goals as goal

pub sort_range-requires-2 : goal.sort_range-requires-2
sort_range-requires-2 t c = (omega (arith, c.decreases, c.requires.places.rises, c.if-hi-lo-lt2.false), second_half _ _ _ _ _ _ _ c.requires (omega (arith, c.requires.places.rises)) (omega (arith, c.requires.places.rises)) _ c.sort_range.ensures.only_both)

pub merge-requires : goal.merge-requires
merge-requires t c = two_runs _ _ _ _ _ _ _ c.requires (omega (arith, c.requires.places.rises)) (omega (arith, c.requires.places.rises)) _ c.sort_range.ensures.only_both _ _ c.sort_range-2.ensures.only_both c.sort_range.ensures.arranged c.sort_range-2.ensures.arranged

pub returns : goal.returns
returns t c = record { arranged = halves_arranged _ _ _ _ _ _ _ c.requires (omega (arith, c.requires.places.rises)) (omega (arith, c.requires.places.rises)) _ c.sort_range.ensures.only_both _ _ c.sort_range-2.ensures.only_both c.sort_range.ensures.arranged c.sort_range-2.ensures.arranged _ c.merge.ensures.arranged c.merge.ensures.only_there; only_both = halves_only _ _ _ _ _ _ _ c.requires (omega (arith, c.requires.places.rises)) (omega (arith, c.requires.places.rises)) _ c.sort_range.ensures.only_both _ _ c.sort_range-2.ensures.only_both c.sort_range.ensures.arranged c.sort_range-2.ensures.arranged _ c.merge.ensures.arranged c.merge.ensures.only_there }
