-- The types are listed and sorted, and the first whose key is repeated is the lowest that equals an earlier one.
-- By the laws of listed types, over what the calls ensure, and from each byte of the text being below 256. Assumes nothing.
use mathlib.Core.Path.{◌∙◌}
use native.Mathlib.Omega.{arith}
use Rattle.sorting.proofs.ArrangedLaws.{repeated_before}
use Rattle.judge.proofs.EqualLaws.{lowest-sorted}
use Rattle.judge.proofs.equal.first_by_sorting.Goals as goal

pub returns : goal.returns
returns c = (lowest-sorted _ _ c.collect_types.ensures.0 _ _ c.requires.lead.types (λ k. omega (arith, c.shared_slice_known-2-1.given k)) _ (repeated_before _ _ _ _ _ c.sort_records.ensures.arranged _ _ c.first_repeated.ensures), c.sort_records.ensures.only_both.long ∙ c.collect_types.ensures.1)
