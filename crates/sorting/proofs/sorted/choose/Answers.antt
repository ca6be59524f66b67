-- Which of two keys behind a third is next, by how far each agrees with it, and else by comparing them from there on.
-- By the laws of which is next. Assumes nothing.
use native.Mathlib.Omega.{arith}
use Rattle.sorting.proofs.AheadLaws.{left-further, right-further, agree_so_far}
use Rattle.sorting.proofs.sorted.choose.Goals as goal

pub returns-then-right_shared-left_shared : goal.returns-then-right_shared-left_shared
returns-then-right_shared-left_shared c = left-further _ _ _ _ c.requires.behind_one c.if-right_shared-left_shared.true

pub returns-then-left_shared-right_shared : goal.returns-then-left_shared-right_shared
returns-then-left_shared-right_shared c = right-further _ _ _ _ c.requires.behind_one c.if-left_shared-right_shared.true

pub compare-requires : goal.compare-requires
compare-requires c = record { a_bound = c.requires.a_bound; from_bound = omega (arith, agree_so_far _ _ _ _ c.requires.behind_one c.if-right_shared-left_shared.false c.if-left_shared-right_shared.false) }
