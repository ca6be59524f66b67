-- How far two texts agree, and whether they are the same: by comparing as many bytes as both have.
-- By the laws of two texts, over what the calls ensure. Assumes nothing.
use native.Mathlib.Omega.{arith}
use Rattle.records.proofs.RunLaws.{common-least_of, least-inside, first_fits_lem, common-fits, agrees, agrees_whole}
use Rattle.records.proofs.order.agreed.Goals as goal

pub overflow_cast-result : goal.overflow_cast-result
overflow_cast-result c = omega (arith, first_fits_lem _ _ _ _ _ _ _ c.reach-x.ensures c.reach-y.ensures, c.ranges.n)

pub returns-then-same_text : goal.returns-then-same_text
returns-then-same_text c = agrees_whole _ _ _ _ _ _ _ c.reach-x.ensures c.reach-y.ensures _ c.same_text.ensures c.if-same_text.true

pub common-bytes-requires : goal.common-bytes-requires
common-bytes-requires c = (λ h. least-inside _ _ _ _ _ _ _ c.reach-x.ensures c.reach-y.ensures _ c.min.ensures h, rw (common-least_of _ _ _ _ _ _ _ c.reach-x.ensures c.reach-y.ensures _ c.min.ensures) at c.requires)

pub overflow_cast-result-2 : goal.overflow_cast-result-2
overflow_cast-result-2 c = omega (arith, common-fits _ _ _ _ _ _ _ c.reach-x.ensures c.reach-y.ensures _ _ c.min.ensures c.common-bytes.ensures, c.ranges.n)

pub returns : goal.returns
returns c = agrees _ _ _ _ _ _ _ c.reach-x.ensures c.reach-y.ensures _ _ c.min.ensures c.common-bytes.ensures
