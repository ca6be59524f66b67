-- How deep a record is, by its kind and the deepest that it refers to.
-- Each return is a case of the definition. Assumes nothing.
use Rattle.judge.proofs.DepthLaws.{over-list, over-most, over-more}
use Rattle.judge.proofs.nesting.depth_over.Goals as goal

pub returns-then-k-eq-KIND_LIST : goal.returns-then-k-eq-KIND_LIST
returns-then-k-eq-KIND_LIST c = over-list _ _ c.if-k-eq-KIND_LIST.true

pub returns-then-below-ge-TOO_DEEP : goal.returns-then-below-ge-TOO_DEEP
returns-then-below-ge-TOO_DEEP c = over-most _ _ c.if-k-eq-KIND_LIST.false c.if-below-ge-TOO_DEEP.true

pub returns : goal.returns
returns c = over-more _ _ c.if-k-eq-KIND_LIST.false c.if-below-ge-TOO_DEEP.false
