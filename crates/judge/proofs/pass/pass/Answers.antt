-- All records are taken. The invariant: what is known and counted of the records passed, and the lowest of them that breaks a rule or is too deep.
-- Assumes nothing.
use mathlib.Core.Path.{ap, ◌∙◌}
use mathlib.Core.Bool.{not}
use Rattle.judge.proofs.DepthLaws.{deep-told}
use Rattle.judge.proofs.pass.pass.Goals as goal

pub loop-r-preserved : goal.loop-r-preserved
loop-r-preserved c = (c.take_record-told.ensures.same ∙ c.loop-r.invariant.0, c.take_record-told.ensures.known, c.take_record-told.ensures.counting, c.next_lowest-fault.ensures _ _ c.loop-r-test.true c.loop-r.invariant.3 (ap not c.take_record-told.ensures.right), c.next_lowest-deep.ensures _ _ c.loop-r-test.true c.loop-r.invariant.4 (deep-told _ _ c.take_record-told.ensures.depth))
