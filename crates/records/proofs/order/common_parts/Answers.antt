-- How far two parts of a buffer agree, N eights at a time. The law of parts at a run more. Assumes nothing.
use Rattle.std.proofs.Common.{arith}
use Rattle.records.proofs.RunLaws.{common-below, common-part}
use Rattle.records.proofs.order.common_parts.Goals as goal

pub overflow_sub-n : goal.overflow_sub-n
overflow_sub-n g c = common-below _ _ _ _ _ c.loop-k.invariant

pub loop-k-preserved : goal.loop-k-preserved
loop-k-preserved g c = common-part _ _ _ _ _ c.loop-k.invariant _ _ c.loop-k-test.true (c.requires.0 (omega arith)).0 c.same_eights.ensures c.if-same_eights.true
