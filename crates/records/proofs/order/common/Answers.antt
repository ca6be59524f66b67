-- How far two parts of a buffer agree. The laws of parts at a byte more, at one that differs, and at the end. Assumes nothing.
use Rattle.std.proofs.Common.{arith}
use Rattle.records.proofs.RunLaws.{common-more, common-stop, common_end}
use Rattle.records.proofs.order.common.Goals as goal

pub returns-then-text-a : goal.returns-then-text-a
returns-then-text-a c = common-stop _ _ _ _ _ c.loop-k.invariant (omega arith) (c.requires.0 (omega arith)).0 (c.requires.0 (omega arith)).1 c.if-text-a.true

pub loop-k-preserved : goal.loop-k-preserved
loop-k-preserved c = common-more _ _ _ _ _ c.loop-k.invariant (omega arith) (c.requires.0 (omega arith)).0 (c.requires.0 (omega arith)).1 c.if-text-a.false

pub returns : goal.returns
returns c = common_end _ _ _ _ _ c.loop-k.invariant (omega arith)
