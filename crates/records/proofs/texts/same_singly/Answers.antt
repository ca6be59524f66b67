-- The rest, singly. The laws of texts byte by byte, at a byte of the rest and past it. Assumes nothing.
use Rattle.std.proofs.Common.{arith}
use Rattle.records.proofs.TextLaws.{byte_more, byte-other, byte_past, byte_last}
use Rattle.records.proofs.texts.same_singly.Goals.{else-k-n-via-then-k-n+else-s-a, else-k-n-via-else-k-n}
use Rattle.records.proofs.texts.same_singly.Goals as goal

pub returns-then-s-a : goal.returns-then-s-a
returns-then-s-a c = search byte-other

pub loop-k-preserved : goal.loop-k-preserved
loop-k-preserved c = elim c.else-k-n.branch [ else-k-n-via-then-k-n+else-s-a w ↦ search byte_more | else-k-n-via-else-k-n w ↦ search byte_past ]

pub returns : goal.returns
returns c = byte_last _ _ _ _ _ c.loop-k.k (omega arith) c.loop-k.invariant
