-- N eights, side by side. By the law of texts part by part. Assumes nothing.
use Rattle.std.proofs.Common.{refl, arith}
use Rattle.records.specs.Words.{text_at, same_text}
use Rattle.records.proofs.TextLaws.{same-joined}
use Rattle.records.proofs.texts.same_eights.Goals as goal

pub loop-k-init : goal.loop-k-init
unfolding text_at same_text
loop-k-init g c = refl

pub loop-k-preserved : goal.loop-k-preserved
loop-k-preserved g c = same-joined _ _ _ _ _ 8 _ _ _ (omega arith) c.loop-k.invariant c.same_eight-same.ensures
