-- Zeros from `at` on.
-- The slice with the filled part in it. Assumes nothing.
use Rattle.ir.proofs.CutLaws.{clear_is}
use Rattle.ir.proofs.cut.clear_from.Goals as goal

pub returns : goal.returns
returns c = clear_is _ _ _ c.requires (c.fill.ensures.after (λ y e. e))
