-- The records are taken in rising order, up to a walk that is too long. The invariant: those passed are entered and have their numbers and digests, and the bytes
-- that the contract names stay. By the laws of the pass at each turn, and by sorting from there on. Assumes nothing.
use Rattle.texts.proofs.PassLaws.{passed_none, kept-all, read_none}
use Rattle.texts.proofs.number_texts.Goals as goal

pub loop-r-init : goal.loop-r-init
loop-r-init c = (passed_none _ _ _ _ c.clear_heads.ensures, kept-all _ _, read_none _ _ _)
