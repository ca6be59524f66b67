-- The ten words as a struct.
-- Each word as it was read. Assumes nothing.
use Rattle.ir.proofs.LentLaws.{counted-are}
use Rattle.ir.proofs.lent.counters_of.Goals as goal

pub returns : goal.returns
returns c = counted-are c.args.k.now c.requires
