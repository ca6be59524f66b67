-- The bits of a float, on the words.
-- As the step by value reads them. Assumes nothing.
use Rattle.ir.proofs.LentLaws.{ten}
use Rattle.ir.proofs.lent.float_bits.Goals as goal

pub counters_of-requires : goal.counters_of-requires
counters_of-requires c = ten _ _ c.requires
