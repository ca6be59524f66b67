-- The bits of a float, as the definition reads them.
-- The two words that were loaded; none past the last entry. Assumes nothing.
use Rattle.ir.proofs.FloatRead.{bits_loaded, bits_none}
use Rattle.ir.proofs.pool.float_bits.Goals as goal

pub returns-then-j-k : goal.returns-then-j-k
returns-then-j-k c = search bits_none

pub returns : goal.returns
returns c = search bits_loaded
