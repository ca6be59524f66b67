-- An entry's bits and mark.
-- A number's by what its bits are, a NaN's as they stand. Assumes nothing.
use Rattle.ir.specs.Floats.{entry_of_float}
use Rattle.ir.proofs.floats.entry_bits.Goals as goal

pub returns-in-Number : goal.returns-in-Number
unfolding entry_of_float
returns-in-Number c = rw (c.in-Number.is, c.number_bits.ensures)

pub returns-in-Nan : goal.returns-in-Nan
unfolding entry_of_float
returns-in-Nan c = rw c.in-Nan.is
