-- The functions' records stand in scratch. The invariant: those of the records passed are listed, and counted.
-- The laws of the list, one record at a time. Assumes nothing.
use Rattle.functions.proofs.Listing.{Listing}
use Rattle.functions.proofs.functions.list_functions.Given as goal

abbrev pub invariant-loop-r : goal.invariant-loop-r
invariant-loop-r l = Listing l.tree l.initial.scratch l.scratch l.r-end l.r l.count
