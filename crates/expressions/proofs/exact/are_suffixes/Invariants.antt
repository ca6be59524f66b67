-- The loop says whether the suffixes stand in the text, one behind the other.
-- What was asked equals what is left: the suffixes from the present cell on, and the text from the present place on. Assumes nothing.
use Rattle.expressions.proofs.SuffixLaws.{Matched}
use Rattle.expressions.proofs.exact.are_suffixes.Given as goal

abbrev pub invariant-loop : goal.invariant-loop
invariant-loop l = Matched l.tree l.text l.scratch l.first l.k l.at l.here l.cell l.counter
