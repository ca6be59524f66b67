-- Three words of two records compared, one after the other. The invariant: those before are the same. Assumes nothing.
use Rattle.sorting.proofs.KeyLaws.{SameBelow}
use Rattle.sorting.proofs.sorted.compare_words.Given as goal

abbrev pub invariant-loop-k : goal.invariant-loop-k
invariant-loop-k l = SameBelow l.tree l.a l.b l.k
