-- The rest, singly. The invariant: what was asked equals what is left after k bytes, as far as there are so many.
-- The laws of texts byte by byte, at a byte of the rest and past it. Assumes nothing.
use Rattle.std.proofs.Common.{min}
use Rattle.records.proofs.TextLaws.{Same}
use Rattle.records.proofs.texts.same_singly.Given as goal

abbrev pub invariant-loop-k : goal.invariant-loop-k
invariant-loop-k l = Same l.s l.t l.a l.b l.n (min l.k l.n)
