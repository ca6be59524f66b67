-- The records are taken in rising order, up to a walk that is too long. The invariant: those passed are entered and have their numbers and digests, and the bytes
-- that the contract names stay. By the laws of the pass at each turn, and by sorting from there on. Assumes nothing.
use Rattle.records.specs.Words.{records}
use Rattle.texts.specs.Texts.{Kept}
use Rattle.texts.specs.Pass.{Passed, Read}
use Rattle.texts.proofs.number_texts.Given as goal

abbrev pub invariant-loop-r : goal.invariant-loop-r
invariant-loop-r l = Passed l.tree l.text l.r l.scratch × Kept (records l.tree) l.initial.scratch l.scratch × Read l.text (records l.tree) l.r l.k.stride l.k.long l.scratch
