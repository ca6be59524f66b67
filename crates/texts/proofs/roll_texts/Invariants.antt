-- The digests of the records from one on. The invariant: those passed have theirs, and the bytes that the contract names stay.
-- By the contract of one record at each turn. Assumes nothing.
use Rattle.records.specs.Words.{records}
use Rattle.texts.specs.Texts.{Kept}
use Rattle.texts.specs.Pass.{Rolled, Read}
use Rattle.texts.proofs.roll_texts.Given as goal

abbrev pub invariant-loop-r : goal.invariant-loop-r
invariant-loop-r l = Rolled l.tree l.text l.r l.scratch × Kept (records l.tree) l.initial.scratch l.scratch × Read l.text (records l.tree) l.r l.k.stride l.k.long l.scratch
