-- What judging alone leaves of scratch, and which answers have a place. Assumes nothing: these are definitions.
use Rattle.std.specs.Prelude.{◌≡◌, ℕ, Bool, true, false, not, List, eqb, length, Ok, Err}
use Rattle.records.specs.Words.{none}
use Rattle.judge.specs.Judge.{at_lengths, at_buffers, at_records, at_nesting, at_conversion, Verdict, RefusedBy, Passed, Judged}

-- 'Rows one and two write nothing'
unfoldable pub writes_nothing : Verdict → Bool
writes_nothing (RefusedBy at_lengths e) = true
writes_nothing (RefusedBy at_buffers e) = true
writes_nothing (RefusedBy at_records e) = false
writes_nothing (RefusedBy at_nesting e) = false
writes_nothing (RefusedBy at_conversion e) = false
writes_nothing Passed = false

-- scratch keeps its length, and is as found where the rows write nothing. Past these rows each byte is the judge's own, and any: who calls clears it.
pub record JudgeKeeps (v : Verdict) (before after : List ℕ) : Type 0 where
  pub same : length after ≡ length before
  pub kept : writes_nothing v ≡ true → after ≡ before

-- the answer is a refusal with a place
unfoldable pub placed : Judged → Bool
placed (Ok _) = false
placed (Err e) = not (eqb e.place none)

-- the answer is a refusal without a place
unfoldable pub unplaced : Judged → Bool
unplaced (Ok _) = false
unplaced (Err e) = eqb e.place none
