-- THE CALL, whole: document 01's table row by row, and what each of the seven buffers holds afterwards. Any bytes of tree and text, `main`
-- needed or not, and buffers of any length. Assumes nothing: these are definitions.
--   checked at    number       given when                 place                      the seven buffers
--   lengths       24           not `lengths_ok`            none                       as found
--   buffers       26           not `buffers_ok`            none                       as found
--   records       24           `lowest_fault`              that record                zero
--   nesting       25           `lowest_deep`               that record                zero
--   conversion    1 to 23, 27  `convert` gives an error   its record; NoMain none    zero
--   no row        seven counts `convert` gives bodies                                each table, then zeros; scratch zero
-- Each line is a theorem of proofs/Rows.antt and proofs/Demands.antt.
use Rattle.std.specs.Prelude.{◌≡◌, ℕ, Bool, List, length}
use Rattle.laws.specs.Splice.{filled}
use Rattle.records.specs.Words.{records}
use Rattle.records.specs.Answer.{words_of}
use Rattle.records.specs.declared.convert_error.AnswerWords.{AnswerWords}
use Rattle.syntax.specs.Decode.{program}
use Rattle.conversion.specs.Visits.{visits}
use Rattle.conversion.specs.Written.{Counts, Tables, Conversion, Refused, Converted, conversion}
use Rattle.judge.specs.Judge.{Buffers, buffers, TableRow, at_conversion, Verdict, RefusedBy, Passed, verdict_in, refusal_leaves, cleared}

-- ---- the answer

-- what a call comes to: the row that refuses, with number, place and span; or seven counts, those of the six tables and the visits, with what the
-- tables hold
pub data CallOutcome : Type 0 where
  RefusedAt : TableRow → AnswerWords → CallOutcome
  Success : Counts → ℕ → Tables → CallOutcome

-- document 02, point 9: 'their total, a seventh count in the answer', of the program that the tree stands for
abbrev pub visits_in : List ℕ → List ℕ → ℕ
visits_in tree text = visits (records tree) (program tree text).functions

-- 'conversion | 1 to 23', 'conversion | 27': 'in conversion, the first met in the Rust's order'; and no row applies. A refusal has no count
unfoldable pub conversion_row : ℕ → Conversion → CallOutcome
conversion_row seventh (Refused words) = RefusedAt at_conversion words
conversion_row seventh (Converted counts tables) = Success counts seventh tables

-- rows 'lengths', 'buffers', 'records' and 'nesting'; a tree that passes them comes to the next rows
unfoldable pub judged_rows : List ℕ → Verdict → CallOutcome → CallOutcome
unfolding words_of
judged_rows tree (RefusedBy row e) next = RefusedAt row (words_of tree e)
judged_rows tree Passed next = next

-- 'The first row that applies wins'
unfoldable pub call_of : List ℕ → List ℕ → Bool → Buffers → CallOutcome
unfolding judged_rows verdict_in conversion_row conversion visits
call_of tree text needsMain before = judged_rows tree (verdict_in tree text before) (conversion_row (visits_in tree text) (conversion tree text needsMain))

-- 'An answer is the number, place and the record's span .., or six counts', and the seventh behind them
pub data Answer : Type 0 where
  Refusal : AnswerWords → Answer
  Counted : Counts → ℕ → Answer

unfoldable pub answer_of : CallOutcome → Answer
answer_of (RefusedAt row words) = Refusal words
answer_of (Success counts seventh tables) = Counted counts seventh

-- ---- the buffers

-- 'Rows one and two write nothing. Every other refusal leaves all outputs and scratch zero' (`refusal_leaves`).
-- 'Success leaves scratch and unused output bytes zero': each buffer has its table, and zeros to its end.
unfoldable pub buffers_after : CallOutcome → Buffers → Buffers
unfolding refusal_leaves filled
buffers_after (RefusedAt row words) b =
    buffers
    (refusal_leaves row b.instructions)
    (refusal_leaves row b.variables)
    (refusal_leaves row b.labels)
    (refusal_leaves row b.functions)
    (refusal_leaves row b.strings)
    (refusal_leaves row b.floats)
    (refusal_leaves row b.scratch)
buffers_after (Success counts seventh tables) b =
    buffers
    (filled tables.instructions (length b.instructions))
    (filled tables.variables (length b.variables))
    (filled tables.labels (length b.labels))
    (filled tables.functions (length b.functions))
    (filled tables.strings (length b.strings))
    (filled tables.floats (length b.floats))
    (cleared b.scratch)

-- ---- the relation that a call is held to: its answer, and each byte of the seven buffers afterwards

pub record Calls (tree text : List ℕ) (needsMain : Bool) (before : Buffers) (answer : Answer) (after : Buffers) : Type 0 where
  pub answers : answer ≡ answer_of (call_of tree text needsMain before)
  pub leaves : after ≡ buffers_after (call_of tree text needsMain before) before
