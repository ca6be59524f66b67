-- Document 01's table, rows 'lengths', 'buffers', 'records' and 'nesting': which answer a tree gets before it is converted, and
-- what each lent buffer holds afterwards. Assumes nothing: these are definitions.
use Rattle.std.specs.Prelude.{ℕ, ◌*◌, ◌%◌, Bool, not, ◌&&◌, List, eqb, leb, ltb, length, replicate, Result, Ok, Err}
use Rattle.std.proofs.Math.Option.{Option, none as nothing, some}
use Rattle.laws.specs.Fix.{pick}
use Rattle.laws.specs.Below.{lowest}
use Rattle.records.specs.Words.{record_bytes, records, most_records, none}
use Rattle.records.specs.Rules.{record_ok}
use Rattle.records.specs.Depth.{depth}
use Rattle.records.specs.declared.convert_error.ConvertErrorKind.{ConvertErrorKind}
use Rattle.records.specs.declared.convert_error.ConvertErrorKind.TheVariants.{BadTree, TooDeep, ShortBuffer}
use Rattle.records.specs.declared.convert_error.ConvertError.{ConvertError}
use Rattle.judge.specs.declared.Lengths.{Lengths}

-- 'tree not a multiple of 32, under 12 or over 16,384 records'
abbrev pub fewest_records : ℕ
fewest_records = 12

unfoldable pub lengths_ok : ℕ → Bool
lengths_ok bytes = eqb (bytes % record_bytes) 0 && leb (fewest_records * record_bytes) bytes && leb bytes (most_records * record_bytes)

-- 'With n records the outputs need: instructions 320n bytes, variables 12n, labels 24n, functions 32n, strings 8n, floats 32n, and scratch 64n'; document 02, point 9: 'Scratch grows to 72n bytes, for 26 too'
unfoldable pub buffers_ok : ℕ → Lengths → ℕ → Bool
buffers_ok n l scratch =
    leb (320 * n) l.instructions
    && leb (12 * n) l.variables
    && leb (24 * n) l.labels
    && leb (32 * n) l.functions
    && leb (8 * n) l.strings
    && leb (32 * n) l.floats
    && leb (72 * n) scratch

-- the seven buffers that a caller lends: six outputs and scratch
pub record Buffers : Type 0 where
  pub instructions : List ℕ
  pub variables : List ℕ
  pub labels : List ℕ
  pub functions : List ℕ
  pub strings : List ℕ
  pub floats : List ℕ
  pub scratch : List ℕ

abbrev pub buffers : List ℕ → List ℕ → List ℕ → List ℕ → List ℕ → List ℕ → List ℕ → Buffers
buffers instructions variables labels functions strings floats scratch =
    record {
      instructions = instructions;
      variables = variables;
      labels = labels;
      functions = functions;
      strings = strings;
      floats = floats;
      scratch = scratch;
    }

-- how long the six outputs are
abbrev pub lengths_of : Buffers → Lengths
lengths_of b =
    record {
      instructions = length b.instructions;
      variables = length b.variables;
      labels = length b.labels;
      functions = length b.functions;
      strings = length b.strings;
      floats = length b.floats;
    }

-- 'a record breaks a rule above or its text leaves the buffer': the 'lowest such record'
unfoldable pub lowest_fault : List ℕ → List ℕ → Option ℕ
unfolding lowest record_ok
lowest_fault tree text = lowest (records tree) (λ r. not (record_ok tree text r))

-- 'a record is deeper than 64': the 'lowest such record'
abbrev pub deepest_allowed : ℕ
deepest_allowed = 64

unfoldable pub lowest_deep : List ℕ → Option ℕ
unfolding lowest depth
lowest_deep tree = lowest (records tree) (λ r. ltb deepest_allowed (depth tree r))

-- ---- the rows

-- the table's rows, by where they are checked
pub data TableRow : Type 0 where
  at_lengths : TableRow
  at_buffers : TableRow
  at_records : TableRow
  at_nesting : TableRow
  at_conversion : TableRow

-- the row that refuses, with kind and place; or the first four rows are passed
pub data Verdict : Type 0 where
  RefusedBy : TableRow → ConvertError → Verdict
  Passed : Verdict

unfoldable pub refused_by : TableRow → ConvertErrorKind → ℕ → Verdict
refused_by row kind place = RefusedBy row (record { kind = kind; place = place })

-- a row whose place is the 'lowest such record'; where there is none, the rows after it
unfoldable pub at_lowest : TableRow → ConvertErrorKind → Option ℕ → Verdict → Verdict
unfolding refused_by
at_lowest row kind (some r) next = refused_by row kind r
at_lowest row kind nothing next = next

unfoldable pub records_verdict : List ℕ → List ℕ → Verdict
unfolding at_lowest lowest_fault lowest_deep
records_verdict tree text =
    at_lowest at_records BadTree (lowest_fault tree text)
    (at_lowest at_nesting TooDeep (lowest_deep tree)
    Passed)

-- 'The first row that applies wins'; `l` and `scratch` are how long the lent buffers are
unfoldable pub verdict : List ℕ → List ℕ → Lengths → ℕ → Verdict
unfolding pick lengths_ok buffers_ok records_verdict refused_by
verdict tree text l scratch =
    pick (not (lengths_ok (length tree))) (refused_by at_lengths BadTree none)
    (pick (not (buffers_ok (records tree) l scratch)) (refused_by at_buffers ShortBuffer none)
    (records_verdict tree text))

-- what the judge answers: a tree is accepted, or refused with an error
abbrev pub Judged : Type 0
Judged = Result (Unit {0}) ConvertError

unfoldable pub judged_by : Verdict → Judged
judged_by (RefusedBy row e) = Err e
judged_by Passed = Ok tt

unfoldable pub judged : List ℕ → List ℕ → Lengths → ℕ → Judged
unfolding judged_by verdict
judged tree text l scratch = judged_by (verdict tree text l scratch)

-- ---- what each buffer holds afterwards

-- as many zeros as the buffer has bytes
abbrev pub cleared : List ℕ → List ℕ
cleared buffer = replicate (length buffer) 0

-- 'Rows one and two write nothing. Every other refusal leaves all outputs and scratch zero'
unfoldable pub refusal_leaves : TableRow → List ℕ → List ℕ
refusal_leaves at_lengths buffer = buffer
refusal_leaves at_buffers buffer = buffer
refusal_leaves at_records buffer = cleared buffer
refusal_leaves at_nesting buffer = cleared buffer
refusal_leaves at_conversion buffer = cleared buffer

-- a tree that passes leaves the outputs as found, for the conversion to write, and scratch zero
unfoldable pub output_after : Verdict → List ℕ → List ℕ
unfolding refusal_leaves
output_after (RefusedBy row e) buffer = refusal_leaves row buffer
output_after Passed buffer = buffer

unfoldable pub scratch_after : Verdict → List ℕ → List ℕ
unfolding refusal_leaves
scratch_after (RefusedBy row e) buffer = refusal_leaves row buffer
scratch_after Passed buffer = cleared buffer

-- ---- over the seven lent buffers

unfoldable pub verdict_in : List ℕ → List ℕ → Buffers → Verdict
unfolding verdict
verdict_in tree text b = verdict tree text (lengths_of b) (length b.scratch)

unfoldable pub judged_in : List ℕ → List ℕ → Buffers → Judged
unfolding judged_by verdict_in
judged_in tree text b = judged_by (verdict_in tree text b)

unfoldable pub verdict_leaves : Verdict → Buffers → Buffers
unfolding output_after scratch_after
verdict_leaves v b =
    buffers
    (output_after v b.instructions)
    (output_after v b.variables)
    (output_after v b.labels)
    (output_after v b.functions)
    (output_after v b.strings)
    (output_after v b.floats)
    (scratch_after v b.scratch)

unfoldable pub judge_leaves : List ℕ → List ℕ → Buffers → Buffers
unfolding verdict_leaves verdict_in
judge_leaves tree text b = verdict_leaves (verdict_in tree text b) b
