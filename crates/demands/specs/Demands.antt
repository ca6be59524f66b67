-- THE DEMANDS, together. A run of the call takes a tree, a text, whether `main` is needed and seven buffers, and gives an answer and the
-- buffers afterwards. What its contract says of them is `Calls` (Call.antt); the three demands, and what document 02 asks of visits, are what follows for
-- every such run (`every_call` of proofs/Demands.antt), and what keeps the first two is such a run (`page_calls`). Assumes nothing: these are definitions.
-- What must be believed below this page, in reading order:
--   laws: Fix, Below; records: Words, Kinds, Shapes, Rules, Depth, Answer, Good: the form of a tree, and a refusal's number, place and span;
--   judge: Judge: the rows 'lengths', 'buffers', 'records' and 'nesting', and what a row that refuses leaves of a buffer;
--   syntax: Syntax, Decode: what a tree stands for; int128: Ops;
--   conversion: ConvertError, Ir, Types, Scope, Expressions, Statements, Functions, Converter: what the Rust makes of it; Written: as bytes;
--   laws: All, Different; syntax: Exprs; conversion: Visits: which expression records are typed, and how many different ones;
--   Call: the whole call; for demand 3 also tables: Bytes, Read; runs: Rule, TreeRun, BodyRun, Shared: the two runs; and Demand3.
use Rattle.std.specs.Prelude.{◌≡◌, ℕ, ◌≤◌, Bool, true, false, List, length}
use Rattle.std.proofs.Math.Option.{none as nothing, some}
use Rattle.std.proofs.Math.ListN.{get_elem?}
use Rattle.laws.specs.All.{All}
use Rattle.laws.specs.Splice.{filled}
use Rattle.records.specs.Words.{records, none}
use Rattle.records.specs.Answer.{words_of}
use Rattle.records.specs.declared.convert_error.ConvertErrorKind.{ConvertErrorKind}
use Rattle.records.specs.declared.convert_error.AnswerWords.{AnswerWords}
use Rattle.judge.specs.Judge.{lengths_ok, buffers_ok, Buffers, buffers, lengths_of, lowest_fault, lowest_deep, cleared}
use Rattle.syntax.specs.Syntax.{Block, Function}
use Rattle.syntax.specs.Exprs.{expression_records}
use Rattle.syntax.specs.Decode.{program}
use Rattle.conversion.specs.ConvertError.{ok, err}
use Rattle.conversion.specs.Ir.{IrProgram}
use Rattle.conversion.specs.Converter.{convert}
use Rattle.conversion.specs.Visits.{visits, body_visits, functions_visits}
use Rattle.conversion.specs.Written.{Counts, Tables, tables_of, counts_of}
use Rattle.tables.specs.Bytes.{Byte}
use Rattle.demands.specs.Call.{Answer, Refusal, Counted, visits_in, Calls}
use Rattle.demands.specs.Demand3.{RunsAlike}

-- ---- DEMAND 1: 'Every input gets a sound answer. Bad trees, short buffers and forms that make the Rust panic are refused by number and
-- place, and each refusal leaves the outputs untouched or all zero.'

abbrev pub all_zero : Buffers → Buffers
all_zero b =
    buffers
    (cleared b.instructions)
    (cleared b.variables)
    (cleared b.labels)
    (cleared b.functions)
    (cleared b.strings)
    (cleared b.floats)
    (cleared b.scratch)

-- 'the record's span (0, 0 for 24 to 26 and NoMain)'
abbrev pub spanless : ℕ → ℕ → AnswerWords
spanless number place = record { number = number; place = place; start = 0; end = 0 }

-- rows one and two are passed
pub record PastBuffers (tree : List ℕ) (before : Buffers) : Type 0 where
  pub whole : lengths_ok (length tree) ≡ true
  pub room : buffers_ok (records tree) (lengths_of before) (length before.scratch) ≡ true

-- 'Within the stated limits': the first four rows are passed
pub record InLimits (tree text : List ℕ) (before : Buffers) : Type 0 where
  pub lent : PastBuffers tree before
  pub rules : lowest_fault tree text ≡ nothing
  pub shallow : lowest_deep tree ≡ nothing

-- 'The first row that applies wins'
pub record ByRows (tree text : List ℕ) (before : Buffers) (answer : Answer) (after : Buffers) : Type 0 where
  pub by_lengths : lengths_ok (length tree) ≡ false → (answer ≡ Refusal (spanless 24 none)) × (after ≡ before)
  pub by_buffers : lengths_ok (length tree) ≡ true → buffers_ok (records tree) (lengths_of before) (length before.scratch) ≡ false
      → (answer ≡ Refusal (spanless 26 none)) × (after ≡ before)
  pub by_records : PastBuffers tree before → (r : ℕ) → lowest_fault tree text ≡ some r → (answer ≡ Refusal (spanless 24 r)) × (after ≡ all_zero before)
  pub by_nesting : PastBuffers tree before → lowest_fault tree text ≡ nothing → (r : ℕ) → lowest_deep tree ≡ some r
      → (answer ≡ Refusal (spanless 25 r)) × (after ≡ all_zero before)

pub data Left (before after : Buffers) : Type 0 where
  untouched : after ≡ before → Left before after
  zeroed : after ≡ all_zero before → Left before after

-- no buffer grows or shrinks: 'These sizes always suffice, which is proved'
pub record SameLengths (before after : Buffers) : Type 0 where
  pub instructions : length after.instructions ≡ length before.instructions
  pub variables : length after.variables ≡ length before.variables
  pub labels : length after.labels ≡ length before.labels
  pub functions : length after.functions ≡ length before.functions
  pub strings : length after.strings ≡ length before.strings
  pub floats : length after.floats ≡ length before.floats
  pub scratch : length after.scratch ≡ length before.scratch

-- whatever the answer
pub record Sound (before : Buffers) (answer : Answer) (after : Buffers) : Type 0 where
  pub lengths : SameLengths before after
  -- a refusal has a number of document 01's
  pub numbered : (words : AnswerWords) → answer ≡ Refusal words → (1 ≤ words.number) × (words.number ≤ 27)
  pub left : (words : AnswerWords) → answer ≡ Refusal words → Left before after
  pub converted : (counts : Counts) (seventh : ℕ) → answer ≡ Counted counts seventh → after.scratch ≡ cleared before.scratch

-- ---- DEMAND 2: 'Within the stated limits Krc's Rust decides which trees convert, to which bodies, else which error at which place.'

-- `convert` is the Rust's `Converter::convert`, of the program that the tree stands for; where requests amend it docs/DIFFERENCES.md says how
pub record AsTheRust (tree text : List ℕ) (needsMain : Bool) (before : Buffers) (answer : Answer) (after : Buffers) : Type 0 where
  pub bodies : (p : IrProgram) → convert (program tree text) needsMain ≡ ok p → (answer ≡ Counted (counts_of p) (visits_in tree text))
      × (after ≡ buffers
      (filled (tables_of p).instructions (length before.instructions))
      (filled (tables_of p).variables (length before.variables))
      (filled (tables_of p).labels (length before.labels))
      (filled (tables_of p).functions (length before.functions))
      (filled (tables_of p).strings (length before.strings))
      (filled (tables_of p).floats (length before.floats))
      (cleared before.scratch))
  pub error : (kind : ConvertErrorKind) (place : ℕ) → convert (program tree text) needsMain ≡ err kind place
      → (answer ≡ Refusal (words_of tree (record { kind = kind; place = place }))) × (after ≡ all_zero before)

-- ---- DEMAND 3: 'For every function with a body, running the tree and running the body show the same calls in the same order with the same
-- arguments, and end alike.'

-- the six outputs
abbrev pub outputs_of : Buffers → Tables
outputs_of b = record {
  instructions = b.instructions;
  variables = b.variables;
  labels = b.labels;
  functions = b.functions;
  strings = b.strings;
  floats = b.floats;
}

-- what the buffers say afterwards is what is run, over values of type W
abbrev pub AllRunAlike : Type 0 → List ℕ → List ℕ → Counts → Buffers → Type 0
AllRunAlike W tree text counts after = (i : ℕ) (f : Function) (b : Block) → get_elem? (program tree text).functions i ≡ some f → f.body ≡ some b
    → RunsAlike W tree text counts (outputs_of after) i f b

-- ---- VISITS, document 02, point 9: 'For a function whose tree holds e such records, the visits shall be at most e; their total, a seventh count in the
-- answer, unprinted, is the number of those that the Rust, as amended, types at least once.' On a refusal there is no count. `body_visits` are those that
-- `convert_func` makes, which its contract says with the bound (`FunctionVisited` in functions/specs/Bodies.antt); `visits` speaks of no code. That the
-- sum over statements (`total`) is the number of different records (`typed`) says that no record is visited twice.

pub record VisitsCounted (tree text : List ℕ) (seventh : ℕ) : Type 0 where
  pub at_most : All (λ f. body_visits (records tree) f.body ≤ expression_records (records tree) f) (program tree text).functions
  pub total : seventh ≡ functions_visits (records tree) (program tree text).functions
  pub typed : seventh ≡ visits (records tree) (program tree text).functions

-- ---- all of them, of every run of the call; a contract cites them at one type of values (ℕ: over an empty one nothing is said),
-- and they hold over every one

pub record Demands (W : Type 0) (tree text : List ℕ) (needsMain : Bool) (before : Buffers) (answer : Answer) (after : Buffers) : Type 0 where
  pub demand1 : Sound before answer after × ByRows tree text before answer after
  pub demand2 : InLimits tree text before → AsTheRust tree text needsMain before answer after
  pub demand3 : All Byte tree → (counts : Counts) (seventh : ℕ) → answer ≡ Counted counts seventh → AllRunAlike W tree text counts after
  pub visits_counted : (counts : Counts) (seventh : ℕ) → answer ≡ Counted counts seventh → VisitsCounted tree text seventh

abbrev pub OfEveryCall : Type 1
OfEveryCall = (W : Type 0) (tree text : List ℕ) (needsMain : Bool) (before : Buffers) (answer : Answer) (after : Buffers)
    → Calls tree text needsMain before answer after → Demands W tree text needsMain before answer after
