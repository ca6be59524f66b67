-- What the call owes: its answer in document 01's words, the tables that a conversion leaves in the arena, and the promise itself, which is the
-- one definition of the call, the three demands and what is said of visits. Assumes nothing: these are definitions.
use Rattle.std.specs.Prelude.{◌≡◌, ℕ, ◌*◌, ◌≤◌, Bool, List, [], length, Result as StdResult, Ok, Err}
use Rattle.laws.specs.All.{All}
use Rattle.records.specs.Layout.{scratch_each}
use Rattle.records.specs.Words.{records}
use Rattle.records.specs.Answer.{words_of}
use Rattle.records.specs.declared.convert_error.ConvertError.{ConvertError}
use Rattle.syntax.specs.Decode.{program}
use Rattle.conversion.specs.ConvertError.{Result, ok, err}
use Rattle.conversion.specs.Ir.{IrProgram}
use Rattle.conversion.specs.Functions.{Pool}
use Rattle.conversion.specs.Converter.{convert_all, convert}
use Rattle.conversion.specs.Visits.{functions_visits}
use Rattle.conversion.specs.Written as Written
use Rattle.ir.specs.declared.structs.Counters.{Counters}
use Rattle.ir.specs.Arena.{NumberedTexts, arena_each, Holds, Room}
use Rattle.ir.specs.Cut as Cut
use Rattle.keys.specs.Keys.{all_keys}
use Rattle.judge.specs.Judge.{Buffers, cleared}
use Rattle.expressions.specs.Slots.{visits_at}
use Rattle.statements.specs.Lent.{Finished}
use Rattle.statements.specs.Meets.{texts_of}
use Rattle.functions.specs.Bodies.{begun}
use Rattle.tables.specs.Bytes.{Byte}
use Rattle.demands.specs.Call as Call
use Rattle.demands.specs.Call.{Calls}
use Rattle.demands.specs.Demands.{Demands}
use Rattle.converter.specs.declared.Counts.{Counts}

-- ---- while converting: all tables stand in the arena

-- the pool of a program
abbrev pub pool_of : IrProgram → Pool
pool_of p = record { strings = p.strings; floats = p.floats }

abbrev pub empty_pool : Pool
empty_pool = record { strings = []; floats = [] }

-- the definition's answer x is a program, whose tables stand in the arena
pub record ProgramStands (texts : NumberedTexts) (n : ℕ) (x : Result IrProgram) (k : Counters) (l : List ℕ) : Type 0 where
  pub result : IrProgram
  pub converts : x ≡ ok result
  pub records_are : k.records ≡ n
  pub room : Room k l
  pub holds : Holds texts (begun result.funcs (pool_of result)) k l

-- x is what the answer says: the program stands in the arena, and scratch has how many visits were made; or its error
pub record ConvertsTo (tree text : List ℕ) (x : Result IrProgram) (l s : List ℕ) (a : Finished) (l' s' : List ℕ) : Type 0 where
  pub long : length l' ≡ length l
  pub scratch_long : length s' ≡ length s
  pub gives : (k : Counters) → a ≡ Finished.Done k → ProgramStands (texts_of tree text) (records tree) x k l'
  pub visits : (k : Counters) → a ≡ Finished.Done k → visits_at tree s' ≡ functions_visits (records tree) (program tree text).functions
  pub stops : (e : ConvertError) → a ≡ Finished.Refused e → x ≡ err e.kind e.place

-- all functions, once they are found
abbrev pub all_functions : List ℕ → List ℕ → Result IrProgram
all_functions tree text = convert_all (program tree text) (all_keys tree text) (program tree text).functions [] empty_pool

abbrev pub AllConvertTo : List ℕ → List ℕ → List ℕ → List ℕ → Finished → List ℕ → List ℕ → Type 0
AllConvertTo tree text l s a l' s' = ConvertsTo tree text (all_functions tree text) l s a l' s'

-- the whole program
abbrev pub ProgramConvertsTo : List ℕ → List ℕ → Bool → List ℕ → List ℕ → Finished → List ℕ → List ℕ → Type 0
ProgramConvertsTo tree text needsMain l s a l' s' = ConvertsTo tree text (convert (program tree text) needsMain) l s a l' s'

-- no entry in any table
abbrev pub empty_counters : ℕ → Counters
empty_counters n = record { records = n; instructions = 0; variables = 0; labels = 0; functions = 0; strings = 0; floats = 0; instructions_before = 0; variables_before = 0; labels_before = 0 }

-- ---- the end: the tables are cut out, or all is zero

abbrev pub counts_in : Counters → ℕ → Counts
counts_in k visits = record {
  functions = k.functions;
  instructions = k.instructions;
  variables = k.variables;
  labels = k.labels;
  strings = k.strings;
  floats = k.floats;
  visits = visits;
}

-- the six outputs
abbrev pub outputs : List ℕ → List ℕ → List ℕ → List ℕ → List ℕ → List ℕ → Written.Tables
outputs instructions variables labels functions strings floats = record {
  instructions = instructions;
  variables = variables;
  labels = labels;
  functions = functions;
  strings = strings;
  floats = floats;
}

-- tables that were converted can be cut out of the arena, which is the instructions' buffer
pub record CutAfforded (done : Finished) (b : Written.Tables) : Type 0 where
  pub room : (k : Counters) → done ≡ Finished.Done k → Room k b.instructions
  pub lent : (k : Counters) → done ≡ Finished.Done k → Cut.FiveLong k.records b.variables b.labels b.functions b.strings b.floats

abbrev pub cleared_all : Written.Tables → Written.Tables
cleared_all b = outputs (cleared b.instructions) (cleared b.variables) (cleared b.labels) (cleared b.functions) (cleared b.strings) (cleared b.floats)

pub record SameTableLengths (b b' : Written.Tables) : Type 0 where
  pub instructions : length b'.instructions ≡ length b.instructions
  pub variables : length b'.variables ≡ length b.variables
  pub labels : length b'.labels ≡ length b.labels
  pub functions : length b'.functions ≡ length b.functions
  pub strings : length b'.strings ≡ length b.strings
  pub floats : length b'.floats ≡ length b.floats

pub record FinishesIn (done : Finished) (visits : ℕ) (a : StdResult Counts ConvertError) (b b' : Written.Tables) : Type 0 where
  pub long : SameTableLengths b b'
  pub converted : (k : Counters) → done ≡ Finished.Done k → (a ≡ Ok (counts_in k visits))
      × Cut.Cut k b.instructions b'.instructions b'.variables b'.labels b'.functions b'.strings b'.floats
  pub refused : (e : ConvertError) → done ≡ Finished.Refused e → (a ≡ Err e) × (b' ≡ cleared_all b)

-- the seven buffers are as long as document 01 lends them
pub record SevenLong (n : ℕ) (b : Buffers) : Type 0 where
  pub arena : arena_each * n ≤ length b.instructions
  pub tables : Cut.FiveLong n b.variables b.labels b.functions b.strings b.floats
  pub scratch : scratch_each * n ≤ length b.scratch

-- ---- the answer

-- how many entries each table has
abbrev pub counts_from : Counts → Written.Counts
counts_from c = record {
  functions = c.functions;
  instructions = c.instructions;
  variables = c.variables;
  labels = c.labels;
  strings = c.strings;
  floats = c.floats;
}

-- 'An answer is the number, place and the record's span, or six counts', and the visits behind them
unfoldable pub answer_from : List ℕ → StdResult Counts ConvertError → Call.Answer
unfolding words_of
answer_from tree (Ok c) = Call.Counted (counts_from c) c.visits
answer_from tree (Err e) = Call.Refusal (words_of tree e)

-- THE PROMISE: a tree is bytes; the answer and each byte of the seven buffers are those of the one definition of the call; and with it
-- the three demands hold, with what is said of visits, the third for runs over natural numbers (over every type of values: `promised_everywhere` in proofs/Everywhere.antt)
pub record Promised (tree text : List ℕ) (needsMain : Bool) (before : Buffers) (answer : StdResult Counts ConvertError) (after : Buffers) : Type 0 where
  pub bytes : All Byte tree
  pub calls : Calls tree text needsMain before (answer_from tree answer) after
  pub demands : Demands ℕ tree text needsMain before (answer_from tree answer) after
