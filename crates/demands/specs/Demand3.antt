-- Demand 3 on bytes, 'as one claim about whole runs, not steps'. Assumes nothing: these are definitions.
-- What a reader has to believe for it, in reading order: specs of records (Words, Shapes, Rules, Good: the form of a tree), of syntax (Syntax,
-- Decode: what it stands for), of conversion (ConvertError, Ir, Types, Scope, Expressions, Statements, Functions, Converter: typing and
-- conversion; Written: the bytes), of runs (Rule, TreeRun, BodyRun, Shared: both runs), of tables (Bytes, Read: what bytes say), and this file.
use Rattle.std.specs.Prelude.{◌≡◌, ℕ, Bool, List, [], length}
use Rattle.std.proofs.Math.Option.{some}
use Rattle.std.proofs.Math.ListN.{get_elem?}
use Rattle.laws.specs.All.{All}
use Rattle.records.specs.Good.{Good}
use Rattle.syntax.specs.Syntax.{Block, Function}
use Rattle.syntax.specs.Decode.{program}
use Rattle.conversion.specs.ConvertError.{ok}
use Rattle.conversion.specs.Expressions.{Functions}
use Rattle.conversion.specs.Functions.{get_all_functions}
use Rattle.conversion.specs.Written.{Counts, Tables, Converted, conversion}
use Rattle.tables.specs.Bytes.{Byte}
use Rattle.tables.specs.Read as Read
use Rattle.tables.specs.Read.{Begin, body_at}
use Rattle.runs.specs.Rule.{Rule, Answers, asked}
use Rattle.runs.specs.TreeRun.{tree_run}
use Rattle.runs.specs.BodyRun.{FlatBody, Vars, body_run}
use Rattle.runs.specs.Shared.{Shared, SameRuns, InPlace}

-- what a run takes of a body that was read from bytes; the return type is that of the function in the tree
unfoldable pub runnable : Function → Read.ReadBody → FlatBody
runnable f b = record { instrs = b.instrs; result = f.return_type; strings = b.strings; floats = b.floats }

-- what is found and read for f, the i-th function of the tree: the buffers t say a body for it
pub record BodySaid (tree text : List ℕ) (c : Counts) (t : Tables) (i : ℕ) (f : Function) : Type 0 where
  -- the functions that a call is looked for among, as `get_all_functions` keeps them
  pub functions : Functions
  pub found : get_all_functions (program tree text).functions [] ≡ ok functions
  -- the i-th body, read from bytes, is that of f's record
  pub body : Read.ReadBody
  pub reads : body_at c t text i ≡ some body
  pub same : body.func ≡ f.rec_of

-- with the body b in the tree and the one that the buffers say, 'running the tree and running the body show the same calls in the same order with
-- the same arguments, and end alike', for every rule over W, whoever answers calls, all parameters' values vs and 'anything in other variables'
pub record RunsAlike (W : Type 0) (tree text : List ℕ) (c : Counts) (t : Tables) (i : ℕ) (f : Function) (b : Block) : Type 0 where
  pub said : BodySaid tree text c t i f
  pub shared : (R : Rule W) (A : Answers W) (vs : List W) (ρ : Vars W) → length vs ≡ length f.params → InPlace vs ρ
      → Shared (tree_run (program tree text) said.functions f R A b vs) (body_run R A (runnable f said.body) ρ) f.return_type

-- the same where the rule itself answers calls: the claim as document 01 has it
pub record AnsweredByRule (W : Type 0) (tree text : List ℕ) (c : Counts) (t : Tables) (i : ℕ) (f : Function) (b : Block) : Type 0 where
  pub said : BodySaid tree text c t i f
  pub shared : (R : Rule W) (vs : List W) (ρ : Vars W) → length vs ≡ length f.params → InPlace vs ρ
      → SameRuns (tree_run (program tree text) said.functions f R (asked R) b vs) (body_run R (asked R) (runnable f said.body) ρ) f.return_type

-- the tree is good and conversion answers the counts c and the tables w: then of all buffers t that begin with those tables, and of every
-- function with a body
abbrev pub OfConverted : (List ℕ → List ℕ → Counts → Tables → ℕ → Function → Block → Type 0) → Type 0
OfConverted claim = (tree text : List ℕ) (needsMain : Bool) → All Byte tree → Good tree text
    → (c : Counts) (w t : Tables) → conversion tree text needsMain ≡ Converted c w → Begin w t
    → (i : ℕ) (f : Function) (b : Block) → get_elem? (program tree text).functions i ≡ some f → f.body ≡ some b
    → claim tree text c t i f b

-- over values of every type; a contract cites `RunsAlike` at one
abbrev pub Demand3 : Type 1
Demand3 = (W : Type 0) → OfConverted (RunsAlike W)

abbrev pub Demand3ByRule : Type 1
Demand3ByRule = (W : Type 0) → OfConverted (AnsweredByRule W)
