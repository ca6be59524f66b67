-- Demand 3 on bytes, at document 01's marked case 1: a tree of bytes, its tables at the beginning of longer buffers, and both runs from there.
-- By computing: the tree is good and converts, the buffers say its body, and the runs end as they must. Assumes nothing.
use mathlib.Core.Path.{◌≡◌, refl}
use Prim.Native.Nat.{ℕ}
use mathlib.Core.Bool.{Bool, true, false, ◌&&◌}
use mathlib.Core.List.{List, [], ◌∷◌, ◌++◌}
use mathlib.Core.Option.{Option, none as nothing, some}
use native.Mathlib.Omega.{arith}
use lib.Dec.{ltb}
use lib.ListN.{length, get_or, get_elem?}
use borrow.Author.Tests.{ltb-true}
use Rattle.laws.specs.All.{All}
use Rattle.laws.specs.Below.{all_below}
use Rattle.laws.proofs.Tests.{and_left, and_right}
use Rattle.laws.proofs.AllBelow.{all-at}
use Rattle.records.specs.Words.{none, records}
use Rattle.records.specs.Rules.{record_ok}
use Rattle.records.specs.Good.{Good}
use Rattle.syntax.specs.Syntax.{And, EName, EBinary, SReturn, Block, done, next, Function}
use Rattle.syntax.specs.Decode.{program}
use Rattle.conversion.specs.ConvertError.{Result, ok, err}
use Rattle.conversion.specs.Ir.{VarId, OVar, Copy, Label, JumpIfNot, Return, Comment, logic_rhs, logic_end}
use Rattle.conversion.specs.Expressions.{Functions, get_type, common_type, unwrap_or}
use Rattle.conversion.specs.Functions.{get_all_functions}
use Rattle.conversion.specs.Written.{Counts, Tables, Conversion, Refused, Converted, conversion}
use Rattle.conversion.proofs.Trees.{row, types, text}
use Rattle.tables.specs.Bytes.{Byte}
use Rattle.tables.specs.Read as Read
use Rattle.tables.specs.Read.{Begin, body_at}
use Rattle.runs.specs.Rule.{asked, content, literal_type, read, returns}
use Rattle.runs.specs.TreeRun as Tree
use Rattle.runs.specs.TreeRun.{Ran, tree_run, parameters_known, parameter_values, set, run_statement, bind_s, bind_o, give_back, eval_expr, typed, scope_of, eval_binary, eval_and, to_bool, answered, bind_g, test, bare, fit, fit_literal, fit_computed, known_after}
use Rattle.runs.specs.BodyRun.{Spot, body_run, steps, step, fetch, execute, put_to, jump_to, branch_to, finish_with, operand, datum, write, one_on, label_place, is_label}
use Rattle.runs.specs.Shared.{end_t, end_b}
use Rattle.runs.proofs.Alike.{rule, number, compute, answer}
use Rattle.demands.specs.Demand3.{runnable, RunsAlike}
use Rattle.demands.proofs.Demand3.{good-demand3}

-- p and q, Bool parameters, returned as `p and q`: the records behind the twelve first types
unfoldable pub tree : List ℕ
unfolding types row
tree = types
    ++ row 24 0 0 1 6 0 0
    ++ row 24 0 1 1 6 0 0
    ++ row 12 0 13 none 0 0 0
    ++ row 12 0 12 14 0 0 0
    ++ row 6 0 0 1 0 0 0
    ++ row 6 0 1 1 0 0 0
    ++ row 10 1 16 17 0 0 0
    ++ row 17 0 18 0 0 0 0
    ++ row 12 0 19 none 0 0 0
    ++ row 6 0 2 3 0 0 0
    ++ row 6 0 2 3 0 0 0
    ++ row 25 4 21 22 15 6 20

pub tree_whole : length tree ≡ 768
unfolding tree
tree_whole = refl

pub tree_good : all_below 24 (λ r. record_ok tree text r) ≡ true
unfolding tree all_below record_ok text
tree_good = refl

-- ---- the tree is good

small : List ℕ → Bool
small [] = true
small (n ∷ l) = ltb n 256 && small l

small_bytes : (l : List ℕ) → small l ≡ true → All Byte l
unfolding small
small_bytes [] e = tt
small_bytes (n ∷ l) e = (ltb-true n 256 (and_left (ltb n 256) (small l) e), small_bytes l (and_right (ltb n 256) (small l) e))

tree_small : small tree ≡ true
unfolding tree small
tree_small = refl

tree_records : records tree ≡ 24
unfolding tree
tree_records = refl

good : Good tree text
good = record {
  whole = rw tree_records tree_whole;
  few = rw tree_records (omega arith);
  ok = λ r h. all-at (λ r. record_ok tree text r) 24 r tree_good (rw tree_records at h);
}

-- ---- it converts

unfoldable pub counted : Conversion → Counts
counted (Refused words) = record { functions = 0; instructions = 0; variables = 0; labels = 0; strings = 0; floats = 0 }
counted (Converted c w) = c

unfoldable pub written : Conversion → Tables
written (Refused words) = record { instructions = []; variables = []; labels = []; functions = []; strings = []; floats = [] }
written (Converted c w) = w

abbrev pub counts : Counts
counts = counted (conversion tree text false)

abbrev pub tables : Tables
tables = written (conversion tree text false)

converts : conversion tree text false ≡ Converted counts tables
unfolding tree text counted written conversion
converts = refl

-- the tables with other bytes behind them
unfoldable pub behind : List ℕ
behind = 255 ∷ 7 ∷ 0 ∷ 1 ∷ []

unfoldable pub buffers : Tables
unfolding behind
buffers = record {
  instructions = tables.instructions ++ behind;
  variables = tables.variables ++ behind;
  labels = tables.labels ++ behind;
  functions = tables.functions ++ behind;
  strings = tables.strings ++ behind;
  floats = tables.floats ++ behind;
}

begins : Begin tables buffers
unfolding buffers
begins = record {
  instructions = record { rest = behind; same = refl };
  variables = record { rest = behind; same = refl };
  labels = record { rest = behind; same = refl };
  functions = record { rest = behind; same = refl };
  strings = record { rest = behind; same = refl };
  floats = record { rest = behind; same = refl };
}

-- ---- what the buffers say

unfoldable pub bool : ℕ → VarId
bool i = record { id = i; ty = 6 }

unfoldable pub said : Read.ReadBody
unfolding bool
said = record {
  func = 23;
  instrs = Comment 19 ∷ Copy (bool 2) (OVar (bool 0)) ∷ JumpIfNot (OVar (bool 2)) 1 ∷ Copy (bool 2) (OVar (bool 1)) ∷ Label 1 ∷ Return (OVar (bool 2)) ∷ [];
  vars = 6 ∷ 6 ∷ 6 ∷ [];
  labels = logic_rhs 18 ∷ logic_end 18 ∷ [];
  strings = [];
  floats = [];
}

pub says : body_at counts buffers text 0 ≡ some said
unfolding tree text counted written conversion buffers body_at said
says = refl

-- ---- the function of the tree, and the claim of it

unfoldable pub body : Block
body = next (SReturn 19 (EBinary 18 And (EName 16 (112 ∷ [])) (EName 17 (113 ∷ [])))) done

unfoldable pub function : Function
unfolding body
function = record {
  rec_of = 23;
  name = 0xEA ∷ 0xB0 ∷ 0x80 ∷ [];
  mangled_name = 0xEA ∷ 0xB0 ∷ 0x80 ∷ [];
  return_type = some 6;
  params = record { rec_of = 12; name = 112 ∷ []; ty = 6 } ∷ record { rec_of = 13; name = 113 ∷ []; ty = 6 } ∷ [];
  variadic = false;
  body = some body;
  external = false;
}

first : get_elem? (program tree text).functions 0 ≡ some function
unfolding tree text program function
first = refl

pub on-bytes : (W : Type 0) → RunsAlike W tree text counts buffers 0 function body
unfolding function
on-bytes W = good-demand3 W tree text false (small_bytes tree tree_small) good counts tables buffers converts begins 0 function body first refl

-- ---- both runs, computed: from the tree, and from what the buffers say

unfoldable pub functions_of : Result Functions → Functions
functions_of (ok F) = F
functions_of (err k r) = []

unfoldable pub read_body : Option Read.ReadBody → Read.ReadBody
read_body nothing = record { func = 0; instrs = []; vars = []; labels = []; strings = []; floats = [] }
read_body (some b) = b

unfoldable pub tree_with : ℕ → ℕ → ℕ → Ran ℕ
unfolding tree text program function body functions_of get_all_functions get_type common_type unwrap_or rule number compute answer asked tree_run parameters_known parameter_values set run_statement bind_s bind_o give_back eval_expr typed scope_of Tree.known_variables eval_binary eval_and to_bool answered bind_g test read literal_type content bare fit fit_literal fit_computed known_after
tree_with p q = tree_run (program tree text) (functions_of (get_all_functions (program tree text).functions [])) function rule (asked rule) body (p ∷ q ∷ [])

-- p and q in place, 7 in the other variables
unfoldable pub made_with : ℕ → ℕ → ℕ → Spot ℕ
unfolding tree text counted written conversion buffers body_at read_body runnable function rule number compute answer asked body_run steps step fetch execute put_to jump_to branch_to finish_with operand datum read literal_type content write one_on label_place is_label
made_with p q = body_run rule (asked rule) (runnable function (read_body (body_at counts buffers text 0))) (λ i. get_or (p ∷ q ∷ []) i 7)

-- q is reached where p holds, and its 5 becomes a Bool's 1
pub both_hold : (end_t (tree_with 1 5 1) ≡ some (returns 1)) × (end_b (made_with 1 5 7) ≡ some (returns 1))
unfolding tree_with made_with end_t end_b
both_hold = (refl, refl)

pub second-fails : (end_t (tree_with 1 0 1) ≡ some (returns 0)) × (end_b (made_with 1 0 7) ≡ some (returns 0))
unfolding tree_with made_with end_t end_b
second-fails = (refl, refl)

pub first-fails : (end_t (tree_with 0 5 1) ≡ some (returns 0)) × (end_b (made_with 0 5 7) ≡ some (returns 0))
unfolding tree_with made_with end_t end_b
first-fails = (refl, refl)
