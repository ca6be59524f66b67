-- Sizes suffice, in bytes: a tree of n records needs at most 128n bytes of instructions (320n are lent), 12n of variables, 24n of labels, 32n of functions, 8n of strings, 32n of floats.
-- Each table is its entries, of one width each, and the entries are counted. Assumes nothing.
use mathlib.Core.Path.{◌≡◌, refl, ◌∙◌}
use mathlib.Core.Bool.{Bool, true}
use mathlib.Core.List.{List, [], ◌∷◌}
use Prim.Native.Nat.{ℕ, ◌+◌, ◌*◌, ◌≤◌, ◌<◌}
use native.Mathlib.Omega.{arith}
use lib.ListN.{length, length-append}
use Rattle.records.specs.Words.{records}
use Rattle.syntax.specs.Decode.{program}
use Rattle.records.specs.Rules.{record_ok}
use Rattle.syntax.proofs.Held.{Complete, Once}
use Rattle.syntax.proofs.Judged.{judged_complete, judged-once}
use Rattle.conversion.specs.Ir.{Instr, LabelName, StringEntry, FloatEntry, IrFunction, IrProgram}
use Rattle.conversion.specs.Converter.{convert}
use Rattle.conversion.specs.Written.{bytes_of, word, wide, encode_fields, encode_instr, encode_var, encode_label, encode_string, encode_float, encode_all, encode_functions, code_of, all_code, all_vars, all_labels, Tables, tables_of}
use Rattle.conversion.proofs.Sizes.{IfOk, Suffice, if_ok_map, tree_suffices}

pub instr_length : (i : Instr) → length (encode_instr i) ≡ 32
unfolding encode_instr encode_fields word wide bytes_of
instr_length i = refl

pub label_length : (l : LabelName) → length (encode_label l) ≡ 8
unfolding encode_label word bytes_of
label_length l = refl

pub string_length : (s : StringEntry) → length (encode_string s) ≡ 8
unfolding encode_string word bytes_of
string_length s = refl

pub float_length : (f : FloatEntry) → length (encode_float f) ≡ 16
unfolding encode_float word wide bytes_of
float_length f = refl

pub var_length : (y : ℕ) → length (encode_var y) ≡ 4
unfolding encode_var word bytes_of
var_length y = refl

-- a table of entries of k bytes
pub table-length : {X : Type 0} (f : X → List ℕ) (k : ℕ) → ((x : X) → length (f x) ≡ k) → (l : List X) → length (encode_all f l) ≡ length l * k
unfolding encode_all
table-length f k h [] = omega arith
table-length f k h (x ∷ l) = length-append (f x) (encode_all f l) ∙ rw (h x, table-length f k h l) (omega arith)

pub functions-length : (i v l : ℕ) (fs : List IrFunction) → length (encode_functions i v l fs) ≡ length fs * 32
unfolding encode_functions word bytes_of
functions-length i v l [] = omega arith
functions-length i v l (f ∷ fs) =
    rw (functions-length (i + length (code_of f.body)) (v + length f.vars) (l + length f.labels) fs) (omega arith)

-- what document 01 lends for n records suffices; of the instructions' 320n bytes 128n are used at most
pub record Fit (n : ℕ) (t : Tables) : Type 0 where
  pub instructions : length t.instructions ≤ 128 * n
  pub variables : length t.variables ≤ 12 * n
  pub labels : length t.labels ≤ 24 * n
  pub functions : length t.functions ≤ 32 * n
  pub strings : length t.strings ≤ 8 * n
  pub floats : length t.floats ≤ 32 * n

pub tables-fit : (n : ℕ) (p : IrProgram) → Suffice n p → Fit n (tables_of p)
unfolding tables_of
tables-fit n p s = record {
  instructions = omega (arith, table-length encode_instr 32 instr_length (all_code p.funcs), s.instructions);
  variables = omega (arith, table-length encode_var 4 var_length (all_vars p.funcs), s.variables);
  labels = omega (arith, table-length encode_label 8 label_length (all_labels p.funcs), s.labels);
  functions = omega (arith, functions-length 0 0 0 p.funcs, s.functions);
  strings = omega (arith, table-length encode_string 8 string_length p.strings, s.strings);
  floats = omega (arith, table-length encode_float 16 float_length p.floats, s.floats);
}

pub tree_fits : (tree text : List ℕ) (needsMain : Bool) → ((r : ℕ) → r < records tree → Complete tree text r)
    → ((j : ℕ) → j < records tree → Once tree text (records tree) j) → IfOk (λ p. Fit (records tree) (tables_of p)) (convert (program tree text) needsMain)
tree_fits tree text needsMain c o = if_ok_map (convert (program tree text) needsMain) (λ p s. tables-fit (records tree) p s) (tree_suffices tree text needsMain c o)

-- THE CLAIM: in a tree whose records keep the rules, what is lent for n records suffices
pub judged-fits : (tree text : List ℕ) (needsMain : Bool) → ((r : ℕ) → r < records tree → record_ok tree text r ≡ true)
    → IfOk (λ p. Fit (records tree) (tables_of p)) (convert (program tree text) needsMain)
judged-fits tree text needsMain ok = tree_fits tree text needsMain (judged_complete tree text ok) (judged-once tree text ok)
