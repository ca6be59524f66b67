-- Reading the six tables of a program back gives each function's body, for a program whose names exist and whose numbers fit.
-- By the law of parts of a table, once for each table, and the totals that a function's entry starts from. Assumes nothing.
use mathlib.Core.Path.{◌≡◌, refl, sym, ap, ◌∙◌}
use Prim.Native.Nat.{ℕ, suc, ◌+◌, ◌*◌}
use mathlib.Core.Bool.{Bool, true, false}
use mathlib.Core.List.{List, [], ◌∷◌, ◌++◌, append_assoc}
use mathlib.Core.Option.{Option, none as nothing, some}
use native.Mathlib.Nat.{add-zero, zero-add, add_assoc}
use native.Mathlib.Omega.{arith}
use lib.Dec.{ltb}
use lib.ListN.{length, drop, get_elem?, length-append}
use borrow.Author.Tests.{lt-ltb, le-ltb}
use Rattle.laws.specs.All.{All}
use Rattle.laws.specs.Fix.{pick}
use Rattle.records.specs.Words.{byte_at, word_at}
use Rattle.syntax.specs.Syntax.{Text}
use Rattle.conversion.specs.Ir.{Operand, OVar, OInt, OFloat, OBool, ODataAddress, ONull, Instr, Copy, Unary, Binary, Cast, Zero, Arg, Call, Label, Jump, JumpIfNot, Return, Comment, LabelName, StringEntry, FloatEntry, State, IrFunction, IrProgram}
use Rattle.conversion.specs.Written.{bytes_of, word, wide, bool_number, encode_instr, encode_var, encode_label, encode_string, encode_float, encode_all, code_of, body_mark, encode_functions, all_code, all_vars, all_labels, Tables, tables_of, counts_of}
use Rattle.tables.specs.Read.{◌>>=◌, check, read_zeros, wide_at, instr_in, variable_in, label_in, string_in, float_in, FunctionEntry, function_in, entries_from, operand_listed, listed, all_listed, body_at, Begin}
use Rattle.conversion.specs.Fits.{StringStands, FloatFits}
use Rattle.conversion.proofs.Bytes.{var_length, label_length, string_length, float_length, instr_length}
use Rattle.tables.proofs.Exists.{Word, OperandIn, InstrIn, KnownLabel, state_of, FunctionFits, ProgramFits, body_of}
use Rattle.tables.proofs.Numbers.{word_back, wide_back}
use Rattle.tables.proofs.Entries.{all-at, Cut, cut, not_found, drop-entries, part_back, entries_back}
use Rattle.tables.proofs.Instructions.{Small, found_below, mark_back, instr_back}

-- ---- single entries

var_back : (y : ℕ) (rest : List ℕ) → Word y → variable_in (encode_var y ++ rest) ≡ some y
unfolding variable_in encode_var
var_back y rest h = rw (word_back y rest h)

label_back : (l : LabelName) (rest : List ℕ) → KnownLabel l → label_in (encode_label l ++ rest) ≡ some l
unfolding label_in encode_label word_at byte_at word bytes_of ◌>>=◌ check
label_back l rest h = rw (
  word_back l.kind [] (omega arith),
  word_back l.opener [] h.opener,
  lt-ltb 0 l.kind h.some_kind,
  lt-ltb l.kind 8 h.known,
)

string_back : (text : Text) (e : StringEntry) (rest : List ℕ) → StringStands text e → string_in text (encode_string e ++ rest) ≡ some e
unfolding string_in encode_string word_at byte_at word bytes_of
string_back text e rest h = rw (word_back e.offset [] h.offset, word_back e.len [] h.len, sym h.stands)

mark_word : (b : Bool) → Word (bool_number b)
unfolding bool_number
mark_word true = omega arith
mark_word false = omega arith

float_back : (e : FloatEntry) (rest : List ℕ) → FloatFits e → float_in (encode_float e ++ rest) ≡ some e
unfolding float_in encode_float wide_at word_at byte_at word wide bytes_of read_zeros pick ◌>>=◌
float_back e rest h = rw (wide_back e.bits [] h.bits, word_back (bool_number e.short) [] (mark_word e.short), mark_back e.short)

-- ---- the numbers that an instruction names

operand_listed_lem : (s : State) (o : Operand) → OperandIn s o → operand_listed (length s.strings) (length s.floats) o ≡ true
unfolding operand_listed
operand_listed_lem s (OVar x) h = refl
operand_listed_lem s (OInt v short unsigned) h = refl
operand_listed_lem s (OFloat i) h = lt-ltb i (length s.floats) h
operand_listed_lem s (OBool b) h = refl
operand_listed_lem s (ODataAddress i) h = lt-ltb i (length s.strings) h
operand_listed_lem s ONull h = refl

instr_listed : (s : State) (i : Instr) → InstrIn s i → listed (length s.labels) (length s.strings) (length s.floats) i ≡ true
unfolding listed
instr_listed s (Copy x o) h = operand_listed_lem s o h.1
instr_listed s (Unary x u o) h = operand_listed_lem s o h.1
instr_listed s (Binary x b o p) h = rw (operand_listed_lem s o h.1, operand_listed_lem s p h.2) refl
instr_listed s (Cast x o) h = operand_listed_lem s o h.1
instr_listed s (Zero x) h = refl
instr_listed s (Arg o) h = operand_listed_lem s o h
instr_listed s (Call x f) h = refl
instr_listed s (Label l) h = lt-ltb l (length s.labels) h
instr_listed s (Jump l) h = lt-ltb l (length s.labels) h
instr_listed s (JumpIfNot o l) h = rw (operand_listed_lem s o h.0, lt-ltb l (length s.labels) h.1) refl
instr_listed s (Return o) h = operand_listed_lem s o h
instr_listed s (Comment r) h = refl

all_listed_lem : (s : State) (c : List Instr) → All (InstrIn s) c → all_listed (length s.labels) (length s.strings) (length s.floats) c ≡ true
unfolding all_listed
all_listed_lem s [] h = refl
all_listed_lem s (i ∷ c) h = rw (instr_listed s i h.0, all_listed_lem s c h.1) refl

-- ---- functions' entries

-- an entry as written
encode_entry : FunctionEntry → List ℕ
unfolding word bool_number
encode_entry e = word e.func ++ word (bool_number e.has_body) ++ word e.first_instr ++ word e.instrs ++ word e.first_var
    ++ word e.vars ++ word e.first_label ++ word e.labels

-- what the words of an entry hold
record EntryFits (e : FunctionEntry) : Type 0 where
  func : Word e.func
  first_instr : Word e.first_instr
  instrs : Word e.instrs
  first_var : Word e.first_var
  vars : Word e.vars
  first_label : Word e.first_label
  labels : Word e.labels

entry_back : (e : FunctionEntry) (rest : List ℕ) → EntryFits e → function_in (encode_entry e ++ rest) ≡ some e
unfolding function_in encode_entry word_at byte_at word bytes_of ◌>>=◌
entry_back e rest h = rw (
  word_back (bool_number e.has_body) [] (mark_word e.has_body),
  mark_back e.has_body,
  word_back e.func [] h.func,
  word_back e.first_instr [] h.first_instr,
  word_back e.instrs [] h.instrs,
  word_back e.first_var [] h.first_var,
  word_back e.vars [] h.vars,
  word_back e.first_label [] h.first_label,
  word_back e.labels [] h.labels,
)

has_body : Option (List Instr) → Bool
has_body nothing = false
has_body (some c) = true

body_mark_lem : (b : Option (List Instr)) → body_mark b ≡ bool_number (has_body b)
unfolding body_mark bool_number has_body
body_mark_lem nothing = refl
body_mark_lem (some c) = refl

-- the entry of f behind functions with i instructions, v variables and l labels
entry_of : ℕ → ℕ → ℕ → IrFunction → FunctionEntry
entry_of i v l f = record {
  func = f.func;
  has_body = has_body f.body;
  first_instr = i;
  instrs = length (code_of f.body);
  first_var = v;
  vars = length f.vars;
  first_label = l;
  labels = length f.labels;
}

entries_of : ℕ → ℕ → ℕ → List IrFunction → List FunctionEntry
entries_of i v l [] = []
entries_of i v l (f ∷ fs) =
    entry_of i v l f ∷ entries_of (i + length (code_of f.body)) (v + length f.vars) (l + length f.labels) fs

functions_encoded : (i v l : ℕ) (fs : List IrFunction) → encode_functions i v l fs ≡ encode_all encode_entry (entries_of i v l fs)
unfolding encode_functions encode_all encode_entry entries_of entry_of word bytes_of
functions_encoded i v l [] = refl
functions_encoded i v l (f ∷ fs) = rw (body_mark_lem f.body, functions_encoded (i + length (code_of f.body)) (v + length f.vars) (l + length f.labels) fs)

-- all functions' lists of one kind, cut at a function
module _ {X : Type 0} (of : IrFunction → List X) (all : List IrFunction → List X) (nil : all [] ≡ [])
    (cons : (f : IrFunction) (l : List IrFunction) → all (f ∷ l) ≡ of f ++ all l) where
  all_cut : (a : List IrFunction) (f : IrFunction) (b : List IrFunction) → all (a ++ f ∷ b) ≡ all a ++ (of f ++ all b)
  all_cut [] f b = rw (nil, cons f b)
  all_cut (g ∷ a) f b = rw (cons g (a ++ f ∷ b), all_cut a f b, cons g a, append_assoc (of g) (all a) (of f ++ all b))

abbrev Code : IrFunction → List Instr
Code f = code_of f.body

code_cut : (a : List IrFunction) (f : IrFunction) (b : List IrFunction) → all_code (a ++ f ∷ b) ≡ all_code a ++ (Code f ++ all_code b)
unfolding all_code
code_cut = all_cut Code all_code refl (λ f l. refl)

vars_cut : (a : List IrFunction) (f : IrFunction) (b : List IrFunction) → all_vars (a ++ f ∷ b) ≡ all_vars a ++ (f.vars ++ all_vars b)
unfolding all_vars
vars_cut = all_cut (λ f. f.vars) all_vars refl (λ f l. refl)

labels_cut : (a : List IrFunction) (f : IrFunction) (b : List IrFunction) → all_labels (a ++ f ∷ b) ≡ all_labels a ++ (f.labels ++ all_labels b)
unfolding all_labels
labels_cut = all_cut (λ f. f.labels) all_labels refl (λ f l. refl)

entries_cut : (i v l : ℕ) (a : List IrFunction) (f : IrFunction) (b : List IrFunction)
    → entries_of i v l (a ++ f ∷ b) ≡ entries_of i v l a ++ entries_of (i + length (all_code a)) (v + length (all_vars a)) (l + length (all_labels a)) (f ∷ b)
unfolding entries_of all_code all_vars all_labels
entries_cut i v l [] f b = simp add-zero
entries_cut i v l (g ∷ a) f b =
    rw (
      entries_cut (i + length (Code g)) (v + length g.vars) (l + length g.labels) a f b,
      length-append (Code g) (all_code a),
      length-append g.vars (all_vars a),
      length-append g.labels (all_labels a),
      ← add_assoc i (length (Code g)) (length (all_code a)),
      ← add_assoc v (length g.vars) (length (all_vars a)),
      ← add_assoc l (length g.labels) (length (all_labels a)),
    )

entries-length : (i v l : ℕ) (fs : List IrFunction) → length (entries_of i v l fs) ≡ length fs
unfolding entries_of
entries-length i v l [] = refl
entries-length i v l (f ∷ fs) = ap suc (entries-length (i + length (Code f)) (v + length f.vars) (l + length f.labels) fs)

entry_length : (e : FunctionEntry) → length (encode_entry e) ≡ 32
unfolding encode_entry word bytes_of
entry_length e = refl

-- ---- the whole

-- of three parts of a list, the first two are words where the whole is
parts_words : {X : Type 0} (l a b d : List X) → l ≡ a ++ (b ++ d) → Word (length l) → Word (length a) × Word (length b)
parts_words l a b d e h = (
  omega (arith, ap length e, length-append a (b ++ d), length-append b d),
  omega (arith, ap length e, length-append a (b ++ d), length-append b d),
)

module _ (text : Text) (p : IrProgram) (t : Tables) (fits : ProgramFits text p) (held : Begin (tables_of p) t) where
  strings_back : entries_from (string_in text) 8 t.strings 0 (counts_of p).strings ≡ some p.strings
  unfolding entries_from tables_of counts_of
  strings_back = rw held.strings.same
      (entries_back encode_string 8 string_length (StringStands text) (string_in text) (string_back text) p.strings held.strings.rest fits.strings)

  floats_back : entries_from float_in 16 t.floats 0 (counts_of p).floats ≡ some p.floats
  unfolding entries_from tables_of counts_of
  floats_back = rw held.floats.same
      (entries_back encode_float 16 float_length FloatFits float_in float_back p.floats held.floats.rest fits.floats)

  module _ (n : ℕ) (f : IrFunction) (found : get_elem? p.funcs n ≡ some f) (c : Cut p.funcs n f) where
    abbrev entry : FunctionEntry
    entry = entry_of (length (all_code c.before)) (length (all_vars c.before)) (length (all_labels c.before)) f

    code_parts : all_code p.funcs ≡ all_code c.before ++ (Code f ++ all_code c.after)
    code_parts = ap all_code c.whole ∙ code_cut c.before f c.after

    vars_parts : all_vars p.funcs ≡ all_vars c.before ++ (f.vars ++ all_vars c.after)
    vars_parts = ap all_vars c.whole ∙ vars_cut c.before f c.after

    labels_parts : all_labels p.funcs ≡ all_labels c.before ++ (f.labels ++ all_labels c.after)
    labels_parts = ap all_labels c.whole ∙ labels_cut c.before f c.after

    function-fits : FunctionFits p f
    function-fits = all-at (FunctionFits p) p.funcs n f fits.funcs found

    vars-words : Word (length (all_vars c.before)) × Word (length f.vars)
    unfolding counts_of
    vars-words = parts_words (all_vars p.funcs) (all_vars c.before) f.vars (all_vars c.after) vars_parts fits.counts.variables

    labels-words : Word (length (all_labels c.before)) × Word (length f.labels)
    unfolding counts_of
    labels-words = parts_words (all_labels p.funcs) (all_labels c.before) f.labels (all_labels c.after) labels_parts fits.counts.labels

    entry-fits : EntryFits entry
    unfolding entry_of counts_of
    entry-fits =
        let i = parts_words (all_code p.funcs) (all_code c.before) (Code f) (all_code c.after) code_parts fits.counts.instructions in
        let v = vars-words in
        let l = labels-words in
        record { func = function-fits.func; first_instr = i.0; instrs = i.1; first_var = v.0; vars = v.1; first_label = l.0; labels = l.1 }

    small : Small (state_of p f)
    unfolding counts_of
    small = record {
      vars = vars-words.1;
      labels = labels-words.1;
      strings = fits.counts.strings;
      floats = fits.counts.floats;
    }

    entry_read : function_in (drop (n * 32) t.functions) ≡ some entry
    unfolding tables_of entries_of encode_all
    entry_read = rw (
      held.functions.same,
      functions_encoded 0 0 0 p.funcs,
      c.whole,
      entries_cut 0 0 0 c.before f c.after,
      ← c.place,
      ← entries-length 0 0 0 c.before,
    )
        (rw (drop-entries encode_entry 32 entry_length (entries_of 0 0 0 c.before) _ held.functions.rest)
        (simp (append_assoc, zero-add) (entry_back entry _ entry-fits)))

    code_read : entries_from (instr_in f.vars) 32 t.instructions (length (all_code c.before)) (length (Code f)) ≡ some (Code f)
    unfolding tables_of
    code_read = rw (held.instructions.same, code_parts)
        (part_back encode_instr 32 instr_length (InstrIn (state_of p f)) (instr_in f.vars) (instr_back (state_of p f) small)
        (all_code c.before) (Code f) (all_code c.after) held.instructions.rest function-fits.body)

    vars-read : entries_from variable_in 4 t.variables (length (all_vars c.before)) (length f.vars) ≡ some f.vars
    unfolding tables_of
    vars-read = rw (held.variables.same, vars_parts)
        (part_back encode_var 4 var_length Word variable_in var_back (all_vars c.before) f.vars (all_vars c.after)
        held.variables.rest function-fits.vars)

    labels-read : entries_from label_in 8 t.labels (length (all_labels c.before)) (length f.labels) ≡ some f.labels
    unfolding tables_of
    labels-read = rw (held.labels.same, labels_parts)
        (part_back encode_label 8 label_length KnownLabel label_in label_back (all_labels c.before) f.labels (all_labels c.after)
        held.labels.rest function-fits.labels)

    code-listed : all_listed (length f.labels) (length p.strings) (length p.floats) (Code f) ≡ true
    code-listed = all_listed_lem (state_of p f) (Code f) function-fits.body

    in_table : ltb n (length p.funcs) ≡ true
    in_table = lt-ltb n (length p.funcs) (found_below p.funcs n f found)

    by-body : (b : Option (List Instr)) → f.body ≡ b → body_at (counts_of p) t text n ≡ body_of p n
    unfolding body_at body_of ◌>>=◌ check counts_of entry_of has_body code_of
    by-body nothing e = rw (found, in_table, entry_read, e)
    by-body (some code) e = rw (found, in_table, entry_read, ap has_body e, vars-read, labels-read, code_read, code-listed, strings_back, floats_back, e)

  by_function_lem : (n : ℕ) (o : Option IrFunction) → get_elem? p.funcs n ≡ o → body_at (counts_of p) t text n ≡ body_of p n
  unfolding body_at body_of ◌>>=◌ check counts_of
  by_function_lem n nothing e = rw (e, le-ltb n (length p.funcs) (not_found p.funcs n e))
  by_function_lem n (some f) e = by-body n f e (cut p.funcs n f e) f.body refl

  pub read_back : (n : ℕ) → body_at (counts_of p) t text n ≡ body_of p n
  read_back n = by_function_lem n (get_elem? p.funcs n) refl
