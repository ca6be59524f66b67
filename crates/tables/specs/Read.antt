-- What the bytes of the six output tables say, read as document 01 describes them ('What is written'). The tables may be followed by other
-- bytes in their buffers: what is read goes by the counts of the answer. Bytes that are no entry say `nothing`.
-- Assumes nothing: these are definitions.
use Rattle.std.specs.Prelude.{◌≡◌, ℕ, zero, suc, ◌+◌, ◌*◌, Bool, true, false, ◌&&◌, List, [], ◌∷◌, ◌++◌, eqb, ltb, drop, get_or}
use Rattle.std.proofs.Math.Option.{Option, none as nothing, some}
use Rattle.std.proofs.Math.ListN.{get_elem?}
use Rattle.std.specs.Int.{w64}
use Rattle.std.proofs.Common.{to_z}
use Rattle.laws.specs.Fix.{pick}
use Rattle.records.specs.Words.{byte_at, word_at, text_at, none, second_word}
use Rattle.syntax.specs.Syntax.{Text, unary_ops, binary_ops}
use Rattle.conversion.specs.Ir.{VarId, Operand, OVar, OInt, OFloat, OBool, ODataAddress, ONull, Instr, Copy, Unary, Binary, Cast, Zero, Arg, Call, Label, Jump, JumpIfNot, Return, Comment, LabelName, StringEntry, texts, FloatEntry, last_label_kind}
use Rattle.conversion.specs.Written.{Fields, tag_of, Tables, Counts, instruction_bytes, variable_bytes, label_bytes, function_bytes, string_bytes, float_bytes}

-- ---- reading

infixl 10 ◌>>=◌
-- what is read next, where something was read
unfoldable pub ◌>>=◌ : {A B : Type 0} → Option A → (A → Option B) → Option B
◌>>=◌ nothing f = nothing
◌>>=◌ (some a) f = f a

unfoldable pub check : Bool → Option (Unit {0})
check true = some tt
check false = nothing

-- 'Numbers are little-endian': the 8 bytes at i
unfoldable pub wide_at : List ℕ → ℕ → ℕ
unfolding word_at
wide_at b i = word_at b i + word_at b (i + second_word) * 4294967296

-- a mark, 0 or 1
unfoldable pub mark_of : ℕ → Option Bool
mark_of n = get_elem? (false ∷ true ∷ []) n

-- 'what a kind does not use is zero'
unfoldable pub read_zeros : List ℕ → Option (Unit {0})
read_zeros [] = some tt
read_zeros (n ∷ l) = pick (eqb n 0) (read_zeros l) nothing

-- ---- operands

-- variable n, vs being the types of its function's variables: 'A variable is its type's record'
unfoldable pub read_var : List ℕ → ℕ → Option VarId
unfolding ◌>>=◌
read_var vs n = do
  y ← get_elem? vs n
  some (record { id = n; ty = y })

unfoldable pub no_operand : ℕ → Option (Option Operand)
unfolding pick
no_operand n = pick (eqb n 0) (some nothing) nothing

unfoldable pub var_operand : List ℕ → ℕ → Option (Option Operand)
unfolding ◌>>=◌ read_var
var_operand vs n = do
  x ← read_var vs n
  some (some (OVar x))

-- the value of 64 bits is a signed number, whatever the tag
unfoldable pub int_operand : Bool → Bool → ℕ → Option (Option Operand)
int_operand short unsigned n = some (some (OInt (to_z w64 n) short unsigned))

unfoldable pub float_operand : ℕ → Option (Option Operand)
float_operand n = some (some (OFloat n))

-- 'bool 0 or 1'
unfoldable pub bool_operand : ℕ → Option (Option Operand)
unfolding ◌>>=◌ mark_of
bool_operand n = do
  b ← mark_of n
  some (some (OBool b))

unfoldable pub string_operand : ℕ → Option (Option Operand)
string_operand n = some (some (ODataAddress n))

-- 'null 0'
unfoldable pub null_operand : ℕ → Option (Option Operand)
unfolding pick
null_operand n = pick (eqb n 0) (some (some ONull)) nothing

unfoldable pub bad_operand : ℕ → Option (Option Operand)
bad_operand n = nothing

-- 'Tags: 0 none, 1 variable, 2 Int plus 1 short plus 2 unsigned, 6 float, 7 bool, 8 string, 9 null'
unfoldable pub read_operand : List ℕ → ℕ → ℕ → Option (Option Operand)
unfolding no_operand var_operand int_operand float_operand bool_operand string_operand null_operand bad_operand
read_operand vs tag n = get_or (no_operand ∷ var_operand vs ∷ int_operand false false ∷ int_operand true false ∷ int_operand false true
    ∷ int_operand true true ∷ float_operand ∷ bool_operand ∷ string_operand ∷ null_operand ∷ []) tag bad_operand n

-- ---- instructions

-- 'byte 0 kind .., byte 1 operator, bytes 2 and 3 operand tags, word 4 destination or label, operands of 8 bytes at 8 and 16, word 24
-- function or statement record, word 28 zero'
unfoldable pub fields_at : List ℕ → List ℕ → Option Fields
unfolding ◌>>=◌ read_zeros byte_at word_at wide_at read_operand
fields_at vs b = do
  o ← read_operand vs (byte_at b 2) (wide_at b 8)
  p ← read_operand vs (byte_at b 3) (wide_at b 16)
  _ ← read_zeros (word_at b 28 ∷ [])
  some (record { kind = byte_at b 0; operator = byte_at b 1; first = o; second = p; target = word_at b 4; record_word = word_at b 24 })

unfoldable pub no_instr : List ℕ → Fields → Option Instr
no_instr vs f = nothing

unfoldable pub read_copy : List ℕ → Fields → Option Instr
unfolding ◌>>=◌ read_zeros read_var tag_of
read_copy vs f = do
  x ← read_var vs f.target
  o ← f.first
  _ ← read_zeros (f.operator ∷ tag_of f.second ∷ f.record_word ∷ [])
  some (Copy x o)

unfoldable pub read_unary : List ℕ → Fields → Option Instr
unfolding ◌>>=◌ read_zeros read_var tag_of
read_unary vs f = do
  x ← read_var vs f.target
  u ← get_elem? unary_ops f.operator
  o ← f.first
  _ ← read_zeros (tag_of f.second ∷ f.record_word ∷ [])
  some (Unary x u o)

unfoldable pub read_binary : List ℕ → Fields → Option Instr
unfolding ◌>>=◌ read_zeros read_var
read_binary vs f = do
  x ← read_var vs f.target
  b ← get_elem? binary_ops f.operator
  o ← f.first
  p ← f.second
  _ ← read_zeros (f.record_word ∷ [])
  some (Binary x b o p)

unfoldable pub read_cast : List ℕ → Fields → Option Instr
unfolding ◌>>=◌ read_zeros read_var tag_of
read_cast vs f = do
  x ← read_var vs f.target
  o ← f.first
  _ ← read_zeros (f.operator ∷ tag_of f.second ∷ f.record_word ∷ [])
  some (Cast x o)

unfoldable pub read_zero : List ℕ → Fields → Option Instr
unfolding ◌>>=◌ read_zeros read_var tag_of
read_zero vs f = do
  x ← read_var vs f.target
  _ ← read_zeros (f.operator ∷ tag_of f.first ∷ tag_of f.second ∷ f.record_word ∷ [])
  some (Zero x)

-- 'a single one at 8'
unfoldable pub read_arg : List ℕ → Fields → Option Instr
unfolding ◌>>=◌ read_zeros tag_of
read_arg vs f = do
  o ← f.first
  _ ← read_zeros (f.operator ∷ tag_of f.second ∷ f.target ∷ f.record_word ∷ [])
  some (Arg o)

-- 'a Call without destination has FFFFFFFF at 4'
unfoldable pub read_destination : List ℕ → ℕ → Option (Option VarId)
unfolding ◌>>=◌ pick read_var
read_destination vs n = pick (eqb n none) (some nothing) (read_var vs n >>= λ x. some (some x))

unfoldable pub read_call : List ℕ → Fields → Option Instr
unfolding ◌>>=◌ read_zeros read_destination tag_of
read_call vs f = do
  x ← read_destination vs f.target
  _ ← read_zeros (f.operator ∷ tag_of f.first ∷ tag_of f.second ∷ [])
  some (Call x f.record_word)

unfoldable pub read_label : List ℕ → Fields → Option Instr
unfolding ◌>>=◌ read_zeros tag_of
read_label vs f = do
  _ ← read_zeros (f.operator ∷ tag_of f.first ∷ tag_of f.second ∷ f.record_word ∷ [])
  some (Label f.target)

unfoldable pub read_jump : List ℕ → Fields → Option Instr
unfolding ◌>>=◌ read_zeros tag_of
read_jump vs f = do
  _ ← read_zeros (f.operator ∷ tag_of f.first ∷ tag_of f.second ∷ f.record_word ∷ [])
  some (Jump f.target)

unfoldable pub read_jump_if_not : List ℕ → Fields → Option Instr
unfolding ◌>>=◌ read_zeros tag_of
read_jump_if_not vs f = do
  o ← f.first
  _ ← read_zeros (f.operator ∷ tag_of f.second ∷ f.record_word ∷ [])
  some (JumpIfNot o f.target)

unfoldable pub read_return : List ℕ → Fields → Option Instr
unfolding ◌>>=◌ read_zeros tag_of
read_return vs f = do
  o ← f.first
  _ ← read_zeros (f.operator ∷ tag_of f.second ∷ f.target ∷ f.record_word ∷ [])
  some (Return o)

-- 'Comment names its statement in place of the text'
unfoldable pub read_comment : List ℕ → Fields → Option Instr
unfolding ◌>>=◌ read_zeros tag_of
read_comment vs f = do
  _ ← read_zeros (f.operator ∷ tag_of f.first ∷ tag_of f.second ∷ f.target ∷ [])
  some (Comment f.record_word)

-- '1 Copy, 2 Unary, 3 Binary, 4 Cast, 5 Zero, 6 Arg, 7 Call, 8 Label, 9 Jump, 10 JumpIfNot, 11 Return, 12 Comment'
unfoldable pub read_instr : List ℕ → Fields → Option Instr
unfolding no_instr read_copy read_unary read_binary read_cast read_zero read_arg read_call read_label read_jump read_jump_if_not read_return read_comment
read_instr vs f = get_or (no_instr ∷ read_copy ∷ read_unary ∷ read_binary ∷ read_cast ∷ read_zero ∷ read_arg ∷ read_call ∷ read_label ∷ read_jump ∷ read_jump_if_not ∷ read_return
    ∷ read_comment ∷ []) f.kind no_instr vs f

-- the instruction that b begins with, vs being the types of its function's variables
unfoldable pub instr_in : List ℕ → List ℕ → Option Instr
unfolding ◌>>=◌ fields_at read_instr
instr_in vs b = do
  f ← fields_at vs b
  read_instr vs f

-- ---- the other entries, each the one that b begins with

unfoldable pub variable_in : List ℕ → Option ℕ
unfolding word_at
variable_in b = some (word_at b 0)

-- 'kind (1 loop start, .. 7 logic end) and opening record'
unfoldable pub label_in : List ℕ → Option LabelName
unfolding ◌>>=◌ check word_at
label_in b = do
  _ ← check (ltb 0 (word_at b 0) && ltb (word_at b 0) (last_label_kind + 1))
  some (record { kind = word_at b 0; opener = word_at b 4 })

-- 'A string is offset and length', into the text buffer
unfoldable pub string_in : Text → List ℕ → Option StringEntry
unfolding word_at text_at
string_in text b = some (record { offset = word_at b 0; len = word_at b 4; text = text_at text (word_at b 0) (word_at b 4) })

-- 'its value with its short mark (word at 8, then zero)'
unfoldable pub float_in : List ℕ → Option FloatEntry
unfolding ◌>>=◌ read_zeros mark_of word_at wide_at
float_in b = do
  s ← mark_of (word_at b 8)
  _ ← read_zeros (word_at b 12 ∷ [])
  some (record { bits = wide_at b 0; short = s })

-- 'A function entry is eight words: record, 1 if it has a body, first and count of instructions, of variables, of labels'
pub record FunctionEntry : Type 0 where
  pub func : ℕ
  pub has_body : Bool
  pub first_instr : ℕ
  pub instrs : ℕ
  pub first_var : ℕ
  pub vars : ℕ
  pub first_label : ℕ
  pub labels : ℕ

unfoldable pub function_in : List ℕ → Option FunctionEntry
unfolding ◌>>=◌ mark_of word_at
function_in b = do
  m ← mark_of (word_at b 4)
  some (record {
    func = word_at b 0;
    has_body = m;
    first_instr = word_at b 8;
    instrs = word_at b 12;
    first_var = word_at b 16;
    vars = word_at b 20;
    first_label = word_at b 24;
    labels = word_at b 28;
  })

-- ---- tables

-- the first n entries of b, each of `size` bytes
unfoldable pub entries : {X : Type 0} → (List ℕ → Option X) → ℕ → ℕ → List ℕ → Option (List X)
unfolding ◌>>=◌
entries read size zero b = some []
entries read size (suc n) b = do
  x ← read b
  l ← entries read size n (drop size b)
  some (x ∷ l)

-- n entries of a table from entry `first` on
unfoldable pub entries_from : {X : Type 0} → (List ℕ → Option X) → ℕ → List ℕ → ℕ → ℕ → Option (List X)
unfolding entries
entries_from read size table first n = entries read size n (drop (first * size) table)

-- ---- numbers that lie in their tables: ls is how many labels the function has, ss and fs how many strings and floats the program
-- (a variable is read with its type, so it is one of the function's)

unfoldable pub operand_listed : ℕ → ℕ → Operand → Bool
operand_listed ss fs (OVar x) = true
operand_listed ss fs (OInt v short unsigned) = true
operand_listed ss fs (OFloat i) = ltb i fs
operand_listed ss fs (OBool b) = true
operand_listed ss fs (ODataAddress i) = ltb i ss
operand_listed ss fs ONull = true

unfoldable pub listed : ℕ → ℕ → ℕ → Instr → Bool
unfolding operand_listed
listed ls ss fs (Copy x o) = operand_listed ss fs o
listed ls ss fs (Unary x u o) = operand_listed ss fs o
listed ls ss fs (Binary x b o p) = operand_listed ss fs o && operand_listed ss fs p
listed ls ss fs (Cast x o) = operand_listed ss fs o
listed ls ss fs (Zero x) = true
listed ls ss fs (Arg o) = operand_listed ss fs o
listed ls ss fs (Call x f) = true
listed ls ss fs (Label l) = ltb l ls
listed ls ss fs (Jump l) = ltb l ls
listed ls ss fs (JumpIfNot o l) = operand_listed ss fs o && ltb l ls
listed ls ss fs (Return o) = operand_listed ss fs o
listed ls ss fs (Comment r) = true

unfoldable pub all_listed : ℕ → ℕ → ℕ → List Instr → Bool
unfolding listed
all_listed ls ss fs [] = true
all_listed ls ss fs (i ∷ l) = listed ls ss fs i && all_listed ls ss fs l

-- ---- bodies

-- a function's body: its record, its instructions, the types of its variables, its labels, and the program's strings and floats
pub record ReadBody : Type 0 where
  pub func : ℕ
  pub instrs : List Instr
  pub vars : List ℕ
  pub labels : List LabelName
  pub strings : List Text
  pub floats : List FloatEntry

-- the body of function i, counted in the functions' table; `nothing` where there is no such function, it has no body, or an instruction names what
-- is not there
unfoldable pub body_at : Counts → Tables → Text → ℕ → Option ReadBody
unfolding ◌>>=◌ check function_in entries_from variable_in label_in instr_in string_in float_in all_listed texts
body_at c t text i = do
  _ ← check (ltb i c.functions)
  f ← function_in (drop (i * function_bytes) t.functions)
  _ ← check f.has_body
  vars ← entries_from variable_in variable_bytes t.variables f.first_var f.vars
  labels ← entries_from label_in label_bytes t.labels f.first_label f.labels
  instrs ← entries_from (instr_in vars) instruction_bytes t.instructions f.first_instr f.instrs
  _ ← check (all_listed f.labels c.strings c.floats instrs)
  strings ← entries_from (string_in text) string_bytes t.strings 0 c.strings
  floats ← entries_from float_in float_bytes t.floats 0 c.floats
  some (record { func = f.func; instrs = instrs; vars = vars; labels = labels; strings = texts strings; floats = floats })

-- ---- what is to be read

-- a buffer that begins with a table
pub record Begins (table buffer : List ℕ) : Type 0 where
  pub rest : List ℕ
  pub same : buffer ≡ table ++ rest

-- six buffers that begin with six tables
pub record Begin (w t : Tables) : Type 0 where
  pub instructions : Begins w.instructions t.instructions
  pub variables : Begins w.variables t.variables
  pub labels : Begins w.labels t.labels
  pub functions : Begins w.functions t.functions
  pub strings : Begins w.strings t.strings
  pub floats : Begins w.floats t.floats
