-- Document 01, 'What is written': the six tables as bytes, and the answer. Assumes nothing: these are definitions.
use Rattle.std.specs.Prelude.{ℕ, ◌+◌, Bool, List, [], ◌∷◌, ◌++◌, length}
use Rattle.std.proofs.Math.Option.{Option, none as nothing, some}
use Rattle.std.specs.Int.{w64}
use Rattle.std.proofs.Common.{of_z}
use Rattle.records.specs.Words.{none}
use Rattle.records.specs.Answer.{words_of}
use Rattle.records.specs.declared.convert_error.AnswerWords.{AnswerWords}
unfoldable pub use Rattle.records.specs.Words.{bytes_of, word, wide, bool_number}
use Rattle.syntax.specs.Syntax.{unary_number, binary_number}
use Rattle.syntax.specs.Decode.{program}
use Rattle.conversion.specs.ConvertError.{Result, ok, err}
use Rattle.conversion.specs.Ir.{VarId, Operand, OVar, OInt, OFloat, OBool, ODataAddress, ONull, Instr, Copy, Unary, Binary, Cast, Zero, Arg, Call, Label, Jump, JumpIfNot, Return, Comment, LabelName, StringEntry, FloatEntry, IrFunction, IrProgram}
use Rattle.conversion.specs.Converter.{convert}

-- ---- instructions

-- 'Tags: 0 none, 1 variable, 2 Int plus 1 short plus 2 unsigned, 6 float, 7 bool, 8 string, 9 null'
unfoldable pub tag : Operand → ℕ
unfolding bool_number
tag (OVar x) = 1
tag (OInt v short unsigned) = 2 + bool_number short + (bool_number unsigned + bool_number unsigned)
tag (OFloat i) = 6
tag (OBool b) = 7
tag (ODataAddress i) = 8
tag ONull = 9

-- 'An operand is the value or its number, bool 0 or 1, null 0'
unfoldable pub operand_value : Operand → ℕ
unfolding bool_number
operand_value (OVar x) = x.id
operand_value (OInt v short unsigned) = of_z w64 v
operand_value (OFloat i) = i
operand_value (OBool b) = bool_number b
operand_value (ODataAddress i) = i
operand_value ONull = 0

-- 'Instruction, 32 bytes: byte 0 kind .., byte 1 operator, bytes 2 and 3 operand tags, word 4 destination or label, operands of 8 bytes at 8
-- and 16, word 24 function or statement record, word 28 zero'
pub record Fields : Type 0 where
  pub kind : ℕ
  pub operator : ℕ
  pub first : Option Operand
  pub second : Option Operand
  pub target : ℕ
  pub record_word : ℕ

unfoldable pub tag_of : Option Operand → ℕ
unfolding tag
tag_of nothing = 0
tag_of (some o) = tag o

unfoldable pub operand_word : Option Operand → ℕ
unfolding operand_value
operand_word nothing = 0
operand_word (some o) = operand_value o

-- 'a Call without destination has FFFFFFFF at 4'
unfoldable pub destination : Option VarId → ℕ
destination nothing = none
destination (some x) = x.id

-- the kind of the one instruction with two operands
abbrev pub binary_kind : ℕ
binary_kind = 3

-- 'what a kind does not use is zero', 'a single one at 8'
unfoldable pub fields_of : Instr → Fields
unfolding destination
fields_of (Copy x o) = record { kind = 1; operator = 0; first = some o; second = nothing; target = x.id; record_word = 0 }
fields_of (Unary x u o) = record { kind = 2; operator = unary_number u; first = some o; second = nothing; target = x.id; record_word = 0 }
fields_of (Binary x b o p) = record { kind = binary_kind; operator = binary_number b; first = some o; second = some p; target = x.id; record_word = 0 }
fields_of (Cast x o) = record { kind = 4; operator = 0; first = some o; second = nothing; target = x.id; record_word = 0 }
fields_of (Zero x) = record { kind = 5; operator = 0; first = nothing; second = nothing; target = x.id; record_word = 0 }
fields_of (Arg o) = record { kind = 6; operator = 0; first = some o; second = nothing; target = 0; record_word = 0 }
fields_of (Call x f) = record { kind = 7; operator = 0; first = nothing; second = nothing; target = destination x; record_word = f }
fields_of (Label l) = record { kind = 8; operator = 0; first = nothing; second = nothing; target = l; record_word = 0 }
fields_of (Jump l) = record { kind = 9; operator = 0; first = nothing; second = nothing; target = l; record_word = 0 }
fields_of (JumpIfNot o l) = record { kind = 10; operator = 0; first = some o; second = nothing; target = l; record_word = 0 }
fields_of (Return o) = record { kind = 11; operator = 0; first = some o; second = nothing; target = 0; record_word = 0 }
fields_of (Comment r) = record { kind = 12; operator = 0; first = nothing; second = nothing; target = 0; record_word = r }

unfoldable pub encode_fields : Fields → List ℕ
unfolding tag_of operand_word word wide
encode_fields f = f.kind ∷ f.operator ∷ tag_of f.first ∷ tag_of f.second ∷ []
    ++ word f.target ++ wide (operand_word f.first) ++ wide (operand_word f.second) ++ word f.record_word ++ word 0

unfoldable pub encode_instr : Instr → List ℕ
unfolding encode_fields fields_of
encode_instr i = encode_fields (fields_of i)

-- ---- the other tables

-- 'A variable is its type's record'
unfoldable pub encode_var : ℕ → List ℕ
unfolding word
encode_var y = word y

-- 'A label is two words: kind and opening record'
unfoldable pub encode_label : LabelName → List ℕ
unfolding word
encode_label l = word l.kind ++ word l.opener

-- 'A string is offset and length of its first use'
unfoldable pub encode_string : StringEntry → List ℕ
unfolding word
encode_string s = word s.offset ++ word s.len

-- 'its value with its short mark (word at 8, then zero)'
unfoldable pub encode_float : FloatEntry → List ℕ
unfolding word wide bool_number
encode_float f = wide f.bits ++ word (bool_number f.short) ++ word 0

unfoldable pub encode_all : {X : Type 0} → (X → List ℕ) → List X → List ℕ
encode_all f [] = []
encode_all f (x ∷ l) = f x ++ encode_all f l

unfoldable pub code_of : Option (List Instr) → List Instr
code_of nothing = []
code_of (some c) = c

unfoldable pub body_mark : Option (List Instr) → ℕ
body_mark nothing = 0
body_mark (some c) = 1

-- 'A function entry is eight words: record, 1 if it has a body, first and count of instructions, of variables, of labels'; i, v and l are
-- the instructions, variables and labels of the functions before
unfoldable pub encode_functions : ℕ → ℕ → ℕ → List IrFunction → List ℕ
unfolding word code_of body_mark
encode_functions i v l [] = []
encode_functions i v l (f ∷ fs) =
    let n = length (code_of f.body) in
    let m = length f.vars in
    let k = length f.labels in
    word f.func ++ word (body_mark f.body) ++ word i ++ word n ++ word v ++ word m ++ word l ++ word k
    ++ encode_functions (i + n) (v + m) (l + k) fs

-- all functions' instructions, variables, labels, in order
unfoldable pub all_code : List IrFunction → List Instr
unfolding code_of
all_code [] = []
all_code (f ∷ l) = code_of f.body ++ all_code l

unfoldable pub all_vars : List IrFunction → List ℕ
all_vars [] = []
all_vars (f ∷ l) = f.vars ++ all_vars l

unfoldable pub all_labels : List IrFunction → List LabelName
all_labels [] = []
all_labels (f ∷ l) = f.labels ++ all_labels l

-- how many bytes an entry of each table has
abbrev pub instruction_bytes : ℕ
instruction_bytes = 32

abbrev pub variable_bytes : ℕ
variable_bytes = 4

abbrev pub label_bytes : ℕ
label_bytes = 8

abbrev pub function_bytes : ℕ
function_bytes = 32

abbrev pub string_bytes : ℕ
string_bytes = 8

abbrev pub float_bytes : ℕ
float_bytes = 16

-- ---- the answer

-- the bytes of the six tables
pub record Tables : Type 0 where
  pub instructions : List ℕ
  pub variables : List ℕ
  pub labels : List ℕ
  pub functions : List ℕ
  pub strings : List ℕ
  pub floats : List ℕ

-- how many entries each has, 'functions, instructions, variables, labels, strings, floats'
pub record Counts : Type 0 where
  pub functions : ℕ
  pub instructions : ℕ
  pub variables : ℕ
  pub labels : ℕ
  pub strings : ℕ
  pub floats : ℕ

-- 'An answer is the number, place and the record's span, or six counts'; with the counts, what the tables hold
pub data Conversion : Type 0 where
  Refused : AnswerWords → Conversion
  Converted : Counts → Tables → Conversion

unfoldable pub tables_of : IrProgram → Tables
unfolding encode_all encode_instr encode_var encode_label encode_functions encode_string encode_float all_code all_vars all_labels
tables_of p = record {
  instructions = encode_all encode_instr (all_code p.funcs);
  variables = encode_all encode_var (all_vars p.funcs);
  labels = encode_all encode_label (all_labels p.funcs);
  functions = encode_functions 0 0 0 p.funcs;
  strings = encode_all encode_string p.strings;
  floats = encode_all encode_float p.floats;
}

unfoldable pub counts_of : IrProgram → Counts
unfolding all_code all_vars all_labels
counts_of p = record {
  functions = length p.funcs;
  instructions = length (all_code p.funcs);
  variables = length (all_vars p.funcs);
  labels = length (all_labels p.funcs);
  strings = length p.strings;
  floats = length p.floats;
}

unfoldable pub conversion_of : List ℕ → Result IrProgram → Conversion
unfolding words_of counts_of tables_of
conversion_of tree (ok p) = Converted (counts_of p) (tables_of p)
conversion_of tree (err k r) = Refused (words_of tree (record { kind = k; place = r }))

-- what the conversion of a good tree answers
unfoldable pub conversion : List ℕ → List ℕ → Bool → Conversion
unfolding conversion_of convert program
conversion tree text needsMain = conversion_of tree (convert (program tree text) needsMain)
