-- ir/structs.rs: operands, instructions, and the numbering of variables, labels, strings and floats. Assumes nothing: these are definitions.
-- What converts takes a `State` and leaves a result, the instructions that it emits, in order, and the next state: the Rust's `ir_func`,
-- `self.ir` and `instrs`, which it changes in place.
use Rattle.std.specs.Prelude.{ℕ, suc, Bool, true, false, ◌&&◌, List, [], ◌∷◌, ◌++◌, eqb, ℤ, length, get_or}
use Rattle.std.specs.Bool.{beq}
use Rattle.std.proofs.Math.Option.{Option, none, some}
unfoldable pub use Rattle.records.specs.Words.{same_text}
use Rattle.syntax.specs.Syntax.{Text, UnaryOp, BinaryOp}
use Rattle.conversion.specs.ConvertError.{ConvertErrorKind, Result, ok, err}

-- ---- what is emitted

-- a variable: its number in its function, and its type's record
pub record VarId : Type 0 where
  pub id : ℕ
  pub ty : ℕ

-- `Operand`; the Rust's `Address` is never made
pub data Operand : Type 0 where
  OVar : VarId → Operand
  -- value, short, unsigned
  OInt : ℤ → Bool → Bool → Operand
  -- its number among the floats
  OFloat : ℕ → Operand
  OBool : Bool → Operand
  -- its number among the strings
  ODataAddress : ℕ → Operand
  ONull : Operand

-- `Instr`, a label by its number. 'Each call's arguments stand directly before it as Arg'; a call names its function's record, a comment
-- its statement's
pub data Instr : Type 0 where
  Copy : VarId → Operand → Instr
  Unary : VarId → UnaryOp → Operand → Instr
  Binary : VarId → BinaryOp → Operand → Operand → Instr
  Cast : VarId → Operand → Instr
  Zero : VarId → Instr
  Arg : Operand → Instr
  Call : Option VarId → ℕ → Instr
  Label : ℕ → Instr
  Jump : ℕ → Instr
  JumpIfNot : Operand → ℕ → Instr
  Return : Operand → Instr
  Comment : ℕ → Instr

-- A label is its kind and the record that opens it, where the Rust has a name. The Rust's names of one function: `loop_P_start`, `loop_P_end`
-- and `loop_P_start_check`, P the numbers of the blocks down to the loop's own; `condition_P_otherwise` and `condition_P_end`, P those down
-- to the `then` block; `logic_N_rhs` and `logic_N_end`, N the count of labels when the And or Or is met. A loop, an If, an And or an Or has a
-- P or an N that no other of its function has, and is converted once, so that two names are equal exactly if kind and opening record are.
pub record LabelName : Type 0 where
  pub kind : ℕ
  pub opener : ℕ

-- 'kind (1 loop start, 2 loop end, 3 loop check, 4 otherwise, 5 condition end, 6 logic rhs, 7 logic end)'
abbrev pub loop_start : ℕ → LabelName
loop_start r = record { kind = 1; opener = r }

abbrev pub loop_end : ℕ → LabelName
loop_end r = record { kind = 2; opener = r }

abbrev pub loop_check : ℕ → LabelName
loop_check r = record { kind = 3; opener = r }

abbrev pub otherwise_label : ℕ → LabelName
otherwise_label r = record { kind = 4; opener = r }

abbrev pub condition_end : ℕ → LabelName
condition_end r = record { kind = 5; opener = r }

abbrev pub logic_rhs : ℕ → LabelName
logic_rhs r = record { kind = 6; opener = r }

abbrev pub last_label_kind : ℕ
last_label_kind = 7

abbrev pub logic_end : ℕ → LabelName
logic_end r = record { kind = last_label_kind; opener = r }

-- a string: 'offset and length of its first use', and its text, by which it is found
pub record StringEntry : Type 0 where
  pub offset : ℕ
  pub len : ℕ
  pub text : Text

-- what strings say
unfoldable pub texts : List StringEntry → List Text
texts [] = []
texts (e ∷ l) = e.text ∷ texts l

-- 'a float entry is its value with its short mark'
pub record FloatEntry : Type 0 where
  pub bits : ℕ
  pub short : Bool

-- ---- what converting changes

-- types of the variables and names of the labels of the function at hand, strings and floats of the program
pub record State : Type 0 where
  pub vars : List ℕ
  pub labels : List LabelName
  pub strings : List StringEntry
  pub floats : List FloatEntry

pub data Out (A : Type 0) : Type 0 where
  made : A → List Instr → State → Out A
  failed : ConvertErrorKind → ℕ → Out A

abbrev pub M : Type 0 → Type 0
M A = State → Out A

unfoldable pub after : {A : Type 0} → List Instr → Out A → Out A
after c (made a d s) = made a (c ++ d) s
after c (failed k r) = failed k r

unfoldable pub bind : {A B : Type 0} → Out A → (A → M B) → Out B
unfolding after
bind (made a c s) f = after c (f a s)
bind (failed k r) f = failed k r

infixl 10 ◌>>=◌
infixl 10 ◌>>◌
unfoldable pub ◌>>=◌ : {A B : Type 0} → M A → (A → M B) → M B
unfolding bind
◌>>=◌ m f s = bind (m s) f

unfoldable pub ◌>>◌ : {A B : Type 0} → M A → M B → M B
unfolding bind
◌>>◌ m f s = bind (m s) (λ a. f)

unfoldable pub pure : {A : Type 0} → A → M A
pure a s = made a [] s

unfoldable pub fail : {A : Type 0} → ConvertErrorKind → ℕ → M A
fail k r s = failed k r

-- what changes nothing but may fail
unfoldable pub lift : {A : Type 0} → Result A → M A
lift (ok a) s = made a [] s
lift (err k r) s = failed k r

-- `instrs.push(i)`
unfoldable pub emit : Instr → M (Unit {0})
emit i s = made tt (i ∷ []) s

-- ---- numbering

-- `iter().position(..)`
unfoldable pub position : {A : Type 0} → (A → Bool) → List A → Option ℕ
position p [] = none
position p (a ∷ l) = elim (p a) [ true ↦ some 0 | false ↦ elim (position p l) [ none ↦ none | some i ↦ some (suc i) ] ]

-- `new_var`: 'its id is its index in `vars`'
unfoldable pub new_var : ℕ → M VarId
new_var y s = made (record { id = length s.vars; ty = y }) []
    (record { vars = s.vars ++ (y ∷ []); labels = s.labels; strings = s.strings; floats = s.floats })

-- the number of what is found, or of a new entry at the end
unfoldable pub numbered : Option ℕ → State → State → ℕ → Out ℕ
numbered (some i) s t n = made i [] s
numbered none s t n = made n [] t

unfoldable pub same_label : LabelName → LabelName → Bool
same_label a b = eqb a.kind b.kind && eqb a.opener b.opener

-- `label_id`: 'added the first time it is asked'
unfoldable pub label_id : LabelName → M ℕ
unfolding position numbered same_label
label_id l s = numbered (position (same_label l) s.labels) s
    (record { vars = s.vars; labels = s.labels ++ (l ∷ []); strings = s.strings; floats = s.floats }) (length s.labels)

-- `string_id`
unfoldable pub string_id : StringEntry → M ℕ
unfolding position numbered same_text
string_id e s = numbered (position (λ x. same_text e.text x.text) s.strings) s
    (record { vars = s.vars; labels = s.labels; strings = s.strings ++ (e ∷ []); floats = s.floats }) (length s.strings)

-- 'equal only by bits and mark'
unfoldable pub same_float : FloatEntry → FloatEntry → Bool
same_float a b = eqb a.bits b.bits && beq a.short b.short

-- `float_id`
unfoldable pub float_id : FloatEntry → M ℕ
unfolding position numbered same_float
float_id e s = numbered (position (same_float e) s.floats) s
    (record { vars = s.vars; labels = s.labels; strings = s.strings; floats = s.floats ++ (e ∷ []) }) (length s.floats)

-- `self.ir.floats[id].0`
unfoldable pub float_bits : ℕ → M ℕ
float_bits i s = made (get_or s.floats i (record { bits = 0; short = false })).bits [] s

-- ---- what is made

-- `Function`: its record, its body, and its tables
pub record IrFunction : Type 0 where
  pub func : ℕ
  pub body : Option (List Instr)
  pub vars : List ℕ
  pub labels : List LabelName

-- `Program`
pub record IrProgram : Type 0 where
  pub funcs : List IrFunction
  pub strings : List StringEntry
  pub floats : List FloatEntry
