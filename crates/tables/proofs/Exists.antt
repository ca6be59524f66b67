-- What a program must be for its tables to say all of it: what an instruction names exists, and each number fits its field.
-- Definitions for proofs. Assumes nothing.
use mathlib.Core.Path.{◌≡◌}
use Prim.Native.Nat.{ℕ, ◌<◌}
use mathlib.Core.Option.{Option, none as nothing, some}
use lib.ListN.{length, get_elem?}
use mir.Syntax.{w64}
use mir.Val.{SFits}
use Rattle.laws.specs.All.{All}
use Rattle.syntax.specs.Syntax.{Text}
use Rattle.conversion.specs.Ir.{VarId, Operand, OVar, OInt, OFloat, OBool, ODataAddress, ONull, Instr, Copy, Unary, Binary, Cast, Zero, Arg, Call, Label, Jump, JumpIfNot, Return, Comment, LabelName, texts, State, IrFunction, IrProgram}
use Rattle.conversion.specs.Fits.{StringStands, FloatFits}
use Rattle.conversion.specs.Written.{Counts, code_of, counts_of}
use Rattle.tables.specs.Read.{◌>>=◌, ReadBody}

-- a word of 32 bits holds it
abbrev pub Word : ℕ → Type 0
Word n = n < 4294967296

-- ---- what an instruction names, in a function whose variables and labels, and a program whose strings and floats, are those of s

-- a variable of the function, with its type
pub record VarIn (s : State) (x : VarId) : Type 0 where
  pub typed : get_elem? s.vars x.id ≡ some x.ty

-- a literal's value is a signed number of 64 bits
abbrev pub OperandIn : State → Operand → Type 0
OperandIn s (OVar x) = VarIn s x
OperandIn s (OInt v short unsigned) = SFits w64 v
OperandIn s (OFloat i) = i < length s.floats
OperandIn s (OBool b) = Unit {0}
OperandIn s (ODataAddress i) = i < length s.strings
OperandIn s ONull = Unit {0}

abbrev pub DestinationIn : State → Option VarId → Type 0
DestinationIn s nothing = Unit {0}
DestinationIn s (some x) = VarIn s x

abbrev pub LabelIn : State → ℕ → Type 0
LabelIn s l = l < length s.labels

-- a call's function and a comment's statement are record numbers
abbrev pub InstrIn : State → Instr → Type 0
InstrIn s (Copy x o) = VarIn s x × OperandIn s o
InstrIn s (Unary x u o) = VarIn s x × OperandIn s o
InstrIn s (Binary x b o p) = VarIn s x × OperandIn s o × OperandIn s p
InstrIn s (Cast x o) = VarIn s x × OperandIn s o
InstrIn s (Zero x) = VarIn s x
InstrIn s (Arg o) = OperandIn s o
InstrIn s (Call x f) = DestinationIn s x × Word f
InstrIn s (Label l) = LabelIn s l
InstrIn s (Jump l) = LabelIn s l
InstrIn s (JumpIfNot o l) = OperandIn s o × LabelIn s l
InstrIn s (Return o) = OperandIn s o
InstrIn s (Comment r) = Word r

-- ---- entries

-- one of the seven kinds
pub record KnownLabel (l : LabelName) : Type 0 where
  pub some_kind : 0 < l.kind
  pub known : l.kind < 8
  pub opener : Word l.opener

-- ---- functions and programs

abbrev pub state_of : IrProgram → IrFunction → State
state_of p f = record { vars = f.vars; labels = f.labels; strings = p.strings; floats = p.floats }

pub record FunctionFits (p : IrProgram) (f : IrFunction) : Type 0 where
  pub func : Word f.func
  pub vars : All Word f.vars
  pub labels : All KnownLabel f.labels
  pub body : All (InstrIn (state_of p f)) (code_of f.body)

-- each count fits a word
pub record CountsFit (c : Counts) : Type 0 where
  pub functions : Word c.functions
  pub instructions : Word c.instructions
  pub variables : Word c.variables
  pub labels : Word c.labels
  pub strings : Word c.strings
  pub floats : Word c.floats

-- a program all of whose names exist and whose numbers fit, its strings in `text`
pub record ProgramFits (text : Text) (p : IrProgram) : Type 0 where
  pub funcs : All (FunctionFits p) p.funcs
  pub strings : All (StringStands text) p.strings
  pub floats : All FloatFits p.floats
  pub counts : CountsFit (counts_of p)

-- ---- what is to be read

-- the body of function i of a program
unfoldable pub body_of : IrProgram → ℕ → Option ReadBody
unfolding ◌>>=◌ texts
body_of p i = do
  f ← get_elem? p.funcs i
  c ← f.body
  some (record { func = f.func; instrs = c; vars = f.vars; labels = f.labels; strings = texts p.strings; floats = p.floats })
