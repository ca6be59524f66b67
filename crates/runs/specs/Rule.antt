-- The rule: 'any fixed function giving a value, never a stop, for literals at a type, and a value or a stop for copies into a type, Zero,
-- unary, binary, casts, truth, returns and calls (a call's result may depend on earlier calls)'. Assumes nothing: these are definitions.
use Rattle.std.specs.Prelude.{ℕ, Bool, List, [], ◌∷◌, ℤ}
use Rattle.std.proofs.Math.Option.{Option}
use Rattle.syntax.specs.Syntax.{Text, UnaryOp, BinaryOp, int_type, float_type, bool_type, null_type, address_of_char}

-- 'a value or a stop'
pub data ValueOrStop (W : Type 0) : Type 0 where
  gives : W → ValueOrStop W
  halt : ValueOrStop W

pub data Truth : Type 0 where
  holds fails halts : Truth

-- a value with its type's record
abbrev pub TypedValue : Type 0 → Type 0
TypedValue W = ℕ × W

-- calls so far, in order: the function's record and its arguments
abbrev pub CallsMade : Type 0 → Type 0
CallsMade W = List (ℕ × List (TypedValue W))

-- what a literal is, without its type; a float by its bits
pub data Content : Type 0 where
  IntContent : ℤ → Content
  FloatContent : ℕ → Content
  BoolContent : Bool → Content
  StringContent : Text → Content
  NullContent : Content

pub record Rule (W : Type 0) : Type 0 where
  pub literal : Content → ℕ → W
  -- into a type
  pub copy : ℕ → TypedValue W → ValueOrStop W
  -- the Zero of a type
  pub zero : ℕ → ValueOrStop W
  -- the result's type, the operands
  pub unary : UnaryOp → ℕ → TypedValue W → ValueOrStop W
  pub binary : BinaryOp → ℕ → TypedValue W → TypedValue W → ValueOrStop W
  pub cast : ℕ → TypedValue W → ValueOrStop W
  pub truth : TypedValue W → Truth
  -- the function's return type, what it returns
  pub return : Option ℕ → TypedValue W → ValueOrStop W
  -- the calls before, the function's record, its arguments
  pub call : CallsMade W → ℕ → List (TypedValue W) → ValueOrStop W

-- Who answers calls is a parameter of both runs: told the calls before, the function's record, the type of the result's destination (`none` for
-- a call statement) and the arguments, it gives a reply, and the calls that were made for it. A reply that is still pending holds the run up: it
-- has not ended and goes no further. (So that a call may be answered by a run that may be endless.)
pub data Reply (W : Type 0) : Type 0 where
  comes : ValueOrStop W → Reply W
  pending : Reply W

abbrev pub Answers : Type 0 → Type 0
Answers W = CallsMade W → ℕ → Option ℕ → List (TypedValue W) → Reply W × CallsMade W

-- answered by the rule, always, with one call: the answers of demand 3
unfoldable pub asked : {W : Type 0} → Rule W → Answers W
asked R h f y vs = (comes (R.call h f vs), (f, vs) ∷ [])

-- a literal with its tag or mark: value, short, unsigned; bits, short
pub data Literal : Type 0 where
  IntLiteral : ℤ → Bool → Bool → Literal
  FloatLiteral : ℕ → Bool → Literal
  BoolLiteral : Bool → Literal
  StringLiteral : Text → Literal
  NullLiteral : Literal

unfoldable pub content : Literal → Content
content (IntLiteral v s u) = IntContent v
content (FloatLiteral b s) = FloatContent b
content (BoolLiteral b) = BoolContent b
content (StringLiteral t) = StringContent t
content NullLiteral = NullContent

-- 'Both runs read a literal at its tag's or mark's type, null or a string at that of the unfitted expression'
unfoldable pub literal_type : Literal → ℕ
literal_type (IntLiteral v s u) = int_type s u
literal_type (FloatLiteral b s) = float_type s
literal_type (BoolLiteral b) = bool_type
literal_type (StringLiteral t) = address_of_char
literal_type NullLiteral = null_type

-- what an expression comes to, or an operand holds: a literal, which fitting may still change, or a value of a type
pub data Datum (W : Type 0) : Type 0 where
  constant : Literal → Datum W
  computed : ℕ → W → Datum W

unfoldable pub read : {W : Type 0} → Rule W → Datum W → TypedValue W
read R (constant l) = (literal_type l, R.literal (content l) (literal_type l))
read R (computed y v) = (y, v)

unfoldable pub read_all : {W : Type 0} → Rule W → List (Datum W) → List (TypedValue W)
read_all R [] = []
read_all R (d ∷ ds) = read R d ∷ read_all R ds

-- how a run ends: 'Return ends with the rule's answer, passing the last instruction or statement without. A stop ends either run'
pub data Ending (W : Type 0) : Type 0 where
  passed : Ending W
  returns : W → Ending W
  halted : Ending W
