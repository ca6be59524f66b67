-- The syntax tree: the Rust's parser/postparser/structs.rs, each node with the number of its record (the first ℕ of its constructor), which
-- takes the place of the Rust's span. A type inside a node is the number of its type record. Assumes nothing: these are definitions.
use Rattle.std.specs.Prelude.{ℕ, Bool, true, false, List, [], ◌∷◌, ℤ}
use Rattle.std.proofs.Math.Option.{Option}

-- bytes, taken as given
abbrev pub Text : Type 0
Text = List ℕ

-- `Type`, an inner type again as a record number: 'in a tree no two types are equal'
pub data Ty : Type 0 where
  -- short, unsigned
  TInt : Bool → Bool → Ty
  -- short
  TFloat : Bool → Ty
  TBool TChar TByte : Ty
  TAddress : ℕ → Ty
  -- element, count
  TArray : ℕ → ℕ → Ty
  TCustom : Text → Ty
  TNull : Ty

pub data UnaryOp : Type 0 where
  Neg BitNot Not : UnaryOp

pub data BinaryOp : Type 0 where
  Or And BitOr BitXor BitAnd Eq NotEq Lt Le Gt Ge Shl Shr Add Sub Mul Div Rem : BinaryOp

mutual
  -- `Expr` with its `ExprKind`
  pub data Expr : Type 0 where
    -- value as a signed number of 64 bits, short, unsigned
    EInt : ℕ → ℤ → Bool → Bool → Expr
    -- the bits of the f64, short
    EFloat : ℕ → ℕ → Bool → Expr
    -- offset and length, the text
    EStr : ℕ → ℕ → ℕ → Text → Expr
    EBool : ℕ → Bool → Expr
    EName : ℕ → Text → Expr
    ENull : ℕ → Expr
    -- the type
    ESizeOf : ℕ → ℕ → Expr
    EUnary : ℕ → UnaryOp → Expr → Expr
    EBinary : ℕ → BinaryOp → Expr → Expr → Expr
    -- the verb, the arguments
    ECall : ℕ → Text → Args → Expr

  -- `Vec<Argument>`: `Value` and `Previous` are one kind of record, `ToType` the other
  pub data Args : Type 0 where
    no_args : Args
    Value : ℕ → Expr → Args → Args
    ToType : ℕ → ℕ → Args → Args

mutual
  -- `Statement` with its `StatementKind`
  pub data Statement : Type 0 where
    -- name, type
    SDeclare : ℕ → Text → ℕ → Statement
    -- constant, name, value
    SInit : ℕ → Bool → Text → Expr → Statement
    SReturn : ℕ → Expr → Statement
    SCall : ℕ → Expr → Statement
    -- `otherwise: None`
    SIf : ℕ → Expr → Block → Statement
    -- `otherwise: Some(..)`
    SIfElse : ℕ → Expr → Block → Block → Statement
    SWhile : ℕ → Expr → Block → Statement
    -- variable, its type if the loop declares it, from, until, body
    SFor : ℕ → Text → Option ℕ → Expr → Expr → Block → Statement
    SBreak : ℕ → Statement
    SContinue : ℕ → Statement

  -- `Vec<Statement>`
  pub data Block : Type 0 where
    done : Block
    next : Statement → Block → Block

pub record Param : Type 0 where
  pub rec_of : ℕ
  pub name : Text
  pub ty : ℕ

pub record Function : Type 0 where
  pub rec_of : ℕ
  pub name : Text
  pub mangled_name : Text
  pub return_type : Option ℕ
  pub params : List Param
  pub variadic : Bool
  pub body : Option Block
  pub external : Bool

-- `Program`, with the types that the records of kind 1 stand for and 'key text', 'what the Rust prints for the type'
pub record Program : Type 0 where
  pub functions : List Function
  pub type_of : ℕ → Ty
  pub key_of : ℕ → Text

-- the record of an expression: where the Rust says `expr.span`
unfoldable pub place : Expr → ℕ
place (EInt r v s u) = r
place (EFloat r b s) = r
place (EStr r o n t) = r
place (EBool r b) = r
place (EName r t) = r
place (ENull r) = r
place (ESizeOf r t) = r
place (EUnary r o a) = r
place (EBinary r o a b) = r
place (ECall r v l) = r

-- 'operator from 0 in the order of `UnaryOp`, `BinaryOp`'
abbrev pub unary_ops : List UnaryOp
unary_ops = Neg ∷ BitNot ∷ Not ∷ []

abbrev pub binary_ops : List BinaryOp
binary_ops = Or ∷ And ∷ BitOr ∷ BitXor ∷ BitAnd ∷ Eq ∷ NotEq ∷ Lt ∷ Le ∷ Gt ∷ Ge ∷ Shl ∷ Shr ∷ Add ∷ Sub ∷ Mul ∷ Div ∷ Rem ∷ []

abbrev pub unary_number : UnaryOp → ℕ
unary_number Neg = 0
unary_number BitNot = 1
unary_number Not = 2

abbrev pub binary_number : BinaryOp → ℕ
binary_number Or = 0
binary_number And = 1
binary_number BitOr = 2
binary_number BitXor = 3
binary_number BitAnd = 4
binary_number Eq = 5
binary_number NotEq = 6
binary_number Lt = 7
binary_number Le = 8
binary_number Gt = 9
binary_number Ge = 10
binary_number Shl = 11
binary_number Shr = 12
binary_number Add = 13
binary_number Sub = 14
binary_number Mul = 15
binary_number Div = 16
binary_number Rem = 17

-- 'Types come first: the twelve Int long, Int short, unsigned long, unsigned short, Float long, Float short, Bool, Char, Byte, Null,
-- Address of Char, Address of Null': their record numbers
abbrev pub int_type : Bool → Bool → ℕ
int_type false false = 0
int_type true false = 1
int_type false true = 2
int_type true true = 3

abbrev pub float_type : Bool → ℕ
float_type false = 4
float_type true = 5

abbrev pub bool_type : ℕ
bool_type = 6

abbrev pub null_type : ℕ
null_type = 9

abbrev pub address_of_char : ℕ
address_of_char = 10

abbrev pub address_of_null : ℕ
address_of_null = 11
