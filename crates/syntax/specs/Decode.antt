-- The syntax tree that a good record tree stands for, document 01's table of kinds. What a record stands for is made from what the lower
-- records that it refers to stand for. On a tree that breaks a rule the answer is some tree; nothing rests on which. Assumes nothing.
use Prim.Native.Nat.{ℕ, zero, suc, ◌+◌, ◌*◌, ◌/◌, ◌%◌}
use Rattle.std.specs.Prelude.{Bool, eqb}
use mathlib.Core.List.{List, [], ◌∷◌, ◌++◌}
use Rattle.std.proofs.Math.Option.{Option, none as nothing, some}
use Rattle.std.proofs.Math.ListN.{get_or}
use mir.Syntax.{w64}
use Rattle.std.proofs.Common.{to_z}
use Rattle.laws.specs.Fix.{pick, below, fix}
use Rattle.records.specs.Words.{kind_of, detail_of, word_of, text_at, records, none, A, B, C, D, E}
use Rattle.records.specs.Kinds.{kind_function}
use Rattle.syntax.specs.Syntax.{Text, Ty, TInt, TFloat, TBool, TChar, TByte, TAddress, TArray, TCustom, TNull, Neg, Or, Expr, EInt, EFloat, EStr, EBool, EName, ENull, ESizeOf, EUnary, EBinary, ECall, Args, no_args, Value, ToType, Statement, SDeclare, SInit, SReturn, SCall, SIf, SIfElse, SWhile, SFor, SBreak, SContinue, Block, done, next, Param, Function, Program, unary_ops, binary_ops}

-- what a record stands for
pub data Node : Type 0 where
  -- none, or a record that stands for nothing by itself
  absent : Node
  expr : Expr → Node
  -- kinds 13 and 14: record, what it holds
  value : ℕ → Expr → Node
  to_type : ℕ → ℕ → Node
  stmt : Statement → Node
  -- kind 24: record, name, type
  variable : ℕ → Text → Option ℕ → Node
  func : Function → Node
  -- kind 12: item, rest
  cell : Node → Node → Node

-- ---- a node as what the record that refers to it expects there

unfoldable pub expr_of : Node → Expr
expr_of (expr e) = e
expr_of absent = ENull 0
expr_of (value r e) = ENull 0
expr_of (to_type r y) = ENull 0
expr_of (stmt s) = ENull 0
expr_of (variable r t y) = ENull 0
expr_of (func f) = ENull 0
expr_of (cell i l) = ENull 0

-- the text of a kind 6
unfoldable pub name_in : Expr → Text
name_in (EName r t) = t
name_in (EInt r v s u) = []
name_in (EFloat r b s) = []
name_in (EStr r o n t) = []
name_in (EBool r b) = []
name_in (ENull r) = []
name_in (ESizeOf r t) = []
name_in (EUnary r o a) = []
name_in (EBinary r o a b) = []
name_in (ECall r v l) = []

unfoldable pub with_arg : Node → Args → Args
with_arg (value r e) l = Value r e l
with_arg (to_type r y) l = ToType r y l
with_arg absent l = l
with_arg (expr e) l = l
with_arg (stmt s) l = l
with_arg (variable r t y) l = l
with_arg (func f) l = l
with_arg (cell i k) l = l

-- 'Arguments are lists of kinds 13 and 14'
unfoldable pub args_of : Node → Args
unfolding with_arg
args_of (cell i l) = with_arg i (args_of l)
args_of absent = no_args
args_of (expr e) = no_args
args_of (value r e) = no_args
args_of (to_type r y) = no_args
args_of (stmt s) = no_args
args_of (variable r t y) = no_args
args_of (func f) = no_args

unfoldable pub with_statement : Node → Block → Block
with_statement (stmt s) b = next s b
with_statement absent b = b
with_statement (expr e) b = b
with_statement (value r e) b = b
with_statement (to_type r y) b = b
with_statement (variable r t y) b = b
with_statement (func f) b = b
with_statement (cell i k) b = b

-- 'bodies lists of 15 to 23'
unfoldable pub block_of : Node → Block
unfolding with_statement
block_of (cell i l) = with_statement i (block_of l)
block_of absent = done
block_of (expr e) = done
block_of (value r e) = done
block_of (to_type r y) = done
block_of (stmt s) = done
block_of (variable r t y) = done
block_of (func f) = done

unfoldable pub or_zero : Option ℕ → ℕ
or_zero nothing = 0
or_zero (some y) = y

unfoldable pub with_param : Node → List Param → List Param
unfolding or_zero
with_param (variable r t y) l = record { rec_of = r; name = t; ty = or_zero y } ∷ l
with_param absent l = l
with_param (expr e) l = l
with_param (value r e) l = l
with_param (to_type r y) l = l
with_param (stmt s) l = l
with_param (func f) l = l
with_param (cell i k) l = l

-- 'parameters lists of typed 24'
unfoldable pub params_of : Node → List Param
unfolding with_param
params_of (cell i l) = with_param i (params_of l)
params_of absent = []
params_of (expr e) = []
params_of (value r e) = []
params_of (to_type r y) = []
params_of (stmt s) = []
params_of (variable r t y) = []
params_of (func f) = []

-- the variable of a For
unfoldable pub variable_name : Node → Text
variable_name (variable r t y) = t
variable_name absent = []
variable_name (expr e) = []
variable_name (value r e) = []
variable_name (to_type r y) = []
variable_name (stmt s) = []
variable_name (func f) = []
variable_name (cell i l) = []

unfoldable pub variable_type : Node → Option ℕ
variable_type (variable r t y) = y
variable_type absent = nothing
variable_type (expr e) = nothing
variable_type (value r e) = nothing
variable_type (to_type r y) = nothing
variable_type (stmt s) = nothing
variable_type (func f) = nothing
variable_type (cell i l) = nothing

unfoldable pub functions_in : Node → List Function
functions_in (func f) = f ∷ []
functions_in absent = []
functions_in (expr e) = []
functions_in (value r e) = []
functions_in (to_type r y) = []
functions_in (stmt s) = []
functions_in (variable r t y) = []
functions_in (cell i l) = []

-- ---- parts of a record

-- the bit of weight w in a detail
unfoldable pub bit : ℕ → ℕ → Bool
bit w n = eqb (n / w % 2) 1

-- 'FFFFFFFF (hexadecimal) in a word means none'
unfoldable pub reference : ℕ → Option ℕ
unfolding pick
reference w = pick (eqb w none) nothing (some w)

module _ (tree text : List ℕ) where
  -- the text at words k and k + 1
  unfoldable pub text_of : ℕ → ℕ → Text
  unfolding word_of text_at
  text_of r k = text_at text (word_of tree r k) (word_of tree r (suc k))

  -- the 64 bits at words k and k + 1, 'low, high'
  unfoldable pub wide_of : ℕ → ℕ → ℕ
  unfolding word_of
  wide_of r k = word_of tree r k + word_of tree r (suc k) * 4294967296

  -- kind 1: '1 Int, 2 Float (each with 16 for short, 32 for unsigned Int), 3 Bool, 4 Char, 5 Byte, 6 Address (A inner), 7 Array (A element,
  -- B C count low, high), 8 Custom (A B name), 9 Null'
  unfoldable pub type_at : ℕ → Ty
  unfolding detail_of word_of text_of wide_of bit
  type_at r =
      let d = detail_of tree r in
      get_or (TNull ∷ TInt (bit 16 d) (bit 32 d) ∷ TFloat (bit 16 d) ∷ TBool ∷ TChar ∷ TByte ∷ TAddress (word_of tree r A)
      ∷ TArray (word_of tree r A) (wide_of r B) ∷ TCustom (text_of r A) ∷ TNull ∷ []) (d % 16) TNull

  -- 'D E key text'
  unfoldable pub key_at : ℕ → Text
  unfolding text_of
  key_at r = text_of r D

  -- what the record in word k of record r stands for, by g: what lower records stand for
  unfoldable pub child : (ℕ → Node) → ℕ → ℕ → Node
  unfolding below word_of
  child g r k = below g r (word_of tree r k) absent

  unfoldable pub expr_in : (ℕ → Node) → ℕ → ℕ → Expr
  unfolding child expr_of
  expr_in g r k = expr_of (child g r k)

  unfoldable pub block_in : (ℕ → Node) → ℕ → ℕ → Block
  unfolding child block_of
  block_in g r k = block_of (child g r k)

  -- ---- one definition for each kind that stands for something: g says what lower records stand for, r is the record

  unfoldable pub nothing_at : (ℕ → Node) → ℕ → Node
  nothing_at g r = absent

  -- '2 Int: 1 short, 2 unsigned; A B value low, high'
  unfoldable pub int_at : (ℕ → Node) → ℕ → Node
  unfolding detail_of wide_of bit
  int_at g r = expr (EInt r (to_z w64 (wide_of r A)) (bit 1 (detail_of tree r)) (bit 2 (detail_of tree r)))

  -- '3 Float: 1 short; A B bits of the f64'
  unfoldable pub float_at : (ℕ → Node) → ℕ → Node
  unfolding detail_of wide_of bit
  float_at g r = expr (EFloat r (wide_of r A) (bit 1 (detail_of tree r)))

  -- '4 Str, 6 Name: A B text'
  unfoldable pub str_at : (ℕ → Node) → ℕ → Node
  unfolding word_of text_of
  str_at g r = expr (EStr r (word_of tree r A) (word_of tree r B) (text_of r A))

  -- '5 Bool, 7 Null. Bool: detail 0 or 1'
  unfoldable pub bool_at : (ℕ → Node) → ℕ → Node
  unfolding detail_of bit
  bool_at g r = expr (EBool r (bit 1 (detail_of tree r)))

  unfoldable pub name_at : (ℕ → Node) → ℕ → Node
  unfolding text_of
  name_at g r = expr (EName r (text_of r A))

  unfoldable pub null_at : (ℕ → Node) → ℕ → Node
  null_at g r = expr (ENull r)

  -- '8 SizeOf: A type'
  unfoldable pub size_of_at : (ℕ → Node) → ℕ → Node
  unfolding word_of
  size_of_at g r = expr (ESizeOf r (word_of tree r A))

  -- '9 Unary, 10 Binary: operator from 0 in the order of `UnaryOp`, `BinaryOp`; A, B operands'
  unfoldable pub unary_at : (ℕ → Node) → ℕ → Node
  unfolding detail_of expr_in
  unary_at g r = expr (EUnary r (get_or unary_ops (detail_of tree r) Neg) (expr_in g r A))

  unfoldable pub binary_at : (ℕ → Node) → ℕ → Node
  unfolding detail_of expr_in
  binary_at g r = expr (EBinary r (get_or binary_ops (detail_of tree r) Or) (expr_in g r A) (expr_in g r B))

  -- '11 Call: A B verb, C arguments'
  unfoldable pub call_at : (ℕ → Node) → ℕ → Node
  unfolding text_of child args_of
  call_at g r = expr (ECall r (text_of r A) (args_of (child g r C)))

  -- '12 list: A item, B rest or none'
  unfoldable pub list_at : (ℕ → Node) → ℕ → Node
  unfolding child
  list_at g r = cell (child g r A) (child g r B)

  -- '13 value, 14 type argument: A'
  unfoldable pub value_at : (ℕ → Node) → ℕ → Node
  unfolding expr_in
  value_at g r = value r (expr_in g r A)

  unfoldable pub type_argument_at : (ℕ → Node) → ℕ → Node
  unfolding word_of
  type_argument_at g r = to_type r (word_of tree r A)

  -- '15 Declare: A B name, C type'
  unfoldable pub declare_at : (ℕ → Node) → ℕ → Node
  unfolding text_of word_of
  declare_at g r = stmt (SDeclare r (text_of r A) (word_of tree r C))

  -- '16 Init: 1 constant; A B name, C value'
  unfoldable pub init_at : (ℕ → Node) → ℕ → Node
  unfolding detail_of bit text_of expr_in
  init_at g r = stmt (SInit r (bit 1 (detail_of tree r)) (text_of r A) (expr_in g r C))

  -- '17 Return, 18 call statement: A'
  unfoldable pub return_at : (ℕ → Node) → ℕ → Node
  unfolding expr_in
  return_at g r = stmt (SReturn r (expr_in g r A))

  unfoldable pub call_statement_at : (ℕ → Node) → ℕ → Node
  unfolding expr_in
  call_statement_at g r = stmt (SCall r (expr_in g r A))

  -- '19 If: 1 has otherwise (else C none); A condition, B then, C otherwise'
  unfoldable pub if_at : (ℕ → Node) → ℕ → Node
  unfolding pick detail_of bit expr_in block_in
  if_at g r = pick (bit 1 (detail_of tree r))
      (stmt (SIfElse r (expr_in g r A) (block_in g r B) (block_in g r C)))
      (stmt (SIf r (expr_in g r A) (block_in g r B)))

  -- '20 While: A condition, B body'
  unfoldable pub while_at : (ℕ → Node) → ℕ → Node
  unfolding expr_in block_in
  while_at g r = stmt (SWhile r (expr_in g r A) (block_in g r B))

  -- '21 For: A variable, B from, C until, D body'
  unfoldable pub for_at : (ℕ → Node) → ℕ → Node
  unfolding child variable_name variable_type expr_in block_in
  for_at g r = stmt (SFor r (variable_name (child g r A)) (variable_type (child g r A)) (expr_in g r B) (expr_in g r C) (block_in g r D))

  -- '22 Break, 23 Continue: none'
  unfoldable pub break_at : (ℕ → Node) → ℕ → Node
  break_at g r = stmt (SBreak r)

  unfoldable pub continue_at : (ℕ → Node) → ℕ → Node
  continue_at g r = stmt (SContinue r)

  -- '24 variable: A B name, C type (none only in For)'
  unfoldable pub variable_at : (ℕ → Node) → ℕ → Node
  unfolding text_of word_of reference
  variable_at g r = variable r (text_of r A) (reference (word_of tree r C))

  -- '25 function: 1 external, 2 variadic, 4 has body (else E none); A name and B mangled name (kind 6), C parameters, D return type or
  -- none, E body'
  unfoldable pub function_at : (ℕ → Node) → ℕ → Node
  unfolding pick detail_of word_of bit reference name_in expr_in child params_of block_in
  function_at g r = func (record {
    rec_of = r;
    name = name_in (expr_in g r A);
    mangled_name = name_in (expr_in g r B);
    return_type = reference (word_of tree r D);
    params = params_of (child g r C);
    variadic = bit 2 (detail_of tree r);
    body = pick (bit 4 (detail_of tree r)) (some (block_in g r E)) nothing;
    external = bit 1 (detail_of tree r);
  })

  -- by kind, 0 to 25
  unfoldable pub kinds : List ((ℕ → Node) → ℕ → Node)
  unfolding nothing_at int_at float_at str_at bool_at name_at null_at size_of_at unary_at binary_at call_at list_at value_at type_argument_at declare_at init_at return_at call_statement_at if_at while_at for_at break_at continue_at variable_at function_at
  kinds = nothing_at ∷ nothing_at ∷ int_at ∷ float_at ∷ str_at ∷ bool_at ∷ name_at ∷ null_at ∷ size_of_at ∷ unary_at ∷ binary_at ∷ call_at ∷ list_at
      ∷ value_at ∷ type_argument_at ∷ declare_at ∷ init_at ∷ return_at ∷ call_statement_at ∷ if_at ∷ while_at ∷ for_at ∷ break_at ∷ continue_at
      ∷ variable_at ∷ function_at ∷ []

  unfoldable pub node_step : (ℕ → Node) → ℕ → Node
  unfolding kind_of kinds nothing_at
  node_step g r = get_or kinds (kind_of tree r) nothing_at g r

  -- what record r stands for
  unfoldable pub node : ℕ → Node
  unfolding fix node_step
  node r = fix absent node_step r

  -- the functions among the first n records, 'Functions count in record order'
  unfoldable pub functions_below : ℕ → List Function
  unfolding pick kind_of node functions_in
  functions_below zero = []
  functions_below (suc r) = functions_below r ++ pick (eqb (kind_of tree r) kind_function) (functions_in (node r)) []

  unfoldable pub program : Program
  unfolding functions_below type_at key_at
  program = record { functions = functions_below (records tree); type_of = type_at; key_of = key_at }
