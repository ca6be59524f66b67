-- The definitions of conversion as chains of steps that stay shut, so that a chain can be taken apart step by step.
-- By computing: each chain is the definition's own text.
use mathlib.Core.Path.{◌≡◌, refl}
use mathlib.Core.List.{List, [], ◌∷◌}
use mathlib.Core.Option.{Option, none, some}
use mathlib.Core.Bool.{Bool, true, false, not, ◌&&◌}
use Prim.Native.Nat.{ℕ, suc}
use lib.Dec.{eqb}
use lib.IntN.{pos}
use Rattle.laws.specs.Fix.{pick}
use Rattle.syntax.specs.Syntax.{Text, TFloat, UnaryOp, BinaryOp, Lt, Add, Expr, EFloat, EStr, EUnary, EBinary, ECall, Args, Value, Statement, SDeclare, SInit, SReturn, SCall, SIf, SIfElse, SWhile, SFor, SBreak, SContinue, Block, next, Param, Function, Program, place, bool_type, null_type, address_of_null}
use Rattle.conversion.specs.ConvertError.{AlreadyDeclared, MissingReturn, WrongAssignType, WrongReturnType, NotBool, NotInteger}
use Rattle.conversion.specs.Ir.{VarId, Operand, OVar, OInt, OFloat, ODataAddress, Copy, Unary, Binary, Cast, Arg, Call, Label, Jump, JumpIfNot, Return, Comment, loop_start, loop_end, loop_check, otherwise_label, condition_end, logic_rhs, logic_end, State, M, ◌>>=◌, ◌>>◌, pure, fail, lift, emit, new_var, label_id, string_id, float_id, float_bits}
use Rattle.conversion.specs.Scope.{Variable, Scope, find_variable, with_variable, with_loop, declare}
use Rattle.conversion.specs.Expressions.{CallFunction, CallCast, Functions, unwrap_or, get_type, resolve_call, common_type}
use Rattle.conversion.specs.Types.{is_some}
use Rattle.conversion.specs.Functions.{declare_params, convert_body, always_returns}
use Rattle.conversion.specs.Statements.{cast_operand, refloat, fit_operand, expected_type, fit_from, fit_args, emit_args, convert_unary, convert_and, convert_or, cast_first, convert_other, convert_binary_by, call_function, call_value, convert_expr, convert_args, convert_cond, check_fits, zero_value, convert_declare, assign_to, convert_init, init_new, return_as, convert_return, call_statement, convert_call, convert_if, convert_if_else, convert_while_loop, check_bound, for_loop, for_int, convert_for_loop, convert_break, convert_continue, convert_statement, convert_block}

abbrev pub cast_steps : VarId → ℕ → M Operand
cast_steps x y = do
  dest ← new_var y
  emit (Cast dest (OVar x))
  pure (OVar dest)

pub cast_steps-is : (x : VarId) (y : ℕ) (s : State) → cast_operand true x y s ≡ cast_steps x y s
unfolding cast_operand
cast_steps-is x y s = refl

abbrev pub refloat_steps : ℕ → Bool → M Operand
refloat_steps i short = do
  b ← float_bits i
  j ← float_id (record { bits = b; short = short })
  pure (OFloat j)

pub refloat_steps-is : (i : ℕ) (short : Bool) (s : State) → refloat i short s ≡ refloat_steps i short s
unfolding refloat
refloat_steps-is i short s = refl

abbrev pub fit_steps : Program → ℕ → Operand → List Operand → Args → Function → M (List Operand)
fit_steps P k o os l f = do
  a ← fit_operand P o (expected_type f.params l k)
  as' ← fit_from P (suc k) os l f
  pure (a ∷ as')

pub fit_steps-is : (P : Program) (k : ℕ) (o : Operand) (os : List Operand) (l : Args) (f : Function) (s : State)
    → fit_from P k (o ∷ os) l f s ≡ fit_steps P k o os l f s
unfolding fit_from
fit_steps-is P k o os l f s = refl

abbrev pub arg_steps : Operand → List Operand → M (Unit {0})
arg_steps o l = do
  emit (Arg o)
  emit_args l

pub arg_steps-is : (o : Operand) (l : List Operand) (s : State) → emit_args (o ∷ l) s ≡ arg_steps o l s
unfolding emit_args
arg_steps-is o l s = refl

abbrev pub unary_steps : UnaryOp → ℕ → M Operand → M Operand
unary_steps o y operand = do
  src ← operand
  dest ← new_var y
  emit (Unary dest o src)
  pure (OVar dest)

pub unary_steps-is : (o : UnaryOp) (y : ℕ) (operand : M Operand) (s : State) → convert_unary o y operand s ≡ unary_steps o y operand s
unfolding convert_unary
unary_steps-is o y operand s = refl

abbrev pub and_steps : ℕ → ℕ → M Operand → M Operand → M Operand
and_steps r y left right = do
  dest ← new_var y
  _ ← label_id (logic_rhs r)
  _ ← label_id (logic_end r)
  a ← left
  emit (Copy dest a)
  target ← label_id (logic_end r)
  emit (JumpIfNot (OVar dest) target)
  b ← right
  emit (Copy dest b)
  end ← label_id (logic_end r)
  emit (Label end)
  pure (OVar dest)

pub and_steps-is : (r y : ℕ) (left right : M Operand) (s : State) → convert_and r y left right s ≡ and_steps r y left right s
unfolding convert_and
and_steps-is r y left right s = refl

abbrev pub or_steps : ℕ → ℕ → M Operand → M Operand → M Operand
or_steps r y left right = do
  dest ← new_var y
  _ ← label_id (logic_rhs r)
  _ ← label_id (logic_end r)
  a ← left
  emit (Copy dest a)
  target ← label_id (logic_rhs r)
  emit (JumpIfNot (OVar dest) target)
  end ← label_id (logic_end r)
  emit (Jump end)
  rhs ← label_id (logic_rhs r)
  emit (Label rhs)
  b ← right
  emit (Copy dest b)
  stop ← label_id (logic_end r)
  emit (Label stop)
  pure (OVar dest)

pub or_steps-is : (r y : ℕ) (left right : M Operand) (s : State) → convert_or r y left right s ≡ or_steps r y left right s
unfolding convert_or
or_steps-is r y left right s = refl

abbrev pub cast_first_steps : VarId → Operand → M Operand
cast_first_steps dest o = do
  emit (Cast dest o)
  pure (OVar dest)

pub cast_first_steps-is : (r : ℕ) (dest : VarId) (o : Operand) (l : List Operand) (s : State) → cast_first r dest (o ∷ l) s ≡ cast_first_steps dest o s
unfolding cast_first
cast_first_steps-is r dest o l s = refl

abbrev pub other_steps : Program → BinaryOp → ℕ → ℕ → M Operand → M Operand → M Operand
other_steps P o y q left right = do
  a ← left
  b ← right
  a1 ← fit_operand P a q
  b1 ← fit_operand P b q
  dest ← new_var y
  emit (Binary dest o a1 b1)
  pure (OVar dest)

pub other_steps-is : (P : Program) (F : Functions) (o : BinaryOp) (y q : ℕ) (left right : M Operand) (s : State) → convert_other P F o y q left right s ≡ other_steps P o y q left right s
unfolding convert_other
other_steps-is P F o y q left right s = refl

abbrev pub binary_steps : Program → Functions → ℕ → BinaryOp → Expr → Expr → Scope → M Operand
binary_steps P F r o a b sc = do
  y ← lift (get_type P F (EBinary r o a b) sc)
  c ← lift (common_type P F a b sc)
  convert_binary_by P F o r y (unwrap_or y c) (λ s. convert_expr P F a sc s) (λ s. convert_expr P F b sc s)

pub binary_steps-is : (P : Program) (F : Functions) (r : ℕ) (o : BinaryOp) (a b : Expr) (sc : Scope) (s : State) → convert_expr P F (EBinary r o a b) sc s ≡ binary_steps P F r o a b sc s
unfolding convert_expr
binary_steps-is P F r o a b sc s = refl

abbrev pub unary_expr_steps : Program → Functions → ℕ → UnaryOp → Expr → Scope → M Operand
unary_expr_steps P F r o a sc = do
  y ← lift (get_type P F (EUnary r o a) sc)
  convert_unary o y (λ s. convert_expr P F a sc s)

pub unary_expr_steps-is : (P : Program) (F : Functions) (r : ℕ) (o : UnaryOp) (a : Expr) (sc : Scope) (s : State) → convert_expr P F (EUnary r o a) sc s ≡ unary_expr_steps P F r o a sc s
unfolding convert_expr
unary_expr_steps-is P F r o a sc s = refl

abbrev pub float_steps : ℕ → Bool → M Operand
float_steps b short = do
  i ← float_id (record { bits = b; short = short })
  pure (OFloat i)

pub float_steps-is : (P : Program) (F : Functions) (r b : ℕ) (short : Bool) (sc : Scope) (s : State) → convert_expr P F (EFloat r b short) sc s ≡ float_steps b short s
unfolding convert_expr
float_steps-is P F r b short sc s = refl

abbrev pub string_steps : ℕ → ℕ → Text → M Operand
string_steps o n t = do
  i ← string_id (record { offset = o; len = n; text = t })
  pure (ODataAddress i)

pub string_steps-is : (P : Program) (F : Functions) (r o n : ℕ) (t : Text) (sc : Scope) (s : State) → convert_expr P F (EStr r o n t) sc s ≡ string_steps o n t s
unfolding convert_expr
string_steps-is P F r o n t sc s = refl

abbrev pub call_steps : Program → Functions → ℕ → Text → Args → Scope → M Operand
call_steps P F r verb l sc = do
  y ← lift (get_type P F (ECall r verb l) sc)
  callee ← lift (resolve_call P F verb l sc r)
  operands ← (λ s. convert_args P F l sc s)
  dest ← new_var y
  call_value P F r dest l operands callee

pub call_steps-is : (P : Program) (F : Functions) (r : ℕ) (verb : Text) (l : Args) (sc : Scope) (s : State) → convert_expr P F (ECall r verb l) sc s ≡ call_steps P F r verb l sc s
unfolding convert_expr
call_steps-is P F r verb l sc s = refl

abbrev pub value_steps : Program → Functions → Expr → Args → Scope → M (List Operand)
value_steps P F e l sc = do
  o ← (λ s. convert_expr P F e sc s)
  os ← (λ s. convert_args P F l sc s)
  pure (o ∷ os)

pub value_steps-is : (P : Program) (F : Functions) (r : ℕ) (e : Expr) (l : Args) (sc : Scope) (s : State) → convert_args P F (Value r e l) sc s ≡ value_steps P F e l sc s
unfolding convert_expr
value_steps-is P F r e l sc s = refl

abbrev pub function_steps : Program → Option VarId → Function → Args → List Operand → M (Unit {0})
function_steps P dest f l operands = do
  os ← fit_args P operands l f
  emit_args os
  emit (Call dest f.rec_of)

pub function_steps-is : (P : Program) (F : Functions) (dest : Option VarId) (f : Function) (l : Args) (operands : List Operand) (s : State)
    → call_function P F dest f l operands s ≡ function_steps P dest f l operands s
unfolding call_function
function_steps-is P F dest f l operands s = refl

abbrev pub cond_steps : Program → Functions → Expr → Scope → M Operand
cond_steps P F e sc = do
  y ← lift (get_type P F e sc)
  pick (eqb y bool_type) (convert_expr P F e sc) (fail NotBool (place e))

pub cond_steps-is : (P : Program) (F : Functions) (e : Expr) (sc : Scope) (s : State) → convert_cond P F e sc s ≡ cond_steps P F e sc s
unfolding convert_cond
cond_steps-is P F e sc s = refl

abbrev pub declare_steps : Program → Functions → ℕ → Text → ℕ → Scope → M Scope
declare_steps P F r n y sc = do
  x ← new_var y
  sc1 ← lift (declare (record { name = n; constant = false; var_id = x }) r sc)
  zero_value P F r x (P.type_of y)
  pure sc1

pub declare_steps-is : (P : Program) (F : Functions) (r : ℕ) (n : Text) (y : ℕ) (sc : Scope) (s : State) → convert_declare P F r n y sc s ≡ declare_steps P F r n y sc s
unfolding convert_declare
declare_steps-is P F r n y sc s = refl

abbrev pub assign_steps : Program → Functions → ℕ → Expr → Variable → Scope → M Scope
assign_steps P F r e v sc = do
  src ← convert_expr P F e sc
  y ← lift (get_type P F e sc)
  check_fits P F e y v.var_id.ty WrongAssignType r
  src1 ← fit_operand P src v.var_id.ty
  emit (Copy v.var_id src1)
  pure sc

pub assign_steps-is : (P : Program) (F : Functions) (r : ℕ) (e : Expr) (v : Variable) (sc : Scope) (s : State) → assign_to P F r e v sc s ≡ assign_steps P F r e v sc s
unfolding assign_to
assign_steps-is P F r e v sc s = refl

abbrev pub init_steps : Program → Functions → ℕ → Bool → Text → Expr → Scope → M Scope
init_steps P F r constant n e sc = do
  y ← lift (get_type P F e sc)
  src ← convert_expr P F e sc
  x ← new_var (pick (eqb y null_type) address_of_null y)
  sc1 ← lift (declare (record { name = n; constant = constant; var_id = x }) r sc)
  emit (Copy x src)
  pure sc1

pub init_steps-is : (P : Program) (F : Functions) (r : ℕ) (constant : Bool) (n : Text) (e : Expr) (sc : Scope) (s : State) → init_new P F r constant n e sc s ≡ init_steps P F r constant n e sc s
unfolding init_new
init_steps-is P F r constant n e sc s = refl

abbrev pub return_steps : Program → Functions → ℕ → Expr → ℕ → Scope → ℕ → M Scope
return_steps P F r e y sc expected = do
  check_fits P F e y expected WrongReturnType r
  value ← convert_expr P F e sc
  value1 ← fit_operand P value expected
  emit (Return value1)
  pure sc

pub return_steps-is : (P : Program) (F : Functions) (r : ℕ) (e : Expr) (y : ℕ) (sc : Scope) (expected : ℕ) (s : State) → return_as P F r e y sc (some expected) s ≡ return_steps P F r e y sc expected s
unfolding return_as
return_steps-is P F r e y sc expected s = refl

abbrev pub return_typed : Program → Functions → ℕ → Expr → Scope → M Scope
return_typed P F r e sc = do
  y ← lift (get_type P F e sc)
  return_as P F r e y sc sc.function.return_type

pub return_typed-is : (P : Program) (F : Functions) (r : ℕ) (e : Expr) (sc : Scope) (s : State) → convert_return P F r e sc s ≡ return_typed P F r e sc s
unfolding convert_return
return_typed-is P F r e sc s = refl

abbrev pub call_only_steps : Program → Functions → Args → Scope → Function → M (Unit {0})
call_only_steps P F l sc f = do
  operands ← convert_args P F l sc
  call_function P F none f l operands

pub call_only_steps-is : (P : Program) (F : Functions) (r : ℕ) (l : Args) (sc : Scope) (f : Function) (s : State) → call_statement P F r l sc (CallFunction f) s ≡ call_only_steps P F l sc f s
unfolding call_statement
call_only_steps-is P F r l sc f s = refl

abbrev pub call_statement_steps : Program → Functions → ℕ → ℕ → Text → Args → Scope → M Scope
call_statement_steps P F r c verb l sc = do
  callee ← lift (resolve_call P F verb l sc c)
  call_statement P F r l sc callee
  pure sc

pub call_statement_steps-is : (P : Program) (F : Functions) (r c : ℕ) (verb : Text) (l : Args) (sc : Scope) (s : State) → convert_call P F r (ECall c verb l) sc s ≡ call_statement_steps P F r c verb l sc s
unfolding convert_call
call_statement_steps-is P F r c verb l sc s = refl

abbrev pub if_steps : Program → Functions → ℕ → Expr → Scope → M Scope → M Scope
if_steps P F r e sc then = do
  cond ← convert_cond P F e sc
  target ← label_id (condition_end r)
  emit (JumpIfNot cond target)
  then
  end ← label_id (condition_end r)
  emit (Label end)
  pure sc

pub if_steps-is : (P : Program) (F : Functions) (r : ℕ) (e : Expr) (sc : Scope) (then : M Scope) (s : State) → convert_if P F r e sc then s ≡ if_steps P F r e sc then s
unfolding convert_if
if_steps-is P F r e sc then s = refl

abbrev pub if_else_steps : Program → Functions → ℕ → Expr → Scope → M Scope → M Scope → M Scope
if_else_steps P F r e sc then otherwise = do
  cond ← convert_cond P F e sc
  target ← label_id (otherwise_label r)
  emit (JumpIfNot cond target)
  then
  end ← label_id (condition_end r)
  emit (Jump end)
  here ← label_id (otherwise_label r)
  emit (Label here)
  otherwise
  stop ← label_id (condition_end r)
  emit (Label stop)
  pure sc

pub if_else_steps-is : (P : Program) (F : Functions) (r : ℕ) (e : Expr) (sc : Scope) (then otherwise : M Scope) (s : State) → convert_if_else P F r e sc then otherwise s ≡ if_else_steps P F r e sc then otherwise s
unfolding convert_if_else
if_else_steps-is P F r e sc then otherwise s = refl

abbrev pub while_steps : Program → Functions → ℕ → Expr → Scope → M Scope → M Scope
while_steps P F r e sc body = do
  start ← label_id (loop_start r)
  emit (Label start)
  cond ← convert_cond P F e sc
  target ← label_id (loop_end r)
  emit (JumpIfNot cond target)
  body
  again ← label_id (loop_start r)
  emit (Jump again)
  end ← label_id (loop_end r)
  emit (Label end)
  pure sc

pub while_steps-is : (P : Program) (F : Functions) (r : ℕ) (e : Expr) (sc : Scope) (body : M Scope) (s : State) → convert_while_loop P F r e sc body s ≡ while_steps P F r e sc body s
unfolding convert_while_loop
while_steps-is P F r e sc body s = refl

abbrev pub bound_steps : Program → Functions → Expr → ℕ → Scope → M (Unit {0})
bound_steps P F e y sc = do
  q ← lift (get_type P F e sc)
  check_fits P F e q y NotInteger (place e)

pub bound_steps-is : (P : Program) (F : Functions) (e : Expr) (y : ℕ) (sc : Scope) (s : State) → check_bound P F e y sc s ≡ bound_steps P F e y sc s
unfolding check_bound
bound_steps-is P F e y sc s = refl

-- a For from its bound on
abbrev pub for_rest : Program → Functions → ℕ → VarId → Expr → Scope → M Scope → M Scope
for_rest P F r x until sc body = do
  b ← convert_expr P F until sc
  b1 ← fit_operand P b x.ty
  cond ← new_var bool_type
  emit (Binary cond Lt (OVar x) b1)
  target ← label_id (loop_end r)
  emit (JumpIfNot (OVar cond) target)
  body
  again ← label_id (loop_start r)
  emit (Jump again)
  end ← label_id (loop_end r)
  emit (Label end)
  pure sc

abbrev pub for_steps : Program → Functions → ℕ → VarId → Bool → Bool → Expr → Expr → Scope → M Scope → M Scope
for_steps P F r x short unsigned from until sc body = do
  check_bound P F from x.ty sc
  check_bound P F until x.ty sc
  a ← convert_expr P F from sc
  a1 ← fit_operand P a x.ty
  emit (Copy x a1)
  skip ← label_id (loop_check r)
  emit (Jump skip)
  start ← label_id (loop_start r)
  emit (Label start)
  emit (Binary x Add (OVar x) (OInt (pos 1) short unsigned))
  check ← label_id (loop_check r)
  emit (Label check)
  for_rest P F r x until sc body

pub for_steps-is : (P : Program) (F : Functions) (r : ℕ) (x : VarId) (short unsigned : Bool) (from until : Expr) (sc : Scope) (body : M Scope) (s : State) → for_loop P F r x short unsigned from until sc body s ≡ for_steps P F r x short unsigned from until sc body s
unfolding for_loop
for_steps-is P F r x short unsigned from until sc body s = refl

abbrev pub for_new_steps : Program → Functions → ℕ → Text → ℕ → Expr → Expr → Scope → (Scope → M Scope) → M Scope
for_new_steps P F r n y from until sc body = do
  x ← new_var y
  sc1 ← lift (declare (record { name = n; constant = false; var_id = x }) r sc)
  for_int P F r x from until sc (body sc1)

pub for_new_steps-is : (P : Program) (F : Functions) (r : ℕ) (n : Text) (y : ℕ) (from until : Expr) (sc : Scope) (body : Scope → M Scope) (s : State) → convert_for_loop P F r n (some y) from until sc body s ≡ for_new_steps P F r n y from until sc body s
unfolding convert_for_loop
for_new_steps-is P F r n y from until sc body s = refl

abbrev pub break_steps : ℕ → Scope → M Scope
break_steps l sc = do
  end ← label_id (loop_end l)
  emit (Jump end)
  pure sc

pub break_steps-is : (P : Program) (F : Functions) (r l : ℕ) (sc : Scope) (s : State) → convert_break P F r (some l) sc s ≡ break_steps l sc s
unfolding convert_break
break_steps-is P F r l sc s = refl

abbrev pub continue_steps : ℕ → Scope → M Scope
continue_steps l sc = do
  start ← label_id (loop_start l)
  emit (Jump start)
  pure sc

pub continue_steps-is : (P : Program) (F : Functions) (r l : ℕ) (sc : Scope) (s : State) → convert_continue P F r (some l) sc s ≡ continue_steps l sc s
unfolding convert_continue
continue_steps-is P F r l sc s = refl

abbrev pub block_steps : Program → Functions → Statement → Block → Scope → M Scope
block_steps P F t b sc = do
  sc1 ← (λ s. convert_statement P F t sc s)
  (λ s. convert_block P F b sc1 s)

pub block_steps-is : (P : Program) (F : Functions) (t : Statement) (b : Block) (sc : Scope) (s : State) → convert_block P F (next t b) sc s ≡ block_steps P F t b sc s
unfolding convert_block
block_steps-is P F t b sc s = refl

pub declare_statement_is : (P : Program) (F : Functions) (r : ℕ) (n : Text) (y : ℕ) (sc : Scope) (s : State) → convert_statement P F (SDeclare r n y) sc s ≡ (emit (Comment r) >> convert_declare P F r n y sc) s
unfolding convert_statement
declare_statement_is P F r n y sc s = refl

pub init_statement_is : (P : Program) (F : Functions) (r : ℕ) (c : Bool) (n : Text) (e : Expr) (sc : Scope) (s : State) → convert_statement P F (SInit r c n e) sc s ≡ (emit (Comment r) >> convert_init P F r c n e sc) s
unfolding convert_statement
init_statement_is P F r c n e sc s = refl

pub return_statement_is : (P : Program) (F : Functions) (r : ℕ) (e : Expr) (sc : Scope) (s : State) → convert_statement P F (SReturn r e) sc s ≡ (emit (Comment r) >> convert_return P F r e sc) s
unfolding convert_statement
return_statement_is P F r e sc s = refl

pub calls_statement_is : (P : Program) (F : Functions) (r : ℕ) (e : Expr) (sc : Scope) (s : State) → convert_statement P F (SCall r e) sc s ≡ (emit (Comment r) >> convert_call P F r e sc) s
unfolding convert_statement
calls_statement_is P F r e sc s = refl

pub if_statement_is : (P : Program) (F : Functions) (r : ℕ) (e : Expr) (a : Block) (sc : Scope) (s : State) → convert_statement P F (SIf r e a) sc s ≡ (emit (Comment r) >> convert_if P F r e sc (λ s1. convert_block P F a sc s1)) s
unfolding convert_statement
if_statement_is P F r e a sc s = refl

pub if_else_statement_is : (P : Program) (F : Functions) (r : ℕ) (e : Expr) (a b : Block) (sc : Scope) (s : State) → convert_statement P F (SIfElse r e a b) sc s ≡ (emit (Comment r) >> convert_if_else P F r e sc (λ s1. convert_block P F a sc s1) (λ s1. convert_block P F b sc s1)) s
unfolding convert_statement
if_else_statement_is P F r e a b sc s = refl

pub while_statement_is : (P : Program) (F : Functions) (r : ℕ) (e : Expr) (a : Block) (sc : Scope) (s : State) → convert_statement P F (SWhile r e a) sc s ≡ (emit (Comment r) >> convert_while_loop P F r e sc (λ s1. convert_block P F a (with_loop r sc) s1)) s
unfolding convert_statement
while_statement_is P F r e a sc s = refl

pub for_statement_is : (P : Program) (F : Functions) (r : ℕ) (n : Text) (y : Option ℕ) (from until : Expr) (a : Block) (sc : Scope) (s : State) → convert_statement P F (SFor r n y from until a) sc s ≡ (emit (Comment r) >> convert_for_loop P F r n y from until sc (λ sc1 s1. convert_block P F a (with_loop r sc1) s1)) s
unfolding convert_statement
for_statement_is P F r n y from until a sc s = refl

pub break_statement_is : (P : Program) (F : Functions) (r : ℕ) (sc : Scope) (s : State) → convert_statement P F (SBreak r) sc s ≡ (emit (Comment r) >> convert_break P F r sc.in_loop sc) s
unfolding convert_statement
break_statement_is P F r sc s = refl

pub continue_statement_is : (P : Program) (F : Functions) (r : ℕ) (sc : Scope) (s : State) → convert_statement P F (SContinue r) sc s ≡ (emit (Comment r) >> convert_continue P F r sc.in_loop sc) s
unfolding convert_statement
continue_statement_is P F r sc s = refl

pub fits-is : (P : Program) (os : List Operand) (l : Args) (f : Function) (s : State) → fit_args P os l f s ≡ fit_from P 0 os l f s
unfolding fit_args
fits-is P os l f s = refl

pub call_value-is : (P : Program) (F : Functions) (r : ℕ) (dest : VarId) (l : Args) (os : List Operand) (f : Function) (s : State)
    → call_value P F r dest l os (CallFunction f) s ≡ (call_function P F (some dest) f l os >> pure (OVar dest)) s
unfolding call_value
call_value-is P F r dest l os f s = refl

pub cast_value_is : (P : Program) (F : Functions) (r : ℕ) (dest : VarId) (l : Args) (os : List Operand) (y : ℕ) (s : State)
    → call_value P F r dest l os (CallCast y) s ≡ cast_first r dest os s
unfolding call_value
cast_value_is P F r dest l os y s = refl

pub zero_float-is : (P : Program) (F : Functions) (r : ℕ) (x : VarId) (short : Bool) (s : State)
    → zero_value P F r x (TFloat short) s ≡ (float_id (record { bits = 0; short = short }) >>= λ i. emit (Copy x (OFloat i))) s
unfolding zero_value
zero_float-is P F r x short s = refl

-- ---- functions

abbrev pub body_steps : Program → Functions → Function → Block → M (Unit {0})
body_steps P F f b = do
  sc ← declare_params f.params (record { variables = []; in_loop = none; function = f })
  _ ← convert_block P F b sc
  pick (is_some f.return_type && not (always_returns b)) (fail MissingReturn f.rec_of) (pure tt)

pub body_steps-is : (P : Program) (F : Functions) (f : Function) (b : Block) (s : State) → convert_body P F f b s ≡ body_steps P F f b s
unfolding convert_body
body_steps-is P F f b s = refl

pub param_is : (p : Param) (l : List Param) (sc : Scope) (s : State)
    → declare_params (p ∷ l) sc s ≡ pick (is_some (find_variable p.name sc)) (fail AlreadyDeclared p.rec_of)
    (new_var p.ty >>= λ x. declare_params l (with_variable (record { name = p.name; constant = false; var_id = x }) sc)) s
unfolding declare_params
param_is p l sc s = refl
