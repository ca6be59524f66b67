-- statements.rs: the instructions of an expression, a statement, a block. Each definition stands for the Rust's function of that name. Where
-- the Rust's function calls itself or another on a part, the definition takes what that call does (`left`, `body` ..), and the
-- recursion over the tree makes the call. Assumes nothing: these are definitions.
use Rattle.std.specs.Prelude.{ℕ, zero, suc, Bool, ◌&&◌, eqb, pos}
use Rattle.std.proofs.Math.Bool.{true, false, not}
use mathlib.Core.List.{List, [], ◌∷◌}
use Rattle.std.proofs.Math.Option.{Option, none, some}
use Rattle.laws.specs.Fix.{pick}
use Rattle.syntax.specs.Syntax.{Text, Ty, TInt, TFloat, TBool, TChar, TByte, TAddress, TArray, TCustom, TNull, UnaryOp, BinaryOp, Or, And, BitOr, BitXor, BitAnd, Eq, NotEq, Lt, Le, Gt, Ge, Shl, Shr, Add, Sub, Mul, Div, Rem, Expr, EInt, EFloat, EStr, EBool, EName, ENull, ESizeOf, EUnary, EBinary, ECall, Args, no_args, Value, ToType, Statement, SDeclare, SInit, SReturn, SCall, SIf, SIfElse, SWhile, SFor, SBreak, SContinue, Block, done, next, Param, Function, Program, place, float_type, bool_type, null_type, address_of_null}
use Rattle.conversion.specs.ConvertError.{ConvertErrorKind, UnknownVariable, AssignToConstant, ReturnWithoutType, WrongReturnType, WrongAssignType, LiteralOutOfRange, NotBool, NotInteger, BreakOutOfLoop, ContinueOutOfLoop, WouldPanic}
use Rattle.conversion.specs.Ir.{VarId, Operand, OVar, OInt, OFloat, OBool, ODataAddress, ONull, Copy, Unary, Binary, Cast, Zero, Arg, Call, Label, Jump, JumpIfNot, Return, Comment, loop_start, loop_end, loop_check, otherwise_label, condition_end, logic_rhs, logic_end, M, ◌>>=◌, ◌>>◌, pure, fail, lift, emit, new_var, label_id, string_id, float_id, float_bits}
use Rattle.conversion.specs.Types.{on_int, on_float, is_float, fits, range_error, size}
use Rattle.conversion.specs.Scope.{Variable, Scope, find_variable, with_loop, declare}
use Rattle.conversion.specs.Expressions.{Callee, CallFunction, CallCast, Functions, unwrap_or, get_type, resolve_call, common_type}

-- ---- operands

unfoldable pub name_operand : ℕ → Option Variable → M Operand
unfolding pure fail
name_operand r (some v) = pure (OVar v.var_id)
name_operand r none = fail UnknownVariable r

-- 'SizeOf of Custom, Null, an array of these, or over 2^63 − 1 bytes': 27 at the SizeOf. The operand is tagged signed
unfoldable pub size_operand : ℕ → Option ℕ → M Operand
unfolding pure fail
size_operand r (some n) = pure (OInt (pos n) false false)
size_operand r none = fail WouldPanic r

-- a Float variable of the other size than y goes through a Cast
unfoldable pub cast_operand : Bool → VarId → ℕ → M Operand
unfolding ◌>>=◌ ◌>>◌ pure emit new_var
cast_operand true x y = do
  dest ← new_var y
  emit (Cast dest (OVar x))
  pure (OVar dest)
cast_operand false x y = pure (OVar x)

-- a float literal takes the expected size
unfoldable pub refloat : ℕ → Bool → M Operand
unfolding ◌>>=◌ pure float_bits float_id
refloat i short = do
  b ← float_bits i
  j ← float_id (record { bits = b; short = short })
  pure (OFloat j)

-- the type of the parameter at a position, from 0; 'beyond the parameters' long Float
unfoldable pub parameter_type : List Param → ℕ → ℕ
parameter_type [] k = float_type false
parameter_type (p ∷ l) zero = p.ty
parameter_type (p ∷ l) (suc k) = parameter_type l k

-- the position of the k-th value among all arguments, type arguments counted
unfoldable pub value_position : Args → ℕ → ℕ
value_position no_args k = k
value_position (Value r e l) zero = zero
value_position (Value r e l) (suc k) = suc (value_position l k)
value_position (ToType r y l) k = suc (value_position l k)

-- the type that the k-th value of a call is fitted to: 'A value is now fitted to the parameter at its position among all arguments.' The
-- Rust's `fit_args` has k itself for the position
unfoldable pub expected_type : List Param → Args → ℕ → ℕ
unfolding parameter_type value_position
expected_type ps l k = parameter_type ps (value_position l k)

module _ (P : Program) where
  -- `fit_operand` for a place of type y
  unfoldable pub fit_operand : Operand → ℕ → M Operand
  unfolding pure on_int on_float refloat cast_operand is_float
  fit_operand (OFloat i) y = on_float (P.type_of y) (pure (OFloat i)) (λ short. refloat i short)
  fit_operand (OInt v s u) y = on_int (P.type_of y) (pure (OInt v s u)) (λ short unsigned. pure (OInt v short unsigned))
  fit_operand (OVar x) y =
      on_float (P.type_of y) (pure (OVar x)) (λ short. cast_operand (is_float (P.type_of x.ty) && not (eqb x.ty y)) x y)
  fit_operand (OBool b) y = pure (OBool b)
  fit_operand (ODataAddress i) y = pure (ODataAddress i)
  fit_operand ONull y = pure ONull

  -- `fit_args`, from the k-th value of the arguments l on
  unfoldable pub fit_from : ℕ → List Operand → Args → Function → M (List Operand)
  unfolding ◌>>=◌ pure fit_operand expected_type
  fit_from k [] l f = pure []
  fit_from k (o ∷ os) l f = do
    a ← fit_operand o (expected_type f.params l k)
    rest ← fit_from (suc k) os l f
    pure (a ∷ rest)

  unfoldable pub fit_args : List Operand → Args → Function → M (List Operand)
  unfolding fit_from
  fit_args os l f = fit_from 0 os l f

-- 'Each call's arguments stand directly before it as Arg'
unfoldable pub emit_args : List Operand → M (Unit {0})
unfolding ◌>>◌ pure emit
emit_args [] = pure tt
emit_args (o ∷ l) = do
  emit (Arg o)
  emit_args l

-- `convert_unary`
unfoldable pub convert_unary : UnaryOp → ℕ → M Operand → M Operand
unfolding ◌>>=◌ ◌>>◌ pure emit new_var
convert_unary o y operand = do
  src ← operand
  dest ← new_var y
  emit (Unary dest o src)
  pure (OVar dest)

-- `convert_binary`, And: t = left ; JumpIfNot t, end ; t = right ; end:
unfoldable pub convert_and : ℕ → ℕ → M Operand → M Operand → M Operand
unfolding ◌>>=◌ ◌>>◌ pure emit new_var label_id
convert_and r y left right = do
  dest ← new_var y
  _ ← label_id (logic_rhs r)
  _ ← label_id (logic_end r)
  a ← left
  emit (Copy dest a)
  target ← label_id (logic_end r)
  emit (JumpIfNot (OVar dest) target)
  b ← right
  emit (Copy dest b)
  end ← label_id (logic_end r)
  emit (Label end)
  pure (OVar dest)

-- Or: t = left ; JumpIfNot t, rhs ; Jump end ; rhs: t = right ; end:
unfoldable pub convert_or : ℕ → ℕ → M Operand → M Operand → M Operand
unfolding ◌>>=◌ ◌>>◌ pure emit new_var label_id
convert_or r y left right = do
  dest ← new_var y
  _ ← label_id (logic_rhs r)
  _ ← label_id (logic_end r)
  u ← left
  emit (Copy dest u)
  target ← label_id (logic_rhs r)
  emit (JumpIfNot (OVar dest) target)
  end ← label_id (logic_end r)
  emit (Jump end)
  rhs ← label_id (logic_rhs r)
  emit (Label rhs)
  v ← right
  emit (Copy dest v)
  stop ← label_id (logic_end r)
  emit (Label stop)
  pure (OVar dest)

-- the expression of a call, if it is one
unfoldable pub as_call : {X : Type 0} → Expr → X → (ℕ → Text → Args → X) → X
as_call (ECall r v l) d f = f r v l
as_call (EInt r v s u) d f = d
as_call (EFloat r b s) d f = d
as_call (EStr r o n t) d f = d
as_call (EBool r b) d f = d
as_call (EName r t) d f = d
as_call (ENull r) d f = d
as_call (ESizeOf r y) d f = d
as_call (EUnary r o a) d f = d
as_call (EBinary r o a b) d f = d

-- 'a cast value with no value argument': 27 at the call; else 'a cast computes all and uses the first'
unfoldable pub cast_first : ℕ → VarId → List Operand → M Operand
unfolding ◌>>◌ pure fail emit
cast_first r dest [] = fail WouldPanic r
cast_first r dest (o ∷ l) = do
  emit (Cast dest o)
  pure (OVar dest)

module _ (P : Program) (F : Functions) where
  -- any other binary, y being its type and q what its operands are fitted to
  unfoldable pub convert_other : BinaryOp → ℕ → ℕ → M Operand → M Operand → M Operand
  unfolding ◌>>=◌ ◌>>◌ pure emit new_var fit_operand
  convert_other o y q left right = do
    a ← left
    b ← right
    a1 ← fit_operand P a q
    b1 ← fit_operand P b q
    dest ← new_var y
    emit (Binary dest o a1 b1)
    pure (OVar dest)

  unfoldable pub convert_binary_by : BinaryOp → ℕ → ℕ → ℕ → M Operand → M Operand → M Operand
  unfolding convert_and convert_or convert_other
  convert_binary_by And r y q left right = convert_and r y left right
  convert_binary_by Or r y q left right = convert_or r y left right
  convert_binary_by BitOr r y q left right = convert_other BitOr y q left right
  convert_binary_by BitXor r y q left right = convert_other BitXor y q left right
  convert_binary_by BitAnd r y q left right = convert_other BitAnd y q left right
  convert_binary_by Eq r y q left right = convert_other Eq y q left right
  convert_binary_by NotEq r y q left right = convert_other NotEq y q left right
  convert_binary_by Lt r y q left right = convert_other Lt y q left right
  convert_binary_by Le r y q left right = convert_other Le y q left right
  convert_binary_by Gt r y q left right = convert_other Gt y q left right
  convert_binary_by Ge r y q left right = convert_other Ge y q left right
  convert_binary_by Shl r y q left right = convert_other Shl y q left right
  convert_binary_by Shr r y q left right = convert_other Shr y q left right
  convert_binary_by Add r y q left right = convert_other Add y q left right
  convert_binary_by Sub r y q left right = convert_other Sub y q left right
  convert_binary_by Mul r y q left right = convert_other Mul y q left right
  convert_binary_by Div r y q left right = convert_other Div y q left right
  convert_binary_by Rem r y q left right = convert_other Rem y q left right

  -- `convert_binary` of a `o` b, of type y, in record r
  unfoldable pub convert_binary : ℕ → BinaryOp → Expr → Expr → ℕ → Scope → M Operand → M Operand → M Operand
  unfolding ◌>>=◌ lift common_type unwrap_or convert_binary_by
  convert_binary r o a b y sc left right = do
    c ← lift (common_type P F a b sc)
    convert_binary_by o r y (unwrap_or y c) left right

  -- the call itself, by the arguments l; `dest` is where its result goes
  unfoldable pub call_function : Option VarId → Function → Args → List Operand → M (Unit {0})
  unfolding ◌>>=◌ ◌>>◌ emit fit_args emit_args
  call_function dest f l operands = do
    os ← fit_args P operands l f
    emit_args os
    emit (Call dest f.rec_of)

  unfoldable pub call_value : ℕ → VarId → Args → List Operand → Callee → M Operand
  unfolding ◌>>◌ pure call_function cast_first
  call_value r dest l operands (CallFunction f) = do
    call_function (some dest) f l operands
    pure (OVar dest)
  call_value r dest l operands (CallCast y) = cast_first r dest operands

  -- `convert_call_value`
  unfoldable pub convert_call_value : ℕ → Text → Args → ℕ → Scope → M (List Operand) → M Operand
  unfolding ◌>>=◌ lift resolve_call new_var call_value
  convert_call_value r verb l y sc values = do
    callee ← lift (resolve_call P F verb l sc r)
    operands ← values
    dest ← new_var y
    call_value r dest l operands callee

  unfoldable mutual
    unfolding ◌>>=◌ pure lift float_id string_id find_variable name_operand size_operand size get_type convert_unary convert_binary convert_call_value

    -- `convert_expr`, with `operand` of expressions.rs for the leaves: an Int, a Float, a Bool, a Null, a Name
    pub convert_expr : Expr → Scope → M Operand
    convert_expr (EInt r v short unsigned) sc = pure (OInt v short unsigned)
    convert_expr (EFloat r b short) sc = do
      i ← float_id (record { bits = b; short = short })
      pure (OFloat i)
    convert_expr (EBool r b) sc = pure (OBool b)
    convert_expr (ENull r) sc = pure ONull
    convert_expr (EName r t) sc = name_operand r (find_variable t sc)
    convert_expr (EStr r o n t) sc = do
      i ← string_id (record { offset = o; len = n; text = t })
      pure (ODataAddress i)
    convert_expr (ESizeOf r y) sc = size_operand r (size P.type_of y)
    convert_expr (EUnary r o a) sc = do
      y ← lift (get_type P F (EUnary r o a) sc)
      convert_unary o y (λ s. convert_expr a sc s)
    convert_expr (EBinary r o a b) sc = do
      y ← lift (get_type P F (EBinary r o a b) sc)
      convert_binary r o a b y sc (λ s. convert_expr a sc s) (λ s. convert_expr b sc s)
    convert_expr (ECall r verb l) sc = do
      y ← lift (get_type P F (ECall r verb l) sc)
      convert_call_value r verb l y sc (λ s. convert_args l sc s)

    -- `convert_args`: 'the target type gives none'
    pub convert_args : Args → Scope → M (List Operand)
    convert_args no_args sc = pure []
    convert_args (Value r e l) sc = do
      o ← (λ s. convert_expr e sc s)
      os ← (λ s. convert_args l sc s)
      pure (o ∷ os)
    convert_args (ToType r y l) sc = λ s. convert_args l sc s

  -- `convert_cond`
  unfoldable pub convert_cond : Expr → Scope → M Operand
  unfolding ◌>>=◌ lift pick get_type convert_expr fail place
  convert_cond e sc = do
    y ← lift (get_type P F e sc)
    pick (eqb y bool_type) (convert_expr e sc) (fail NotBool (place e))

  -- `if !fits(..)`: first the range, then the error of the place
  unfoldable pub check_fits : Expr → ℕ → ℕ → ConvertErrorKind → ℕ → M (Unit {0})
  unfolding pick pure fail fits range_error place
  check_fits e y expected kind r =
      pick (fits P.type_of e y expected) (pure tt)
      (pick (range_error P.type_of e y expected) (fail LiteralOutOfRange (place e)) (fail kind r))

  -- ---- statements: each leaves the scope for what follows it

  -- the zero value that a Declare writes; 'Declare of Custom' is 27
  unfoldable pub zero_value : ℕ → VarId → Ty → M (Unit {0})
  unfolding ◌>>=◌ fail emit float_id
  zero_value r x (TInt short unsigned) = emit (Copy x (OInt (pos 0) short unsigned))
  zero_value r x (TFloat short) = do
    i ← float_id (record { bits = 0; short = short })
    emit (Copy x (OFloat i))
  zero_value r x TBool = emit (Copy x (OBool false))
  zero_value r x TChar = emit (Copy x (OBool false))
  zero_value r x TByte = emit (Copy x (OBool false))
  zero_value r x (TAddress y) = emit (Copy x ONull)
  zero_value r x TNull = emit (Copy x ONull)
  zero_value r x (TArray y n) = emit (Zero x)
  zero_value r x (TCustom t) = fail WouldPanic r

  -- `convert_declare`
  unfoldable pub convert_declare : ℕ → Text → ℕ → Scope → M Scope
  unfolding ◌>>=◌ ◌>>◌ pure lift new_var declare zero_value
  convert_declare r n y sc = do
    x ← new_var y
    sc1 ← lift (declare (record { name = n; constant = false; var_id = x }) r sc)
    zero_value r x (P.type_of y)
    pure sc1

  -- `convert_assign`
  unfoldable pub assign_to : ℕ → Expr → Variable → Scope → M Scope
  unfolding ◌>>=◌ ◌>>◌ pure lift emit convert_expr get_type check_fits fit_operand
  assign_to r e v sc = do
    src ← convert_expr e sc
    y ← lift (get_type P F e sc)
    check_fits e y v.var_id.ty WrongAssignType r
    src1 ← fit_operand P src v.var_id.ty
    emit (Copy v.var_id src1)
    pure sc

  unfoldable pub convert_assign : ℕ → Expr → Variable → Scope → M Scope
  unfolding pick fail assign_to
  convert_assign r e v sc = pick v.constant (fail AssignToConstant r) (assign_to r e v sc)

  -- `convert_init` of a new name
  unfoldable pub init_new : ℕ → Bool → Text → Expr → Scope → M Scope
  unfolding ◌>>=◌ ◌>>◌ pick pure lift emit new_var get_type convert_expr declare
  init_new r constant n e sc = do
    y ← lift (get_type P F e sc)
    src ← convert_expr e sc
    x ← new_var (pick (eqb y null_type) address_of_null y)
    sc1 ← lift (declare (record { name = n; constant = constant; var_id = x }) r sc)
    emit (Copy x src)
    pure sc1

  unfoldable pub init_by : ℕ → Bool → Text → Expr → Scope → Option Variable → M Scope
  unfolding convert_assign init_new
  init_by r false n e sc (some v) = convert_assign r e v sc
  init_by r false n e sc none = init_new r false n e sc
  init_by r true n e sc o = init_new r true n e sc

  -- `convert_init`: 'A plain Init of a known name assigns'
  unfoldable pub convert_init : ℕ → Bool → Text → Expr → Scope → M Scope
  unfolding init_by find_variable
  convert_init r constant n e sc = init_by r constant n e sc (find_variable n sc)

  unfoldable pub return_as : ℕ → Expr → ℕ → Scope → Option ℕ → M Scope
  unfolding ◌>>=◌ ◌>>◌ pure fail emit check_fits convert_expr fit_operand
  return_as r e y sc none = fail ReturnWithoutType r
  return_as r e y sc (some expected) = do
    check_fits e y expected WrongReturnType r
    value ← convert_expr e sc
    value1 ← fit_operand P value expected
    emit (Return value1)
    pure sc

  -- `convert_return`
  unfoldable pub convert_return : ℕ → Expr → Scope → M Scope
  unfolding ◌>>=◌ lift get_type return_as
  convert_return r e sc = do
    y ← lift (get_type P F e sc)
    return_as r e y sc sc.function.return_type

  -- 'a cast as call statement': 27 at the statement
  unfoldable pub call_statement : ℕ → Args → Scope → Callee → M (Unit {0})
  unfolding ◌>>=◌ fail convert_args call_function
  call_statement r l sc (CallFunction f) = do
    operands ← convert_args l sc
    call_function none f l operands
  call_statement r l sc (CallCast y) = fail WouldPanic r

  -- `convert_call`: 'A call statement whose expression is no call is typed and never run'
  unfoldable pub convert_call : ℕ → Expr → Scope → M Scope
  unfolding ◌>>=◌ ◌>>◌ pure lift as_call get_type resolve_call call_statement
  convert_call r e sc = as_call e
      (do
        _ ← lift (get_type P F e sc)
        pure sc)
      (λ c verb l. do
        callee ← lift (resolve_call P F verb l sc c)
        call_statement r l sc callee
        pure sc)

  -- `convert_if` without an otherwise
  unfoldable pub convert_if : ℕ → Expr → Scope → M Scope → M Scope
  unfolding ◌>>=◌ ◌>>◌ pure emit label_id convert_cond
  convert_if r e sc then = do
    cond ← convert_cond e sc
    target ← label_id (condition_end r)
    emit (JumpIfNot cond target)
    then
    end ← label_id (condition_end r)
    emit (Label end)
    pure sc

  -- `convert_if` with one
  unfoldable pub convert_if_else : ℕ → Expr → Scope → M Scope → M Scope → M Scope
  unfolding ◌>>=◌ ◌>>◌ pure emit label_id convert_cond
  convert_if_else r e sc then otherwise = do
    cond ← convert_cond e sc
    target ← label_id (otherwise_label r)
    emit (JumpIfNot cond target)
    then
    end ← label_id (condition_end r)
    emit (Jump end)
    here ← label_id (otherwise_label r)
    emit (Label here)
    otherwise
    stop ← label_id (condition_end r)
    emit (Label stop)
    pure sc

  -- `convert_while_loop`
  unfoldable pub convert_while_loop : ℕ → Expr → Scope → M Scope → M Scope
  unfolding ◌>>=◌ ◌>>◌ pure emit label_id convert_cond
  convert_while_loop r e sc body = do
    start ← label_id (loop_start r)
    emit (Label start)
    cond ← convert_cond e sc
    target ← label_id (loop_end r)
    emit (JumpIfNot cond target)
    body
    again ← label_id (loop_start r)
    emit (Jump again)
    end ← label_id (loop_end r)
    emit (Label end)
    pure sc

  -- a bound of a For is of the variable's type y
  unfoldable pub check_bound : Expr → ℕ → Scope → M (Unit {0})
  unfolding ◌>>=◌ lift get_type check_fits place
  check_bound e y sc = do
    q ← lift (get_type P F e sc)
    check_fits e q y NotInteger (place e)

  -- `convert_for_loop` from the bounds on, x being the variable, an Int
  unfoldable pub for_loop : ℕ → VarId → Bool → Bool → Expr → Expr → Scope → M Scope → M Scope
  unfolding ◌>>=◌ ◌>>◌ pure emit new_var label_id check_bound convert_expr fit_operand
  for_loop r x short unsigned from until sc body = do
    check_bound from x.ty sc
    check_bound until x.ty sc
    a ← convert_expr from sc
    a1 ← fit_operand P a x.ty
    emit (Copy x a1)
    skip ← label_id (loop_check r)
    emit (Jump skip)
    start ← label_id (loop_start r)
    emit (Label start)
    emit (Binary x Add (OVar x) (OInt (pos 1) short unsigned))
    check ← label_id (loop_check r)
    emit (Label check)
    b ← convert_expr until sc
    b1 ← fit_operand P b x.ty
    cond ← new_var bool_type
    emit (Binary cond Lt (OVar x) b1)
    target ← label_id (loop_end r)
    emit (JumpIfNot (OVar cond) target)
    body
    again ← label_id (loop_start r)
    emit (Jump again)
    end ← label_id (loop_end r)
    emit (Label end)
    pure sc

  unfoldable pub for_int : ℕ → VarId → Expr → Expr → Scope → M Scope → M Scope
  unfolding fail on_int for_loop
  for_int r x from until sc body = on_int (P.type_of x.ty) (fail NotInteger r) (λ short unsigned. for_loop r x short unsigned from until sc body)

  -- the variable of the blocks around, that the loop changes
  unfoldable pub for_known : ℕ → Option Variable → Expr → Expr → Scope → M Scope → M Scope
  unfolding pick fail for_int
  for_known r none from until sc body = fail UnknownVariable r
  for_known r (some v) from until sc body = pick v.constant (fail AssignToConstant r) (for_int r v.var_id from until sc body)

  -- `convert_for_loop`: its bounds are typed and converted in the scope around it, where a name that it declares is not known; the body is
  -- converted in the scope that it is given
  unfoldable pub convert_for_loop : ℕ → Text → Option ℕ → Expr → Expr → Scope → (Scope → M Scope) → M Scope
  unfolding ◌>>=◌ lift new_var declare find_variable for_int for_known
  convert_for_loop r n (some y) from until sc body = do
    x ← new_var y
    sc1 ← lift (declare (record { name = n; constant = false; var_id = x }) r sc)
    for_int r x from until sc (body sc1)
  convert_for_loop r n none from until sc body = for_known r (find_variable n sc) from until sc (body sc)

  -- `convert_break`, `convert_continue`, by the innermost loop
  unfoldable pub convert_break : ℕ → Option ℕ → Scope → M Scope
  unfolding ◌>>=◌ ◌>>◌ pure fail emit label_id
  convert_break r none sc = fail BreakOutOfLoop r
  convert_break r (some l) sc = do
    end ← label_id (loop_end l)
    emit (Jump end)
    pure sc

  unfoldable pub convert_continue : ℕ → Option ℕ → Scope → M Scope
  unfolding ◌>>=◌ ◌>>◌ pure fail emit label_id
  convert_continue r none sc = fail ContinueOutOfLoop r
  convert_continue r (some l) sc = do
    start ← label_id (loop_start l)
    emit (Jump start)
    pure sc

  unfoldable mutual
    unfolding ◌>>=◌ ◌>>◌ pure emit with_loop convert_declare convert_init convert_return convert_call convert_if convert_if_else convert_while_loop convert_for_loop convert_break convert_continue

    -- the `match` of `convert_block`, behind the statement's comment
    pub convert_statement : Statement → Scope → M Scope
    convert_statement (SDeclare r n y) sc = do
      emit (Comment r)
      convert_declare r n y sc
    convert_statement (SInit r constant n e) sc = do
      emit (Comment r)
      convert_init r constant n e sc
    convert_statement (SReturn r e) sc = do
      emit (Comment r)
      convert_return r e sc
    convert_statement (SCall r e) sc = do
      emit (Comment r)
      convert_call r e sc
    convert_statement (SIf r e a) sc = do
      emit (Comment r)
      convert_if r e sc (λ s. convert_block a sc s)
    convert_statement (SIfElse r e a b) sc = do
      emit (Comment r)
      convert_if_else r e sc (λ s. convert_block a sc s) (λ s. convert_block b sc s)
    convert_statement (SWhile r e a) sc = do
      emit (Comment r)
      convert_while_loop r e sc (λ s. convert_block a (with_loop r sc) s)
    convert_statement (SFor r n y from until a) sc = do
      emit (Comment r)
      convert_for_loop r n y from until sc (λ sc1 s. convert_block a (with_loop r sc1) s)
    convert_statement (SBreak r) sc = do
      emit (Comment r)
      convert_break r sc.in_loop sc
    convert_statement (SContinue r) sc = do
      emit (Comment r)
      convert_continue r sc.in_loop sc

    -- `convert_block`
    pub convert_block : Block → Scope → M Scope
    convert_block done sc = pure sc
    convert_block (next t b) sc = do
      sc1 ← (λ s. convert_statement t sc s)
      (λ s. convert_block b sc1 s)
