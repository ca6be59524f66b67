-- The steps of statements.rs's functions, part by part as the code makes them: what stands between the operands of an And, before and behind the
-- body of a loop, and so on. That the parts in a row are the definitions of conversion is proved where they are cited (proofs/PartLaws.antt,
-- AroundLaws.antt, ArgsLaws.antt). Assumes nothing.
use Rattle.std.specs.Prelude.{ℕ, Bool, false, List, eqb, pos}
use Rattle.std.proofs.Math.Option.{Option, none, some}
use Rattle.laws.specs.Fix.{pick}
use Rattle.syntax.specs.Syntax.{Text, UnaryOp, BinaryOp, Lt, Add, Expr, Args, Function, Program, bool_type, null_type, address_of_null}
use Rattle.conversion.specs.ConvertError as C
use Rattle.conversion.specs.ConvertError.{ConvertErrorKind, Result, ok, UnknownVariable, AssignToConstant, NotInteger}
use Rattle.conversion.specs.Ir.{VarId, Operand, OVar, OInt, OFloat, Copy, Unary, Binary, Label, Jump, JumpIfNot, LabelName, loop_start, loop_end, loop_check, otherwise_label, condition_end, logic_rhs, logic_end, M, ◌>>=◌, ◌>>◌, pure, fail, lift, emit, new_var, label_id, float_id}
use Rattle.conversion.specs.Scope.{Variable, Scope, declare, find_variable}
use Rattle.conversion.specs.Types.{on_int}
use Rattle.conversion.specs.Expressions.{Functions, Callee, unwrap_or}
use Rattle.conversion.specs.Statements.{fit_operand, fit_args, emit_args, convert_expr, convert_cond, check_bound, call_value}

-- ---- expressions

-- the type that the sides of a Binary of type y are fitted to: the one they have in common, or y
unfoldable pub operand_type : Result (Option ℕ) → ℕ → Result ℕ
unfolding C.◌>>=◌ unwrap_or
operand_type common y = C.◌>>=◌ common (λ c. ok (unwrap_or y c))

-- a Label where the label stands, a Jump to it, a JumpIfNot
unfoldable pub place_label : LabelName → M (Unit {0})
unfolding ◌>>=◌ emit label_id
place_label n = do
  l ← label_id n
  emit (Label l)

unfoldable pub emit_jump : LabelName → M (Unit {0})
unfolding ◌>>=◌ emit label_id
emit_jump n = do
  l ← label_id n
  emit (Jump l)

unfoldable pub jump_if_not : Operand → LabelName → M (Unit {0})
unfolding ◌>>=◌ emit label_id
jump_if_not o n = do
  l ← label_id n
  emit (JumpIfNot o l)

-- the operator into a new variable of type y, once the operand is computed
unfoldable pub finish_unary : UnaryOp → ℕ → Operand → M Operand
unfolding ◌>>=◌ ◌>>◌ pure emit new_var
finish_unary o y src = do
  dest ← new_var y
  emit (Unary dest o src)
  pure (OVar dest)

-- an And or Or of record r: its variable, and its labels 'registered now'
unfoldable pub begin_logic : ℕ → ℕ → M VarId
unfolding ◌>>=◌ pure new_var label_id
begin_logic r y = do
  dest ← new_var y
  _ ← label_id (logic_rhs r)
  _ ← label_id (logic_end r)
  pure dest

-- between the sides: And skips the right side unless the left holds, Or if it does
unfoldable pub join_and : ℕ → VarId → Operand → M (Unit {0})
unfolding ◌>>◌ emit jump_if_not
join_and r dest a = do
  emit (Copy dest a)
  jump_if_not (OVar dest) (logic_end r)

unfoldable pub join_or : ℕ → VarId → Operand → M (Unit {0})
unfolding ◌>>◌ emit jump_if_not emit_jump place_label
join_or r dest a = do
  emit (Copy dest a)
  jump_if_not (OVar dest) (logic_rhs r)
  emit_jump (logic_end r)
  place_label (logic_rhs r)

-- behind the right side
unfoldable pub end_logic : ℕ → VarId → Operand → M Operand
unfolding ◌>>◌ pure emit place_label
end_logic r dest b = do
  emit (Copy dest b)
  place_label (logic_end r)
  pure (OVar dest)

-- the zero of a Float
unfoldable pub zero_float : VarId → Bool → M (Unit {0})
unfolding ◌>>=◌ emit float_id
zero_float x short = do
  i ← float_id (record { bits = 0; short = short })
  emit (Copy x (OFloat i))

module _ (P : Program) where
  -- both sides fitted to type q, then the operator into a new variable of type y
  unfoldable pub finish_binary : BinaryOp → ℕ → ℕ → Operand → Operand → M Operand
  unfolding ◌>>=◌ ◌>>◌ pure emit new_var fit_operand
  finish_binary o y q a b = do
    a1 ← fit_operand P a q
    b1 ← fit_operand P b q
    dest ← new_var y
    emit (Binary dest o a1 b1)
    pure (OVar dest)

  -- the values of a call by the arguments l, fitted to the parameters of f, 'directly before it as Arg'
  unfoldable pub pass_args : Function → Args → List Operand → M (Unit {0})
  unfolding ◌>>=◌ fit_args emit_args
  pass_args f l operands = do
    os ← fit_args P operands l f
    emit_args os

  -- the variable's copy of an operand that is fitted to its type
  unfoldable pub copy_fitted : VarId → Operand → M (Unit {0})
  unfolding ◌>>=◌ emit fit_operand
  copy_fitted x src = do
    a ← fit_operand P src x.ty
    emit (Copy x a)

  -- the test of a For whose second bound is computed
  unfoldable pub test_bound : ℕ → VarId → Operand → M (Unit {0})
  unfolding ◌>>=◌ ◌>>◌ emit new_var fit_operand jump_if_not
  test_bound r x b = do
    b1 ← fit_operand P b x.ty
    cond ← new_var bool_type
    emit (Binary cond Lt (OVar x) b1)
    jump_if_not (OVar cond) (loop_end r)

-- where a For counts on, which the first turn passes by, and its check
unfoldable pub count_on : ℕ → VarId → Bool → Bool → M (Unit {0})
unfolding ◌>>◌ emit emit_jump place_label
count_on r x short unsigned = do
  emit_jump (loop_check r)
  place_label (loop_start r)
  emit (Binary x Add (OVar x) (OInt (pos 1) short unsigned))
  place_label (loop_check r)

module _ (P : Program) (F : Functions) where
  -- a call whose arguments l are computed, its result in a new variable of type y
  unfoldable pub finish_call : ℕ → ℕ → Args → List Operand → Callee → M Operand
  unfolding ◌>>=◌ new_var call_value
  finish_call r y l operands callee = do
    dest ← new_var y
    call_value P F r dest l operands callee

  -- ---- conditions and loops

  -- an If up to its `then` block; without an otherwise the jump goes to the end
  unfoldable pub if_head : Bool → ℕ → Expr → Scope → M (Unit {0})
  unfolding ◌>>=◌ pick convert_cond jump_if_not
  if_head otherwise r e sc = do
    cond ← convert_cond P F e sc
    jump_if_not cond (pick otherwise (otherwise_label r) (condition_end r))

  -- a While up to its body
  unfoldable pub while_head : ℕ → Expr → Scope → M (Unit {0})
  unfolding ◌>>=◌ ◌>>◌ place_label convert_cond jump_if_not
  while_head r e sc = do
    place_label (loop_start r)
    cond ← convert_cond P F e sc
    jump_if_not cond (loop_end r)

  -- a For's bounds are checked, both before either is converted
  unfoldable pub for_bounds : ℕ → Expr → Expr → Scope → M (Unit {0})
  unfolding ◌>>◌ check_bound
  for_bounds y from until sc = do
    check_bound P F from y sc
    check_bound P F until y sc

  -- the first bound into the variable, then where the For counts on
  unfoldable pub for_begin : ℕ → VarId → Bool → Bool → Expr → Scope → M (Unit {0})
  unfolding ◌>>=◌ ◌>>◌ convert_expr copy_fitted count_on
  for_begin r x short unsigned from sc = do
    a ← convert_expr P F from sc
    copy_fitted P x a
    count_on r x short unsigned

  -- the test before each turn: the second bound is computed anew
  unfoldable pub for_test : ℕ → VarId → Expr → Scope → M (Unit {0})
  unfolding ◌>>=◌ convert_expr test_bound
  for_test r x until sc = do
    b ← convert_expr P F until sc
    test_bound P r x b

  -- a For from its variable x on, up to its body
  unfoldable pub for_turns : ℕ → VarId → Expr → Expr → Scope → M (Unit {0})
  unfolding ◌>>◌ on_int fail for_bounds for_begin for_test
  for_turns r x from until sc = on_int (P.type_of x.ty) (fail NotInteger r) (λ short unsigned. do
    for_bounds x.ty from until sc
    for_begin r x short unsigned from sc
    for_test r x until sc)

  -- the variable of a For, with the scope of its body: declared there, or one of the blocks around, which may not be constant
  unfoldable pub known_variable : ℕ → Option Variable → Scope → M (VarId × Scope)
  unfolding pick pure fail
  known_variable r none sc = fail UnknownVariable r
  known_variable r (some v) sc = pick v.constant (fail AssignToConstant r) (pure (v.var_id, sc))

  unfoldable pub for_variable : ℕ → Text → Option ℕ → Scope → M (VarId × Scope)
  unfolding ◌>>=◌ pure lift new_var declare find_variable known_variable
  for_variable r n (some y) sc = do
    x ← new_var y
    sc1 ← lift (declare (record { name = n; constant = false; var_id = x }) r sc)
    pure (x, sc1)
  for_variable r n none sc = known_variable r (find_variable n sc) sc

  -- a For up to its body: the scope of the body, in which alone a variable that it declares is known
  unfoldable pub for_head : ℕ → Text → Option ℕ → Expr → Expr → Scope → M Scope
  unfolding ◌>>=◌ ◌>>◌ pure for_variable for_turns
  for_head r n y from until sc = do
    v ← for_variable r n y sc
    for_turns r v.0 from until sc
    pure v.1

  -- an Init of a new name behind its value, of type y
  unfoldable pub declare_init : ℕ → Bool → Text → ℕ → Operand → Scope → M Scope
  unfolding ◌>>=◌ ◌>>◌ pick pure lift emit new_var declare
  declare_init r constant n y src sc = do
    x ← new_var (pick (eqb y null_type) address_of_null y)
    sc1 ← lift (declare (record { name = n; constant = constant; var_id = x }) r sc)
    emit (Copy x src)
    pure sc1

-- between an If's blocks
unfoldable pub if_middle : ℕ → M (Unit {0})
unfolding ◌>>◌ emit_jump place_label
if_middle r = do
  emit_jump (condition_end r)
  place_label (otherwise_label r)

-- behind a loop's body: 'Jump start ; end:'
unfoldable pub loop_back : ℕ → M (Unit {0})
unfolding ◌>>◌ emit_jump place_label
loop_back r = do
  emit_jump (loop_start r)
  place_label (loop_end r)

-- a jump to this label of the innermost loop, which leaves the scope; outside of all loops it is refused
unfoldable pub loop_jump : (ℕ → LabelName) → ConvertErrorKind → ℕ → Option ℕ → Scope → M Scope
unfolding ◌>>◌ pure fail emit_jump
loop_jump label e r none sc = fail e r
loop_jump label e r (some x) sc = do
  emit_jump (label x)
  pure sc
