-- Sizes suffice: the tables of functions that are made of n records hold at most 4n instructions, 3n variables, 3n labels, n functions, n strings, 2n floats.
-- By recursion over the syntax tree: each construct adds at most so much for its own records. Assumes nothing.
use mathlib.Core.Path.{◌≡◌, refl, ap, ◌∙◌}
use mathlib.Core.Bool.{Bool, true, false, not, ◌&&◌}
use mathlib.Core.List.{List, [], ◌∷◌, ◌++◌}
use mathlib.Core.Option.{Option, none, some}
use Prim.Native.Nat.{ℕ, suc, ◌+◌, ◌*◌, ◌≤◌, ◌<◌}
use native.Mathlib.Omega.{arith}
use lib.Dec.{eqb}
use lib.IntN.{pos}
use lib.ListN.{length, length-append}
use Rattle.laws.specs.Fix.{pick}
use Rattle.syntax.specs.Syntax.{Text, Ty, TInt, TFloat, TBool, TChar, TByte, TAddress, TArray, TCustom, TNull, UnaryOp, BinaryOp, Or, And, BitOr, BitXor, BitAnd, Eq, NotEq, Lt, Le, Gt, Ge, Shl, Shr, Add, Sub, Mul, Div, Rem, Expr, EInt, EFloat, EStr, EBool, EName, ENull, ESizeOf, EUnary, EBinary, ECall, Args, no_args, Value, ToType, Statement, SDeclare, SInit, SReturn, SCall, SIf, SIfElse, SWhile, SFor, SBreak, SContinue, Block, done, next, Param, Function, Program, place, bool_type, null_type, address_of_null}
use Rattle.records.specs.Words.{records}
use Rattle.syntax.specs.Decode.{program, functions_below}
use Rattle.syntax.proofs.Held.{Complete, Once, functions-records}
use Rattle.syntax.specs.Count.{under, args_records, args_under, args_values, expr_records, statement_records, block_records, body_records, function_records, all_records}
use Rattle.conversion.specs.ConvertError as C
use Rattle.conversion.specs.ConvertError.{Result, ok, err, ConvertErrorKind, AssignToConstant, LiteralOutOfRange, NotBool, NotInteger, UnknownVariable, ReturnWithoutType, BreakOutOfLoop, ContinueOutOfLoop, WrongAssignType, WrongReturnType, AlreadyDeclared, MissingReturn, WouldPanic}
use Rattle.conversion.specs.Ir.{Copy, Unary, Binary, Cast, Zero, Arg, Call, Label, Jump, JumpIfNot, Return, Comment, loop_start, loop_end, loop_check, otherwise_label, condition_end, logic_rhs, logic_end, VarId, Operand, OVar, OInt, OFloat, OBool, ODataAddress, ONull, State, Out, M, ◌>>=◌, pure, lift, IrFunction, IrProgram}
use Rattle.conversion.specs.Types.{is_float, is_some, fits, range_error, size}
use Rattle.conversion.specs.Scope.{Variable, Scope, find_variable, with_variable, with_loop, declare}
use Rattle.conversion.specs.Expressions.{Callee, CallFunction, CallCast, Functions, unwrap_or, get_type, resolve_call, common_type}
use Rattle.conversion.specs.Statements.{name_operand, size_operand, cast_operand, refloat, fit_operand, fit_from, fit_args, emit_args, convert_unary, convert_and, convert_or, as_call, cast_first, convert_other, convert_binary_by, convert_binary, call_function, call_value, convert_call_value, convert_expr, convert_args, convert_cond, check_fits, zero_value, convert_declare, assign_to, convert_assign, init_new, init_by, convert_init, return_as, convert_return, call_statement, convert_call, convert_if, convert_if_else, convert_while_loop, check_bound, for_loop, for_int, for_known, convert_for_loop, convert_break, convert_continue, convert_statement, convert_block}
use Rattle.conversion.specs.Functions.{Pool, declare_params, convert_body, always_returns, finished, convert_function, convert_func, get_all_functions, check_main}
use Rattle.conversion.specs.Converter.{convert_all, convert}
use Rattle.conversion.specs.Written.{code_of, all_code, all_vars, all_labels}
use Rattle.conversion.proofs.Within.{Grown, grew, fell, Within, Any, pure-within, fail-within, lift-within, emit-within, new_var-within, float_bits-within, label_within, string_within, float_within, then_using, then_within, seq_within, widen, pick-within, on_int-within, on_float-within}

-- ---- operands

-- a value of a call is a list cell, its own record, and the records below
pub args_count : (l : Args) → args_under l + 3 * args_values l ≤ args_records l
unfolding args_under args_values args_records under
args_count no_args = omega arith
args_count (Value r e l) = omega (arith, args_count l)
args_count (ToType r y l) = omega (arith, args_count l)

done-within : {A : Type 0} (a : A) → Within Any 0 0 0 0 0 (pure a)
done-within a = pure-within Any a tt

name-within : (r : ℕ) (o : Option Variable) → Within Any 0 0 0 0 0 (name_operand r o)
unfolding name_operand
name-within r (some v) = done-within _
name-within r none = fail-within Any 0 0 0 0 0 _ _

size_within_lem : (r : ℕ) (o : Option ℕ) → Within Any 0 0 0 0 0 (size_operand r o)
unfolding size_operand
size_within_lem r (some n) = done-within _
size_within_lem r none = fail-within Any 0 0 0 0 0 _ _

cast-within : (b : Bool) (x : VarId) (y : ℕ) → Within Any 1 1 0 0 1 (cast_operand b x y)
unfolding cast_operand
cast-within true x y = widen
    (then_within (new_var-within y) (λ dest. seq_within (emit-within (Cast dest (OVar x))) (done-within (OVar dest))))
    (omega arith)
cast-within false x y = widen (done-within (OVar x)) (omega arith)

refloat-within : (i : ℕ) (short : Bool) → Within Any 1 1 0 0 1 (refloat i short)
unfolding refloat
refloat-within i short = widen
    (then_within (float_bits-within i) (λ b. then_within (float_within (record { bits = b; short = short })) (λ j. done-within (OFloat j))))
    (omega arith)

kept : (o : Operand) → Within Any 1 1 0 0 1 (pure o)
kept o = widen (done-within o) (omega arith)

module _ (P : Program) where
  fit-within : (o : Operand) (y : ℕ) → Within Any 1 1 0 0 1 (fit_operand P o y)
  unfolding fit_operand
  fit-within (OFloat i) y = on_float-within (P.type_of y) (kept (OFloat i)) (λ short. refloat-within i short)
  fit-within (OInt v s u) y = on_int-within (P.type_of y) (kept (OInt v s u)) (λ short unsigned. kept (OInt v short unsigned))
  fit-within (OVar x) y =
      on_float-within (P.type_of y) (kept (OVar x)) (λ short. cast-within (is_float (P.type_of x.ty) && not (eqb x.ty y)) x y)
  fit-within (OBool b) y = kept (OBool b)
  fit-within (ODataAddress i) y = kept (ODataAddress i)
  fit-within ONull y = kept ONull

  fit_from-within : (k : ℕ) (os : List Operand) (l : Args) (f : Function)
      → Within (λ us. length us ≡ length os) (length os) (length os) 0 0 (length os) (fit_from P k os l f)
  unfolding fit_from
  fit_from-within k [] l f = pure-within _ [] refl
  fit_from-within k (o ∷ os) l f = widen
      (then_within (fit-within o _) (λ a. then_using (fit_from-within (suc k) os l f) (λ us e. pure-within _ (a ∷ us) (ap suc e))))
      (omega arith)

  fit_args-within : (os : List Operand) (l : Args) (f : Function)
      → Within (λ us. length us ≡ length os) (length os) (length os) 0 0 (length os) (fit_args P os l f)
  unfolding fit_args
  fit_args-within os l f = fit_from-within 0 os l f

emit_args-within : (os : List Operand) → Within Any (length os) 0 0 0 0 (emit_args os)
unfolding emit_args
emit_args-within [] = done-within tt
emit_args-within (o ∷ os) = widen (seq_within (emit-within (Arg o)) (emit_args-within os)) (omega arith)

-- ---- expressions of u records below their own: 4u + 1 instructions, 3u + 1 variables, 3u labels, u + 1 strings, 2u + 1 floats

abbrev Fits : {A : Type 0} → ℕ → M A → Type 0
Fits u m = Within Any (4 * u + 1) (3 * u + 1) (3 * u) (u + 1) (2 * u + 1) m

-- twice an instruction and a variable, and what it holds
unary-within : (o : UnaryOp) (y u : ℕ) (m : M Operand) → Fits u m → Fits (1 + u) (convert_unary o y m)
unfolding convert_unary
unary-within o y u m w = widen
    (then_within (w) (λ src. then_within (new_var-within y) (λ dest. seq_within (emit-within (Unary dest o src)) (done-within (OVar dest)))))
    (omega arith)

and-within : (r y u w : ℕ) (a b : M Operand) → Fits u a → Fits w b → Fits (2 + (u + w)) (convert_and r y a b)
unfolding convert_and
and-within r y u w a b f g = widen
    (then_within (new_var-within y) (λ dest. then_within (label_within (logic_rhs r)) (λ x. then_within (label_within (logic_end r)) (λ x. then_within (f) (λ
    a. seq_within (emit-within (Copy dest a)) (then_within (label_within (logic_end r)) (λ target. seq_within (emit-within (JumpIfNot (OVar dest) target))
    (then_within (g) (λ b. seq_within (emit-within (Copy dest b)) (then_within (label_within (logic_end r)) (λ end. seq_within (emit-within (Label end))
    (done-within (OVar dest)))))))))))))
    (omega arith)

or-within : (r y u w : ℕ) (a b : M Operand) → Fits u a → Fits w b → Fits (2 + (u + w)) (convert_or r y a b)
unfolding convert_or
or-within r y u w a b f g = widen
    (then_within (new_var-within y) (λ dest. then_within (label_within (logic_rhs r)) (λ x. then_within (label_within (logic_end r)) (λ x. then_within (f) (λ
    a. seq_within (emit-within (Copy dest a)) (then_within (label_within (logic_rhs r)) (λ target. seq_within (emit-within (JumpIfNot (OVar dest) target))
    (then_within (label_within (logic_end r)) (λ end. seq_within (emit-within (Jump end)) (then_within (label_within (logic_rhs r)) (λ rhs. seq_within
    (emit-within (Label rhs)) (then_within (g) (λ b. seq_within (emit-within (Copy dest b)) (then_within (label_within (logic_end r)) (λ stop. seq_within
    (emit-within (Label stop)) (done-within (OVar dest)))))))))))))))))
    (omega arith)

cast_first-within : (r : ℕ) (d : VarId) (os : List Operand) → Within Any 1 0 0 0 0 (cast_first r d os)
unfolding cast_first
cast_first-within r d [] = fail-within Any 1 0 0 0 0 _ _
cast_first-within r d (o ∷ os) = widen
    (seq_within (emit-within (Cast d o)) (done-within (OVar d)))
    (omega arith)

module _ (P : Program) (F : Functions) where
  other-within : (o : BinaryOp) (y q u w : ℕ) (a b : M Operand) → Fits u a → Fits w b → Fits (2 + (u + w)) (convert_other P F o y q a b)
  unfolding convert_other
  other-within o y q u w a b f g = widen
      (then_within (f) (λ a. then_within (g) (λ b. then_within (fit-within P a q) (λ a1. then_within (fit-within P b q) (λ b1. then_within (new_var-within y)
      (λ dest. seq_within (emit-within (Binary dest o a1 b1)) (done-within (OVar dest))))))))
      (omega arith)

  by-within : (o : BinaryOp) (r y q u w : ℕ) (a b : M Operand) → Fits u a → Fits w b → Fits (2 + (u + w)) (convert_binary_by P F o r y q a b)
  unfolding convert_binary_by
  by-within And r y q u w a b f g = and-within r y u w a b f g
  by-within Or r y q u w a b f g = or-within r y u w a b f g
  by-within BitOr r y q u w a b f g = other-within _ y q u w a b f g
  by-within BitXor r y q u w a b f g = other-within _ y q u w a b f g
  by-within BitAnd r y q u w a b f g = other-within _ y q u w a b f g
  by-within Eq r y q u w a b f g = other-within _ y q u w a b f g
  by-within NotEq r y q u w a b f g = other-within _ y q u w a b f g
  by-within Lt r y q u w a b f g = other-within _ y q u w a b f g
  by-within Le r y q u w a b f g = other-within _ y q u w a b f g
  by-within Gt r y q u w a b f g = other-within _ y q u w a b f g
  by-within Ge r y q u w a b f g = other-within _ y q u w a b f g
  by-within Shl r y q u w a b f g = other-within _ y q u w a b f g
  by-within Shr r y q u w a b f g = other-within _ y q u w a b f g
  by-within Add r y q u w a b f g = other-within _ y q u w a b f g
  by-within Sub r y q u w a b f g = other-within _ y q u w a b f g
  by-within Mul r y q u w a b f g = other-within _ y q u w a b f g
  by-within Div r y q u w a b f g = other-within _ y q u w a b f g
  by-within Rem r y q u w a b f g = other-within _ y q u w a b f g

  binary-within : (r : ℕ) (o : BinaryOp) (a b : Expr) (y : ℕ) (sc : Scope) (u w : ℕ) (m k : M Operand)
      → Fits u m → Fits w k → Fits (2 + (u + w)) (convert_binary P F r o a b y sc m k)
  unfolding convert_binary
  binary-within r o a b y sc u w m k f g =
      widen (then_within (lift-within (common_type P F a b sc)) (λ c. by-within o r y (unwrap_or y c) u w m k f g)) (omega arith)

  function-call-within : (d : Option VarId) (f : Function) (l : Args) (os : List Operand)
      → Within Any (2 * length os + 1) (length os) 0 0 (length os) (call_function P F d f l os)
  unfolding call_function
  function-call-within d f l os = widen
      (then_using {R = Any} (fit_args-within P os l f) (λ us e. widen {i' = length os + 1} {v' = 0} {l' = 0} {s' = 0} {f' = 0}
      (seq_within (emit_args-within us) (emit-within (Call d f.rec_of))) (omega (arith, e))))
      (omega arith)

  call_value-within : (r : ℕ) (d : VarId) (l : Args) (os : List Operand) (c : Callee)
      → Within Any (2 * length os + 1) (length os) 0 0 (length os) (call_value P F r d l os c)
  unfolding call_value
  call_value-within r d l os (CallFunction f) = widen (seq_within (function-call-within (some d) f l os) (done-within (OVar d))) (omega arith)
  call_value-within r d l os (CallCast y) = widen (cast_first-within r d os) (omega arith)

  -- arguments of k values with u records below theirs
  abbrev FitsArgs : Args → M (List Operand) → Type 0
  FitsArgs l m = Within (λ os. length os ≡ args_values l) (4 * args_under l + args_values l) (3 * args_under l + args_values l) (3 * args_under l)
      (args_under l + args_values l) (2 * args_under l + args_values l) m

  call-within : (r : ℕ) (verb : Text) (l : Args) (y : ℕ) (sc : Scope) (m : M (List Operand))
      → FitsArgs l m → Fits (args_records l) (convert_call_value P F r verb l y sc m)
  unfolding convert_call_value
  call-within r verb l y sc m w = widen
      (then_within (lift-within (resolve_call P F verb l sc r)) (λ c. then_using {R = Any} w (λ os e. then_within (new_var-within y) (λ d.
      widen {i' = 2 * args_values l + 1} {v' = args_values l} {l' = 0} {s' = 0} {f' = args_values l} (call_value-within r d l os c) (omega (arith, e))))))
      (omega (arith, args_count l))

  mutual
    unfolding convert_expr under args_under args_values args_records

    expr-within : (e : Expr) (sc : Scope) → Fits (under e) (convert_expr P F e sc)
    expr-within (EInt r v s u) sc = widen (done-within (OInt v s u)) (omega arith)
    expr-within (EFloat r b s) sc = widen (then_within (float_within (record { bits = b; short = s })) (λ i. done-within (OFloat i))) (omega arith)
    expr-within (EBool r b) sc = widen (done-within (OBool b)) (omega arith)
    expr-within (ENull r) sc = widen (done-within ONull) (omega arith)
    expr-within (EName r t) sc = widen (name-within r (find_variable t sc)) (omega arith)
    expr-within (EStr r o n t) sc = widen (then_within (string_within (record { offset = o; len = n; text = t })) (λ i. done-within (ODataAddress i))) (omega arith)
    expr-within (ESizeOf r y) sc = widen (size_within_lem r (size P.type_of y)) (omega arith)
    expr-within (EUnary r o a) sc =
        widen (then_within (lift-within (get_type P F (EUnary r o a) sc)) (λ y. unary-within o y (under a) _ (expr-within a sc))) (omega arith)
    expr-within (EBinary r o a b) sc = widen
        (then_within (lift-within (get_type P F (EBinary r o a b) sc)) (λ y. binary-within r o a b y sc (under a) (under b) _ _ (expr-within a sc) (expr-within b sc)))
        (omega arith)
    expr-within (ECall r v l) sc = widen (then_within (lift-within (get_type P F (ECall r v l) sc)) (λ y. call-within r v l y sc _ (args-within l sc))) (omega arith)

    args-within : (l : Args) (sc : Scope) → FitsArgs l (convert_args P F l sc)
    args-within no_args sc = pure-within _ [] refl
    args-within (Value r e l) sc = widen
        (then_within (expr-within e sc) (λ o. then_using (args-within l sc) (λ os q. pure-within _ (o ∷ os) (ap suc q))))
        (omega arith)
    args-within (ToType r y l) sc = args-within l sc

  -- ---- statements

  cond_within : (e : Expr) (sc : Scope) → Fits (under e) (convert_cond P F e sc)
  unfolding convert_cond
  cond_within e sc = widen
      (then_within (lift-within (get_type P F e sc)) (λ y. pick-within (eqb y bool_type) (expr-within e sc) (fail-within Any _ _ _ _ _ NotBool (place e))))
      (omega arith)

  check_fits-within : (e : Expr) (y x : ℕ) (k : ConvertErrorKind) (r : ℕ) → Within Any 0 0 0 0 0 (check_fits P F e y x k r)
  unfolding check_fits
  check_fits-within e y x k r = pick-within (fits P.type_of e y x) (done-within tt)
      (pick-within (range_error P.type_of e y x) (fail-within Any 0 0 0 0 0 LiteralOutOfRange (place e)) (fail-within Any 0 0 0 0 0 k r))

  zero_value-within : (r : ℕ) (x : VarId) (t : Ty) → Within Any 1 0 0 0 1 (zero_value P F r x t)
  unfolding zero_value
  zero_value-within r x (TInt short unsigned) = widen (emit-within (Copy x (OInt (pos 0) short unsigned))) (omega arith)
  zero_value-within r x (TFloat short) = widen (then_within (float_within (record { bits = 0; short = short })) (λ i. emit-within (Copy x (OFloat i)))) (omega arith)
  zero_value-within r x TBool = widen (emit-within (Copy x (OBool false))) (omega arith)
  zero_value-within r x TChar = widen (emit-within (Copy x (OBool false))) (omega arith)
  zero_value-within r x TByte = widen (emit-within (Copy x (OBool false))) (omega arith)
  zero_value-within r x (TAddress y) = widen (emit-within (Copy x ONull)) (omega arith)
  zero_value-within r x TNull = widen (emit-within (Copy x ONull)) (omega arith)
  zero_value-within r x (TArray y n) = widen (emit-within (Zero x)) (omega arith)
  zero_value-within r x (TCustom t) = fail-within Any 1 0 0 0 1 WouldPanic r

  declare-within : (r : ℕ) (n : Text) (y : ℕ) (sc : Scope) → Within Any 1 1 0 0 1 (convert_declare P F r n y sc)
  unfolding convert_declare
  declare-within r n y sc = widen
      (then_within (new_var-within y) (λ x. then_within (lift-within (declare (record { name = n; constant = false; var_id = x }) r sc)) (λ sc1. seq_within
      (zero_value-within r x (P.type_of y)) (done-within sc1))))
      (omega arith)

  -- a statement over an expression of u records below its own: two instructions, a variable and a float more than that
  abbrev Over : {A : Type 0} → ℕ → M A → Type 0
  Over u m = Within Any (4 * u + 3) (3 * u + 2) (3 * u) (u + 1) (2 * u + 2) m

  assign_to-within : (r : ℕ) (e : Expr) (v : Variable) (sc : Scope) → Over (under e) (assign_to P F r e v sc)
  unfolding assign_to
  assign_to-within r e v sc = widen
      (then_within (expr-within e sc) (λ src. then_within (lift-within (get_type P F e sc)) (λ y. seq_within (check_fits-within e y v.var_id.ty
      WrongAssignType r) (then_within (fit-within P src v.var_id.ty) (λ src1. seq_within (emit-within (Copy v.var_id src1)) (done-within sc))))))
      (omega arith)

  assign-within : (r : ℕ) (e : Expr) (v : Variable) (sc : Scope) → Over (under e) (convert_assign P F r e v sc)
  unfolding convert_assign
  assign-within r e v sc = pick-within v.constant (fail-within Any _ _ _ _ _ AssignToConstant r) (assign_to-within r e v sc)

  init_new-within : (r : ℕ) (c : Bool) (n : Text) (e : Expr) (sc : Scope) → Over (under e) (init_new P F r c n e sc)
  unfolding init_new
  init_new-within r constant n e sc = widen
      (then_within (lift-within (get_type P F e sc)) (λ y. then_within (expr-within e sc) (λ src. then_within (new_var-within (pick (eqb y null_type)
      address_of_null y)) (λ x. then_within (lift-within (declare (record { name = n; constant = constant; var_id = x }) r sc)) (λ sc1. seq_within
      (emit-within (Copy x src)) (done-within sc1))))))
      (omega arith)

  init_by-within : (r : ℕ) (c : Bool) (n : Text) (e : Expr) (sc : Scope) (o : Option Variable) → Over (under e) (init_by P F r c n e sc o)
  unfolding init_by
  init_by-within r false n e sc (some v) = assign-within r e v sc
  init_by-within r false n e sc none = init_new-within r false n e sc
  init_by-within r true n e sc o = init_new-within r true n e sc

  init_within : (r : ℕ) (c : Bool) (n : Text) (e : Expr) (sc : Scope) → Over (under e) (convert_init P F r c n e sc)
  unfolding convert_init
  init_within r c n e sc = init_by-within r c n e sc (find_variable n sc)

  return_as-within : (r : ℕ) (e : Expr) (y : ℕ) (sc : Scope) (o : Option ℕ) → Over (under e) (return_as P F r e y sc o)
  unfolding return_as
  return_as-within r e y sc none = fail-within Any _ _ _ _ _ ReturnWithoutType r
  return_as-within r e y sc (some expected) = widen
      (seq_within (check_fits-within e y expected WrongReturnType r) (then_within (expr-within e sc) (λ value. then_within (fit-within P value expected) (λ
      value1. seq_within (emit-within (Return value1)) (done-within sc)))))
      (omega arith)

  return-within : (r : ℕ) (e : Expr) (sc : Scope) → Over (under e) (convert_return P F r e sc)
  unfolding convert_return
  return-within r e sc = widen
      (then_within (lift-within (get_type P F e sc)) (λ y. return_as-within r e y sc sc.function.return_type))
      (omega arith)

  call_statement-within : (r : ℕ) (l : Args) (sc : Scope) (c : Callee) → Over (args_records l) (call_statement P F r l sc c)
  unfolding call_statement
  call_statement-within r l sc (CallFunction f) = widen
      (then_using {R = Any} (args-within l sc) (λ os e.
      widen {i' = 2 * args_values l + 1} {v' = args_values l} {l' = 0} {s' = 0} {f' = args_values l} (function-call-within none f l os) (omega (arith, e))))
      (omega (arith, args_count l))
  call_statement-within r l sc (CallCast y) = fail-within Any _ _ _ _ _ WouldPanic r

  typed-within : (e : Expr) (sc : Scope) → Over (under e) (lift (get_type P F e sc) >>= λ y. pure sc)
  typed-within e sc = widen (then_within (lift-within (get_type P F e sc)) (λ y. done-within sc)) (omega arith)

  statement_call-within : (r : ℕ) (e : Expr) (sc : Scope) → Over (under e) (convert_call P F r e sc)
  unfolding convert_call as_call under
  statement_call-within r (ECall c v l) sc = widen
      (then_within (lift-within (resolve_call P F v l sc c)) (λ callee. seq_within (call_statement-within r l sc callee) (done-within sc)))
      (omega arith)
  statement_call-within r (EInt c v s u) sc = typed-within (EInt c v s u) sc
  statement_call-within r (EFloat c b s) sc = typed-within (EFloat c b s) sc
  statement_call-within r (EStr c o n t) sc = typed-within (EStr c o n t) sc
  statement_call-within r (EBool c b) sc = typed-within (EBool c b) sc
  statement_call-within r (EName c t) sc = typed-within (EName c t) sc
  statement_call-within r (ENull c) sc = typed-within (ENull c) sc
  statement_call-within r (ESizeOf c y) sc = typed-within (ESizeOf c y) sc
  statement_call-within r (EUnary c o a) sc = typed-within (EUnary c o a) sc
  statement_call-within r (EBinary c o a b) sc = typed-within (EBinary c o a b) sc

  -- ---- blocks of n records: 4n instructions, 3n variables, 3n labels, n strings, 2n floats

  abbrev Holds : {A : Type 0} → ℕ → M A → Type 0
  Holds n m = Within Any (4 * n) (3 * n) (3 * n) n (2 * n) m

  -- a statement behind its comment: with its list cell, n records in all
  abbrev Behind : {A : Type 0} → ℕ → M A → Type 0
  Behind n m = Within Any (4 * n + 7) (3 * n + 6) (3 * n + 6) (n + 2) (2 * n + 4) m

  if-within : (r : ℕ) (e : Expr) (sc : Scope) (n : ℕ) (a : M Scope) → Holds n a → Behind (under e + n) (convert_if P F r e sc a)
  unfolding convert_if
  if-within r e sc n a f = widen
      (then_within (cond_within e sc) (λ cond. then_within (label_within (condition_end r)) (λ target. seq_within (emit-within (JumpIfNot cond target))
      (seq_within (f) (then_within (label_within (condition_end r)) (λ end. seq_within (emit-within (Label end)) (done-within sc)))))))
      (omega arith)

  if_else_within : (r : ℕ) (e : Expr) (sc : Scope) (n m : ℕ) (a b : M Scope) → Holds n a → Holds m b
      → Behind (under e + (n + m)) (convert_if_else P F r e sc a b)
  unfolding convert_if_else
  if_else_within r e sc n m a b f g = widen
      (then_within (cond_within e sc) (λ cond. then_within (label_within (otherwise_label r)) (λ target. seq_within (emit-within (JumpIfNot cond target))
      (seq_within (f) (then_within (label_within (condition_end r)) (λ end. seq_within (emit-within (Jump end)) (then_within (label_within (otherwise_label
      r)) (λ here. seq_within (emit-within (Label here)) (seq_within (g) (then_within (label_within (condition_end r)) (λ stop. seq_within (emit-within
      (Label stop)) (done-within sc))))))))))))
      (omega arith)

  while_within : (r : ℕ) (e : Expr) (sc : Scope) (n : ℕ) (a : M Scope) → Holds n a → Behind (under e + n) (convert_while_loop P F r e sc a)
  unfolding convert_while_loop
  while_within r e sc n a f = widen
      (then_within (label_within (loop_start r)) (λ start. seq_within (emit-within (Label start)) (then_within (cond_within e sc) (λ cond. then_within
      (label_within (loop_end r)) (λ target. seq_within (emit-within (JumpIfNot cond target)) (seq_within (f) (then_within (label_within (loop_start r)) (λ
      again. seq_within (emit-within (Jump again)) (then_within (label_within (loop_end r)) (λ end. seq_within (emit-within (Label end)) (done-within
      sc)))))))))))
      (omega arith)

  check_bound-within : (e : Expr) (y : ℕ) (sc : Scope) → Within Any 0 0 0 0 0 (check_bound P F e y sc)
  unfolding check_bound
  check_bound-within e y sc = then_within (lift-within (get_type P F e sc)) (λ q. check_fits-within e q y NotInteger (place e))

  -- a For over its bounds of u and w records below their own
  abbrev Loop : {A : Type 0} → ℕ → M A → Type 0
  Loop n m = Within Any (4 * n + 14) (3 * n + 6) (3 * n + 6) (n + 2) (2 * n + 4) m

  for_loop-within : (r : ℕ) (x : VarId) (short unsigned : Bool) (from until : Expr) (sc : Scope) (n : ℕ) (body : M Scope) → Holds n body
      → Loop (under from + (under until + n)) (for_loop P F r x short unsigned from until sc body)
  unfolding for_loop
  for_loop-within r x short unsigned from until sc n body h = widen
      (seq_within (check_bound-within from x.ty sc) (seq_within (check_bound-within until x.ty sc) (then_within (expr-within from sc) (λ a. then_within
      (fit-within P a x.ty) (λ a1. seq_within (emit-within (Copy x a1)) (then_within (label_within (loop_check r)) (λ skip. seq_within (emit-within (Jump
      skip)) (then_within (label_within (loop_start r)) (λ start. seq_within (emit-within (Label start)) (seq_within (emit-within (Binary x Add (OVar x)
      (OInt (pos 1) short unsigned))) (then_within (label_within (loop_check r)) (λ check. seq_within (emit-within (Label check)) (then_within (expr-within until
      sc) (λ b. then_within (fit-within P b x.ty) (λ b1. then_within (new_var-within bool_type) (λ cond. seq_within (emit-within (Binary cond Lt (OVar x)
      b1)) (then_within (label_within (loop_end r)) (λ target. seq_within (emit-within (JumpIfNot (OVar cond) target)) (seq_within (h) (then_within
      (label_within (loop_start r)) (λ again. seq_within (emit-within (Jump again)) (then_within (label_within (loop_end r)) (λ end. seq_within (emit-within
      (Label end)) (done-within sc))))))))))))))))))))))))
      (omega arith)

  for_int-within : (r : ℕ) (x : VarId) (from until : Expr) (sc : Scope) (n : ℕ) (body : M Scope) → Holds n body
      → Loop (under from + (under until + n)) (for_int P F r x from until sc body)
  unfolding for_int
  for_int-within r x from until sc n body h = on_int-within (P.type_of x.ty) (fail-within Any _ _ _ _ _ NotInteger r)
      (λ short unsigned. for_loop-within r x short unsigned from until sc n body h)

  for_known-within : (r : ℕ) (o : Option Variable) (from until : Expr) (sc : Scope) (n : ℕ) (body : M Scope) → Holds n body
      → Loop (under from + (under until + n)) (for_known P F r o from until sc body)
  unfolding for_known
  for_known-within r none from until sc n body h = fail-within Any _ _ _ _ _ UnknownVariable r
  for_known-within r (some v) from until sc n body h =
      pick-within v.constant (fail-within Any _ _ _ _ _ AssignToConstant r) (for_int-within r v.var_id from until sc n body h)

  for_within : (r : ℕ) (t : Text) (y : Option ℕ) (from until : Expr) (sc : Scope) (n : ℕ) (body : Scope → M Scope) → ((sc1 : Scope) → Holds n (body sc1))
      → Within Any (4 * (under from + (under until + n)) + 14) (3 * (under from + (under until + n)) + 7) (3 * (under from + (under until + n)) + 6)
      (under from + (under until + n) + 2) (2 * (under from + (under until + n)) + 4) (convert_for_loop P F r t y from until sc body)
  unfolding convert_for_loop
  for_within r t (some y) from until sc n body h = widen
      (then_within (new_var-within y) (λ x. then_within (lift-within (declare (record { name = t; constant = false; var_id = x }) r sc))
      (λ sc1. for_int-within r x from until sc n (body sc1) (h sc1))))
      (omega arith)
  for_within r t none from until sc n body h = widen (for_known-within r (find_variable t sc) from until sc n (body sc) (h sc)) (omega arith)

  break_within : (r : ℕ) (o : Option ℕ) (sc : Scope) → Within Any 1 0 1 0 0 (convert_break P F r o sc)
  unfolding convert_break
  break_within r none sc = fail-within Any 1 0 1 0 0 BreakOutOfLoop r
  break_within r (some l) sc = widen
      (then_within (label_within (loop_end l)) (λ end. seq_within (emit-within (Jump end)) (done-within sc)))
      (omega arith)

  continue_within : (r : ℕ) (o : Option ℕ) (sc : Scope) → Within Any 1 0 1 0 0 (convert_continue P F r o sc)
  unfolding convert_continue
  continue_within r none sc = fail-within Any 1 0 1 0 0 ContinueOutOfLoop r
  continue_within r (some l) sc = widen
      (then_within (label_within (loop_start l)) (λ start. seq_within (emit-within (Jump start)) (done-within sc)))
      (omega arith)

  mutual
    unfolding convert_block statement_records expr_records

    statement_within : (t : Statement) (sc : Scope) → Holds (1 + statement_records t) (convert_statement P F t sc)
    statement_within (SDeclare r n y) sc = widen (seq_within (emit-within (Comment r)) (declare-within r n y sc)) (omega arith)
    statement_within (SInit r c n e) sc = widen (seq_within (emit-within (Comment r)) (init_within r c n e sc)) (omega arith)
    statement_within (SReturn r e) sc = widen (seq_within (emit-within (Comment r)) (return-within r e sc)) (omega arith)
    statement_within (SCall r e) sc = widen (seq_within (emit-within (Comment r)) (statement_call-within r e sc)) (omega arith)
    statement_within (SIf r e a) sc =
        widen (seq_within (emit-within (Comment r)) (if-within r e sc (block_records a) _ (block_within a sc))) (omega arith)
    statement_within (SIfElse r e a b) sc = widen
        (seq_within (emit-within (Comment r)) (if_else_within r e sc (block_records a) (block_records b) _ _ (block_within a sc) (block_within b sc)))
        (omega arith)
    statement_within (SWhile r e a) sc =
        widen (seq_within (emit-within (Comment r)) (while_within r e sc (block_records a) _ (block_within a (with_loop r sc)))) (omega arith)
    statement_within (SFor r n y from until a) sc = widen
        (seq_within (emit-within (Comment r))
        (for_within r n y from until sc (block_records a) (λ sc1 s. convert_block P F a (with_loop r sc1) s) (λ sc1. block_within a (with_loop r sc1))))
        (omega arith)
    statement_within (SBreak r) sc = widen (seq_within (emit-within (Comment r)) (break_within r sc.in_loop sc)) (omega arith)
    statement_within (SContinue r) sc = widen (seq_within (emit-within (Comment r)) (continue_within r sc.in_loop sc)) (omega arith)

    block_within : (b : Block) (sc : Scope) → Holds (block_records b) (convert_block P F b sc)
    block_within done sc = done-within sc
    block_within (next t b) sc = widen (then_within (statement_within t sc) (λ sc1. block_within b sc1)) (omega arith)

-- ---- functions

params-within : (l : List Param) (sc : Scope) → Within Any 0 (length l) 0 0 0 (declare_params l sc)
unfolding declare_params
params-within [] sc = done-within sc
params-within (p ∷ l) sc = pick-within (is_some (find_variable p.name sc)) (fail-within Any _ _ _ _ _ AlreadyDeclared p.rec_of)
    (widen (then_within (new_var-within p.ty) (λ x. params-within l (with_variable (record { name = p.name; constant = false; var_id = x }) sc)))
    (omega arith))

body-within : (P : Program) (F : Functions) (f : Function) (b : Block)
    → Within Any (4 * block_records b) (length f.params + 3 * block_records b) (3 * block_records b) (block_records b) (2 * block_records b)
    (convert_body P F f b)
unfolding convert_body
body-within P F f b = widen
    (then_within (params-within f.params (record { variables = []; in_loop = none; function = f })) (λ sc.
    then_within (block_within P F b sc) (λ x. pick-within (is_some f.return_type && not (always_returns b))
    (fail-within Any 0 0 0 0 0 MissingReturn f.rec_of) (done-within tt))))
    (omega arith)

-- where a result is made, Q holds of it
abbrev pub IfOk : {A : Type 0} → (A → Type 0) → Result A → Type 0
IfOk Q (ok a) = Q a
IfOk Q (err k r) = Unit {0}

if_ok_then : {A B : Type 0} (Q : A → Type 0) (R : B → Type 0) (x : Result A) (k : A → Result B)
    → IfOk Q x → ((a : A) → Q a → IfOk R (k a)) → IfOk R (C.◌>>=◌ x k)
unfolding C.◌>>=◌
if_ok_then Q R (ok a) k q h = h a q
if_ok_then Q R (err e r) k q h = tt

-- a function of n records, behind a pool of strings and floats
record Sized (n : ℕ) (p : Pool) (x : IrFunction × Pool) : Type 0 where
  code : length (code_of x.0.body) ≤ 4 * n
  vars : length x.0.vars ≤ 3 * n
  labels : length x.0.labels ≤ 3 * n
  strings : length x.1.strings ≤ length p.strings + n
  floats : length x.1.floats ≤ length p.floats + 2 * n

abbrev start : Pool → State
start p = record { vars = []; labels = []; strings = p.strings; floats = p.floats }

finished_sized : {n i v l s t : ℕ} (f : Function) (p : Pool) (o : Out (Unit {0})) → (i ≤ 4 * n) × (v ≤ 3 * n) × (l ≤ 3 * n) × (s ≤ n) × (t ≤ 2 * n)
    → Grown Any i v l s t (start p) o → IfOk (Sized n p) (finished f o)
unfolding finished code_of
finished_sized f p o b (grew u c s q g) = record {
  code = omega (arith, g.code, b.0);
  vars = omega (arith, g.vars, b.1);
  labels = omega (arith, g.labels, b.2);
  strings = omega (arith, g.strings, b.3);
  floats = omega (arith, g.floats, b.4);
}
finished_sized f p o b (fell k r) = tt

function_sized : (P : Program) (F : Functions) (f : Function) (o : Option Block) (p : Pool)
    → IfOk (Sized (3 + (2 * length f.params + body_records o)) p) (convert_function P F f o p)
unfolding convert_function body_records code_of
function_sized P F f none p = omega arith
function_sized P F f (some b) p =
    finished_sized f p _ (omega arith) ((body-within P F f b).holds (start p))

func_sized : (P : Program) (F : Functions) (f : Function) (p : Pool) → IfOk (Sized (function_records f) p) (convert_func P F f p)
unfolding convert_func function_records
func_sized P F f p = function_sized P F f f.body p

-- ---- the program

code_snoc : (l : List IrFunction) (g : IrFunction) → length (all_code (l ++ (g ∷ []))) ≡ length (all_code l) + length (code_of g.body)
unfolding all_code
code_snoc [] g = length-append (code_of g.body) [] ∙ omega arith
code_snoc (h ∷ l) g = rw (length-append (code_of h.body) (all_code (l ++ (g ∷ []))), length-append (code_of h.body) (all_code l))
    (omega (arith, code_snoc l g))

vars_snoc : (l : List IrFunction) (g : IrFunction) → length (all_vars (l ++ (g ∷ []))) ≡ length (all_vars l) + length g.vars
unfolding all_vars
vars_snoc [] g = length-append g.vars [] ∙ omega arith
vars_snoc (h ∷ l) g = rw (length-append h.vars (all_vars (l ++ (g ∷ []))), length-append h.vars (all_vars l)) (omega (arith, vars_snoc l g))

labels_snoc : (l : List IrFunction) (g : IrFunction) → length (all_labels (l ++ (g ∷ []))) ≡ length (all_labels l) + length g.labels
unfolding all_labels
labels_snoc [] g = length-append g.labels [] ∙ omega arith
labels_snoc (h ∷ l) g = rw (length-append h.labels (all_labels (l ++ (g ∷ []))), length-append h.labels (all_labels l)) (omega (arith, labels_snoc l g))

-- behind the functions l and the pool p, functions of n records
record Added (n : ℕ) (l : List IrFunction) (p : Pool) (q : IrProgram) : Type 0 where
  functions : length q.funcs ≤ length l + n
  code : length (all_code q.funcs) ≤ length (all_code l) + 4 * n
  vars : length (all_vars q.funcs) ≤ length (all_vars l) + 3 * n
  labels : length (all_labels q.funcs) ≤ length (all_labels l) + 3 * n
  strings : length q.strings ≤ length p.strings + n
  floats : length q.floats ≤ length p.floats + 2 * n

added : (m n : ℕ) (l : List IrFunction) (p : Pool) (x : IrFunction × Pool) (q : IrProgram) → 1 ≤ m
    → Sized m p x → Added n (l ++ (x.0 ∷ [])) x.1 q → Added (m + n) l p q
added m n l p x q h s a = record {
  functions = omega (arith, a.functions, length-append l (x.0 ∷ []));
  code = omega (arith, s.code, a.code, code_snoc l x.0);
  vars = omega (arith, s.vars, a.vars, vars_snoc l x.0);
  labels = omega (arith, s.labels, a.labels, labels_snoc l x.0);
  strings = omega (arith, s.strings, a.strings);
  floats = omega (arith, s.floats, a.floats);
}

pub if_ok_map : {A : Type 0} {Q R : A → Type 0} (x : Result A) → ((a : A) → Q a → R a) → IfOk Q x → IfOk R x
if_ok_map (ok a) h q = h a q
if_ok_map (err k r) h q = tt

all-added : (P : Program) (F : Functions) (fs : List Function) (l : List IrFunction) (p : Pool)
    → IfOk (Added (all_records fs) l p) (convert_all P F fs l p)
unfolding convert_all all_records function_records
all-added P F [] l p = record {
  functions = omega arith;
  code = omega arith;
  vars = omega arith;
  labels = omega arith;
  strings = omega arith;
  floats = omega arith;
}
all-added P F (f ∷ fs) l p = if_ok_then (Sized (function_records f) p) (Added (function_records f + all_records fs) l p) (convert_func P F f p) _
    (func_sized P F f p)
    (λ x s. if_ok_map (convert_all P F fs (l ++ (x.0 ∷ [])) x.1)
    (λ q a. added (function_records f) (all_records fs) l p x q (omega arith) s a)
    (all-added P F fs (l ++ (x.0 ∷ [])) x.1))

-- THE SIZES: what a program whose functions are made of n records is converted to
pub record Suffice (n : ℕ) (q : IrProgram) : Type 0 where
  pub functions : length q.funcs ≤ n
  pub instructions : length (all_code q.funcs) ≤ 4 * n
  pub variables : length (all_vars q.funcs) ≤ 3 * n
  pub labels : length (all_labels q.funcs) ≤ 3 * n
  pub strings : length q.strings ≤ n
  pub floats : length q.floats ≤ 2 * n

pub suffice : (P : Program) (needsMain : Bool) → IfOk (Suffice (all_records P.functions)) (convert P needsMain)
unfolding convert all_code all_vars all_labels
suffice P needsMain = if_ok_then Any (Suffice (all_records P.functions)) (get_all_functions P.functions []) _ (any (get_all_functions P.functions []))
    (λ F u. if_ok_then Any (Suffice (all_records P.functions)) (check_main P needsMain) _ (any (check_main P needsMain))
    (λ x u. if_ok_map (convert_all P F P.functions [] (record { strings = []; floats = [] }))
    (λ q a. omega (arith, a.functions, a.code, a.vars, a.labels, a.strings, a.floats))
    (all-added P F P.functions [] (record { strings = []; floats = [] }))))
  where
    any : {A : Type 0} (x : Result A) → IfOk Any x
    any (ok a) = tt
    any (err k r) = tt

-- ---- over the records of the tree

pub more_room : (m n : ℕ) (q : IrProgram) → m ≤ n → Suffice m q → Suffice n q
more_room m n q h s = omega (arith, h, s.functions, s.instructions, s.variables, s.labels, s.strings, s.floats)

-- a tree of n records, each of which has what it must lead to and, but for types and functions, is referred to at most once
pub tree_suffices : (tree text : List ℕ) (needsMain : Bool) → ((r : ℕ) → r < records tree → Complete tree text r)
    → ((j : ℕ) → j < records tree → Once tree text (records tree) j) → IfOk (Suffice (records tree)) (convert (program tree text) needsMain)
unfolding program
tree_suffices tree text needsMain c o = if_ok_map (convert (program tree text) needsMain)
    (λ q s. more_room (all_records (functions_below tree text (records tree))) (records tree) q (functions-records tree text (records tree) c o) s)
    (suffice (program tree text) needsMain)
