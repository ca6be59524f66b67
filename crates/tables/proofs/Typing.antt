-- The type of an expression, and all that a call's resolution gives, fit a word.
-- By induction over the expression: each type is one of the twelve, a variable's, a parameter's, a function's or a type argument's.
-- Assumes nothing.
use Prim.Native.Nat.{ℕ}
use mathlib.Core.Bool.{Bool, true, false}
use mathlib.Core.List.{List, [], ◌∷◌}
use mathlib.Core.Option.{Option, none as nothing, some}
use native.Mathlib.Omega.{arith}
use Rattle.laws.specs.All.{All}
use Rattle.laws.specs.Fix.{pick}
use Rattle.syntax.specs.Syntax.{Text, BinaryOp, UnaryOp, Expr, EInt, EFloat, EStr, EBool, EName, ENull, ESizeOf, EUnary, EBinary, ECall, Args, no_args, Value, ToType, Function, Program, place, int_type, float_type, bool_type, null_type, address_of_char}
use Rattle.conversion.specs.ConvertError.{Result, ok, err, ◌>>=◌, LiteralOutOfRange, WrongOperands}
use Rattle.conversion.specs.Ir.{same_text}
use Rattle.conversion.specs.Types.{fits, range_error, can_cast}
use Rattle.conversion.specs.Scope.{Variable, Scope, find_in, find_variable}
use Rattle.conversion.specs.Expressions.{Callee, CallFunction, CallCast, return_type, TypedArg, cast_verb, Functions, filter_option, unwrap_or, operand_class, gives_bool, target_type, source_type, name_type, value_type, common_of, accepts_class, accepts_unary, unary_type, binary_error, accepted, binary_type, cast_checked, cast_to, cast_type, resolve_function, resolve_typed, get_type, get_argument_types, resolve_call, common_type}
use Rattle.tables.proofs.Exists.{Word}
use Rattle.conversion.proofs.Called.{OfEach, OfCallee, OfTarget, resolved_function}
use Rattle.tables.proofs.SyntaxFits.{OkIs, ok_is, err_is, OptIs, none_is, some_is, ExprFits, ArgsFit, SignatureFits, CalleeFits, FunctionFitsIn, KeyedFit, TreeFits}

-- ---- results and options

pub ok-bind : {A B : Type 0} {Q : A → Type 0} {R : B → Type 0} {m : Result A} {f : A → Result B} → OkIs Q m
    → ((a : A) → Q a → OkIs R (f a)) → OkIs R (m >>= f)
unfolding ◌>>=◌
ok-bind (ok_is {a} h) k = k a h
ok-bind err_is k = err_is

pub pick_is : {X : Type 0} (Q : X → Type 0) (b : Bool) (x y : X) → Q x → Q y → Q (pick b x y)
unfolding pick
pick_is Q true x y h k = h
pick_is Q false x y h k = k

filter-is : {X : Type 0} {Q : X → Type 0} {o : Option X} (p : X → Bool) → OptIs Q o → OptIs Q (filter_option p o)
unfolding filter_option
filter-is p none_is = none_is
filter-is {Q} p (some_is {a} h) = pick_is (OptIs Q) (p a) (some a) nothing (some_is h) none_is

pub unwrap_is : {X : Type 0} {Q : X → Type 0} {o : Option X} (d : X) → Q d → OptIs Q o → Q (unwrap_or d o)
unfolding unwrap_or
unwrap_is d h none_is = h
unwrap_is d h (some_is k) = k

-- ---- the twelve types

int_type-word : (s u : Bool) → Word (int_type s u)
int_type-word false false = omega arith
int_type-word true false = omega arith
int_type-word false true = omega arith
int_type-word true true = omega arith

pub float_type-word : (s : Bool) → Word (float_type s)
float_type-word false = omega arith
float_type-word true = omega arith

-- ---- scopes

abbrev pub TypeFits : Variable → Type 0
TypeFits v = Word v.var_id.ty

pub find-is : (Q : Variable → Type 0) (n : Text) (l : List Variable) → All Q l → OptIs Q (find_in n l)
unfolding find_in
find-is Q n [] h = none_is
find-is Q n (v ∷ l) h = by (same_text n v.name) h.0 (find-is Q n l h.1)
  where
    by : (b : Bool) → Q v → OptIs Q (find_in n l) → OptIs Q (elim b [ true ↦ some v | false ↦ find_in n l ])
    by true p q = some_is p
    by false p q = q

pub signatures : (text : Text) (l : List Function) → All (FunctionFitsIn text) l → OfEach (SignatureFits text) Word l
signatures text [] h = tt
signatures text (f ∷ l) h = (h.0.signature, signatures text l h.1)

module _ (text : Text) (P : Program) (F : Functions) (treeFits : TreeFits text P)
    (functionsFit : KeyedFit text F) where
  abbrev ArgFits : TypedArg → Type 0
  ArgFits a = Word a.ty

  -- ---- operators

  common-word : (a : Expr) (l : ℕ) (b : Expr) (r : ℕ) → Word l → Word r → OptIs Word (common_of P F a l b r)
  unfolding common_of
  common-word a l b r h k = pick_is (OptIs Word) (fits P.type_of b r l) (some l) _ (some_is h)
      (pick_is (OptIs Word) (fits P.type_of a l r) (some r) nothing (some_is k) none_is)

  unary-word : (r : ℕ) (o : UnaryOp) (y : ℕ) → Word y → OkIs Word (unary_type P F r o y)
  unfolding unary_type
  unary-word r o y h = pick_is (OkIs Word) (accepts_unary P F o y) (ok y) _ (ok_is h) err_is

  accepted-word : (o : BinaryOp) {y : Option ℕ} {e : Result ℕ} → OptIs Word y → OkIs Word e → OkIs Word (accepted P F o y e)
  unfolding accepted
  accepted-word o (some_is {a} h) k = ok_is (pick_is Word (gives_bool o) bool_type a (omega arith) h)
  accepted-word o none_is k = k

  error-word : (r : ℕ) (a : Expr) (l : ℕ) (b : Expr) (y : ℕ) → OkIs Word (binary_error P F r a l b y)
  unfolding binary_error
  error-word r a l b y = pick_is (OkIs Word) (range_error P.type_of b y l) (err LiteralOutOfRange (place b)) _ err_is
      (pick_is (OkIs Word) (range_error P.type_of a l y) (err LiteralOutOfRange (place a)) (err WrongOperands r) err_is err_is)

  binary-word : (r : ℕ) (o : BinaryOp) (a : Expr) (l : ℕ) (b : Expr) (y : ℕ) → Word l → Word y → OkIs Word (binary_type P F r o a l b y)
  unfolding binary_type
  binary-word r o a l b y h k = accepted-word o
      (filter-is (accepts_class P F (operand_class o)) (common-word a l b y h k)) (error-word r a l b y)

  -- ---- calls

  target-of : {o : Option ℕ} → OptIs Word o → OfTarget (SignatureFits text) Word o
  target-of none_is = tt
  target-of (some_is h) = h

  callee-is : (c : Result Callee) → OfCallee (SignatureFits text) Word c → OkIs (CalleeFits text) c
  callee-is (ok (CallFunction f)) h = ok_is h
  callee-is (ok (CallCast y)) h = ok_is h
  callee-is (err k r) h = err_is

  resolve_function-fits : (verb : Text) (l : List TypedArg) (r : ℕ) {o : Option ℕ} → OptIs Word o → OkIs (CalleeFits text) (resolve_function P F verb l r o)
  resolve_function-fits verb l r {o} h = callee-is (resolve_function P F verb l r o)
      (resolved_function (SignatureFits text) Word P F (signatures text P.functions treeFits) functionsFit verb l r o (target-of h))

  target-word : (l : List TypedArg) → All ArgFits l → OptIs Word (target_type l)
  unfolding target_type
  target-word [] h = none_is
  target-word (a ∷ l) h = by a.value h.0 (target-word l h.1)
    where
      by : (v : Option Expr) → Word a.ty → OptIs Word (target_type l) → OptIs Word (elim v [ nothing ↦ some a.ty | some e ↦ target_type l ])
      by nothing p q = some_is p
      by (some e) p q = q

  cast_checked_lem : (r to : ℕ) (o : Option ℕ) → Word to → OkIs (OptIs Word) (cast_checked P F r to o)
  unfolding cast_checked
  cast_checked_lem r to nothing h = ok_is (some_is h)
  cast_checked_lem r to (some y) h = pick_is (OkIs (OptIs Word)) (can_cast P.type_of y to) (ok (some to)) _ (ok_is (some_is h)) err_is

  cast_to_lem : (r : ℕ) (l : List TypedArg) {o : Option ℕ} → OptIs Word o → OkIs (OptIs Word) (cast_to P F r l o)
  unfolding cast_to
  cast_to_lem r l none_is = ok_is none_is
  cast_to_lem r l (some_is {a} h) = cast_checked_lem r a (source_type l) h

  resolve_typed_lem : (verb : Text) (r : ℕ) (l : List TypedArg) → All ArgFits l → OkIs (CalleeFits text) (resolve_typed P F verb r l)
  unfolding resolve_typed cast_type
  resolve_typed_lem verb r l h = ok-bind
      (pick_is (OkIs (OptIs Word)) (same_text verb cast_verb) (cast_to P F r l (target_type l)) (ok nothing) (cast_to_lem r l (target-word l h)) (ok_is none_is))
      (λ c k. resolve_function-fits verb l r k)

  -- ---- expressions

  name-word : (r : ℕ) {o : Option Variable} → OptIs TypeFits o → OkIs Word (name_type r o)
  unfolding name_type
  name-word r (some_is h) = ok_is h
  name-word r none_is = err_is

  given_word : (r : ℕ) {o : Option ℕ} → OptIs Word o → OkIs Word (value_type r o)
  unfolding value_type
  given_word r (some_is h) = ok_is h
  given_word r none_is = err_is

  value-word : (r : ℕ) (c : Callee) → CalleeFits text c → OkIs Word (value_type r (return_type c))
  unfolding value_type return_type
  value-word r (CallFunction f) h = given_word r h.return_type
  value-word r (CallCast y) h = ok_is h

  module _ (sc : Scope) (scopeFits : All TypeFits sc.variables) where
    mutual
      unfolding get_type find_variable

      pub type-word : (e : Expr) → ExprFits text e → OkIs Word (get_type P F e sc)
      type-word (EInt r v s u) h = ok_is (int_type-word s u)
      type-word (EFloat r b s) h = ok_is (float_type-word s)
      type-word (EStr r o n t) h = ok_is {a = address_of_char} (omega arith)
      type-word (EBool r b) h = ok_is {a = bool_type} (omega arith)
      type-word (EName r t) h = name-word r (find-is TypeFits t sc.variables scopeFits)
      type-word (ENull r) h = ok_is {a = null_type} (omega arith)
      type-word (ESizeOf r y) h = ok_is (int_type-word false true)
      type-word (EUnary r o a) h = ok-bind (type-word a h) (λ y k. unary-word r o y k)
      type-word (EBinary r o a b) h = ok-bind (type-word a h.1)
          (λ l k. ok-bind (type-word b h.2) (λ y j. binary-word r o a l b y k j))
      type-word (ECall r verb l) h = ok-bind (types-words l h)
          (λ ts k. ok-bind (resolve_typed_lem verb r ts k) (λ c j. value-word r c j))

      types-words : (l : Args) → ArgsFit text l → OkIs (All ArgFits) (get_argument_types P F l sc)
      types-words no_args h = ok_is tt
      types-words (Value r e l) h = ok-bind (type-word e h.0)
          (λ y k. ok-bind (types-words l h.1) (λ ts j. ok_is (k, j)))
      types-words (ToType r y l) h = ok-bind (types-words l h.1) (λ ts j. ok_is (h.0, j))

    pub resolve_fits : (verb : Text) (l : Args) (r : ℕ) → ArgsFit text l → OkIs (CalleeFits text) (resolve_call P F verb l sc r)
    unfolding resolve_call
    resolve_fits verb l r h = ok-bind (types-words l h) (λ ts k. resolve_typed_lem verb r ts k)

    pub common_type-word : (a b : Expr) → ExprFits text a → ExprFits text b → OkIs (OptIs Word) (common_type P F a b sc)
    unfolding common_type
    common_type-word a b h k = ok-bind (type-word a h)
        (λ l i. ok-bind (type-word b k) (λ r j. ok_is (common-word a l b r i j)))
