-- expressions.rs: the type of an expression and the function that a call runs, once names, calls and operands are checked.
-- Assumes nothing: these are definitions.
use Rattle.std.specs.Prelude.{ℕ, Bool, false, not, ◌&&◌, ◌||◌, ltb, length}
use Rattle.std.proofs.Math.Bool.{true}
use mathlib.Core.List.{List, [], ◌∷◌, ◌++◌}
use Rattle.std.proofs.Math.Option.{Option, none, some}
use Rattle.std.proofs.Math.Dec.{eqb}
use Rattle.laws.specs.Fix.{pick}
use Rattle.laws.specs.Below.{or_else}
use Rattle.syntax.specs.Syntax.{Text, UnaryOp, Neg, BitNot, Not, BinaryOp, Or, And, BitOr, BitXor, BitAnd, Eq, NotEq, Lt, Le, Gt, Ge, Shl, Shr, Add, Sub, Mul, Div, Rem, Expr, EInt, EFloat, EStr, EBool, EName, ENull, ESizeOf, EUnary, EBinary, ECall, Args, no_args, Value, ToType, Param, Function, Program, place, int_type, float_type, bool_type, null_type, address_of_char}
use Rattle.conversion.specs.ConvertError.{Result, ok, err, ◌>>=◌, UnknownVariable, UnknownFunction, NoValue, WrongOperands, AmbiguousCall, LiteralOutOfRange, InvalidCast}
use Rattle.conversion.specs.Ir.{same_text}
use Rattle.conversion.specs.Types.{is_int, is_number, fits, range_error, can_cast}
use Rattle.conversion.specs.Scope.{Variable, Scope, find_variable}

-- `Callee`: 'a function of the program, or 바꾸다 to the type of its 로 argument'
pub data Callee : Type 0 where
  CallFunction : Function → Callee
  CallCast : ℕ → Callee

-- `return_type`
unfoldable pub return_type : Callee → Option ℕ
return_type (CallFunction f) = f.return_type
return_type (CallCast y) = some y

-- an argument's type, and its expression unless it is a type
pub record TypedArg : Type 0 where
  pub ty : ℕ
  pub value : Option Expr

-- 'the verb whose nine bytes are EB B0 94 EA BE B8 EB 8B A4'
abbrev pub cast_verb : Text
cast_verb = 0xEB ∷ 0xB0 ∷ 0x94 ∷ 0xEA ∷ 0xBE ∷ 0xB8 ∷ 0xEB ∷ 0x8B ∷ 0xA4 ∷ []

-- "main"
abbrev pub main_name : Text
main_name = 109 ∷ 97 ∷ 105 ∷ 110 ∷ []

-- "$" and "$..."
abbrev pub dollar : ℕ
dollar = 36

abbrev pub variadic_mark : Text
variadic_mark = 36 ∷ 46 ∷ 46 ∷ 46 ∷ []

-- `is_mangled`: 'neither 외부 nor main'
unfoldable pub is_mangled : Function → Bool
unfolding same_text
is_mangled f = not f.external && not (same_text f.name main_name)

-- `takes_count`: 'as many as its parameters, or more when variadic'
unfoldable pub takes_count : Function → ℕ → Bool
takes_count f n = eqb (length f.params) n || (f.variadic && ltb (length f.params) n)

-- ---- the functions by key: the Rust's map from keys to functions

abbrev pub Functions : Type 0
Functions = List (Text × Function)

-- `functions.get(key)`
unfoldable pub get_function : Text → Functions → Option Function
unfolding same_text
get_function k [] = none
get_function k (e ∷ l) = elim (same_text k e.0) [ true ↦ some e.1 | false ↦ get_function k l ]

-- `filter`, `unwrap_or`
unfoldable pub filter_option : {X : Type 0} → (X → Bool) → Option X → Option X
unfolding pick
filter_option p none = none
filter_option p (some x) = pick (p x) (some x) none

unfoldable pub unwrap_or : {X : Type 0} → X → Option X → X
unwrap_or d none = d
unwrap_or d (some x) = x

-- ---- operators

-- which operand types an operator takes
pub data OperandClass : Type 0 where
  Bools Any Numbers Integers : OperandClass

-- 'Or and And want Bool; Eq and NotEq any common type; Lt to Ge and Add to Div numbers; the rest integers'
unfoldable pub operand_class : BinaryOp → OperandClass
operand_class Or = Bools
operand_class And = Bools
operand_class Eq = Any
operand_class NotEq = Any
operand_class Lt = Numbers
operand_class Le = Numbers
operand_class Gt = Numbers
operand_class Ge = Numbers
operand_class Add = Numbers
operand_class Sub = Numbers
operand_class Mul = Numbers
operand_class Div = Numbers
operand_class BitOr = Integers
operand_class BitXor = Integers
operand_class BitAnd = Integers
operand_class Shl = Integers
operand_class Shr = Integers
operand_class Rem = Integers

-- whether the result is a Bool; else it has its operands' common type
unfoldable pub gives_bool : BinaryOp → Bool
gives_bool Or = true
gives_bool And = true
gives_bool Eq = true
gives_bool NotEq = true
gives_bool Lt = true
gives_bool Le = true
gives_bool Gt = true
gives_bool Ge = true
gives_bool BitOr = false
gives_bool BitXor = false
gives_bool BitAnd = false
gives_bool Shl = false
gives_bool Shr = false
gives_bool Add = false
gives_bool Sub = false
gives_bool Mul = false
gives_bool Div = false
gives_bool Rem = false

-- ---- what needs no types' table

-- the first type argument, and the type of the first value
unfoldable pub target_type : List TypedArg → Option ℕ
target_type [] = none
target_type (a ∷ l) = elim a.value [ none ↦ some a.ty | some e ↦ target_type l ]

unfoldable pub source_type : List TypedArg → Option ℕ
source_type [] = none
source_type (a ∷ l) = elim a.value [ none ↦ source_type l | some e ↦ some a.ty ]

unfoldable pub name_type : ℕ → Option Variable → Result ℕ
name_type r (some v) = ok v.var_id.ty
name_type r none = err UnknownVariable r

-- none, one or several functions that literals fit
unfoldable pub chosen : List Function → ℕ → Result Callee
chosen [] r = err UnknownFunction r
chosen (f ∷ []) r = ok (CallFunction f)
chosen (f ∷ g ∷ l) r = err AmbiguousCall r

unfoldable pub value_type : ℕ → Option ℕ → Result ℕ
value_type r (some y) = ok y
value_type r none = err NoValue r

module _ (P : Program) (F : Functions) where
  -- the type that both sides take, l and r being their types: the Rust's test in `common_type` and in `get_type`
  unfoldable pub common_of : Expr → ℕ → Expr → ℕ → Option ℕ
  unfolding pick fits
  common_of left l right r = pick (fits P.type_of right r l) (some l) (pick (fits P.type_of left l r) (some r) none)

  unfoldable pub accepts_unary : UnaryOp → ℕ → Bool
  unfolding is_number is_int
  accepts_unary Neg y = is_number (P.type_of y)
  accepts_unary BitNot y = is_int (P.type_of y)
  accepts_unary Not y = eqb y bool_type

  unfoldable pub accepts_class : OperandClass → ℕ → Bool
  unfolding is_number is_int
  accepts_class Bools y = eqb y bool_type
  accepts_class Any y = true
  accepts_class Numbers y = is_number (P.type_of y)
  accepts_class Integers y = is_int (P.type_of y)

  unfoldable pub unary_type : ℕ → UnaryOp → ℕ → Result ℕ
  unfolding pick accepts_unary
  unary_type r o y = pick (accepts_unary o y) (ok y) (err WrongOperands r)

  -- no type that the operator takes: first the right operand's range, then the left's
  unfoldable pub binary_error : ℕ → Expr → ℕ → Expr → ℕ → Result ℕ
  unfolding pick range_error place
  binary_error r left l right y = pick (range_error P.type_of right y l) (err LiteralOutOfRange (place right))
      (pick (range_error P.type_of left l y) (err LiteralOutOfRange (place left)) (err WrongOperands r))

  unfoldable pub accepted : BinaryOp → Option ℕ → Result ℕ → Result ℕ
  unfolding pick gives_bool
  accepted o (some y) e = ok (pick (gives_bool o) bool_type y)
  accepted o none e = e

  unfoldable pub binary_type : ℕ → BinaryOp → Expr → ℕ → Expr → ℕ → Result ℕ
  unfolding accepted filter_option accepts_class operand_class common_of binary_error
  binary_type r o left l right y =
      accepted o (filter_option (accepts_class (operand_class o)) (common_of left l right y)) (binary_error r left l right y)

  -- ---- calls

  -- `takes_args`: 'the arguments after the parameters of a variadic are not checked'
  unfoldable pub takes_arg : Param → TypedArg → Bool
  unfolding fits
  takes_arg p a = elim a.value [ none ↦ eqb a.ty p.ty | some e ↦ fits P.type_of e a.ty p.ty ]

  unfoldable pub takes_args : List Param → List TypedArg → Bool
  unfolding takes_arg
  takes_args [] l = true
  takes_args (p ∷ ps) [] = true
  takes_args (p ∷ ps) (a ∷ l) = takes_arg p a && takes_args ps l

  -- `takes_count` and `takes_args`, which are always tested together
  unfoldable pub takes_both : Function → List TypedArg → Bool
  unfolding takes_count takes_args
  takes_both f l = takes_count f (length l) && takes_args f.params l

  -- `cast_type`: the type that a cast goes to, if the call is a cast
  unfoldable pub cast_checked : ℕ → ℕ → Option ℕ → Result (Option ℕ)
  unfolding pick can_cast
  cast_checked r to none = ok (some to)
  cast_checked r to (some from) = pick (can_cast P.type_of from to) (ok (some to)) (err InvalidCast r)

  unfoldable pub cast_to : ℕ → List TypedArg → Option ℕ → Result (Option ℕ)
  unfolding cast_checked source_type
  cast_to r l none = ok none
  cast_to r l (some to) = cast_checked r to (source_type l)

  unfoldable pub cast_type : Text → List TypedArg → ℕ → Result (Option ℕ)
  unfolding pick same_text cast_to target_type
  cast_type verb l r = pick (same_text verb cast_verb) (cast_to r l (target_type l)) (ok none)

  -- the key text of each argument's type behind "$"
  unfoldable pub suffixes : List TypedArg → List Text
  suffixes [] = []
  suffixes (a ∷ l) = (dollar ∷ P.key_of a.ty) ∷ suffixes l

  unfoldable pub mangled_function : Text → Option Function
  unfolding filter_option is_mangled get_function
  mangled_function key = filter_option is_mangled (get_function key F)

  -- the verb with the suffixes
  unfoldable pub joined : Text → List Text → Text
  joined verb [] = verb
  joined verb (s ∷ l) = joined (verb ++ s) l

  -- 'the longest prefix with `$...`'
  unfoldable pub variadic_function : Text → List Text → Option Function
  unfolding or_else mangled_function
  variadic_function verb [] = mangled_function (verb ++ variadic_mark)
  variadic_function verb (s ∷ l) = or_else (variadic_function (verb ++ s) l) (mangled_function (verb ++ variadic_mark))

  -- `find_exact_function`: 'the verb as a key, then verb with `$` and key text for each type, then the longest prefix with `$...`'
  unfoldable pub find_exact_function : Text → List TypedArg → Option Function
  unfolding or_else filter_option get_function takes_both mangled_function joined suffixes variadic_function
  find_exact_function verb l =
      or_else (filter_option (λ f. takes_both f l) (get_function verb F))
      (or_else (mangled_function (joined verb (suffixes l))) (variadic_function verb (suffixes l)))

  -- `find_functions_by_literals`: 'then all mangled functions that literals fit'
  unfoldable pub by_literals : Text → List TypedArg → List Function → List Function
  unfolding pick same_text is_mangled takes_both
  by_literals verb l [] = []
  by_literals verb l (f ∷ fs) =
      let rest = by_literals verb l fs in
      pick (same_text f.name verb && is_mangled f && takes_both f l) (f ∷ rest) rest

  unfoldable pub find_functions_by_literals : Text → List TypedArg → List Function
  unfolding by_literals
  find_functions_by_literals verb l = by_literals verb l P.functions

  unfoldable pub exact_or : Option Function → Result Callee → Result Callee
  exact_or (some f) c = ok (CallFunction f)
  exact_or none c = c

  unfoldable pub resolve_function : Text → List TypedArg → ℕ → Option ℕ → Result Callee
  unfolding exact_or find_exact_function chosen find_functions_by_literals
  resolve_function verb l r (some y) = ok (CallCast y)
  resolve_function verb l r none = exact_or (find_exact_function verb l) (chosen (find_functions_by_literals verb l) r)

  -- `resolve_call` from the typed arguments on
  unfoldable pub resolve_typed : Text → ℕ → List TypedArg → Result Callee
  unfolding ◌>>=◌ cast_type resolve_function
  resolve_typed verb r l = do
    c ← cast_type verb l r
    resolve_function verb l r c

  -- ---- types of expressions

  unfoldable mutual
    unfolding ◌>>=◌ name_type find_variable unary_type binary_type resolve_typed value_type return_type

    -- `get_type`
    pub get_type : Expr → Scope → Result ℕ
    get_type (EInt r v short unsigned) sc = ok (int_type short unsigned)
    get_type (EFloat r b short) sc = ok (float_type short)
    get_type (EStr r o n t) sc = ok address_of_char
    get_type (EBool r b) sc = ok bool_type
    get_type (EName r t) sc = name_type r (find_variable t sc)
    get_type (ENull r) sc = ok null_type
    get_type (ESizeOf r y) sc = ok (int_type false true)
    get_type (EUnary r o a) sc = do
      y ← get_type a sc
      unary_type r o y
    get_type (EBinary r o a b) sc = do
      l ← get_type a sc
      y ← get_type b sc
      binary_type r o a l b y
    get_type (ECall r verb l) sc = do
      ts ← get_argument_types l sc
      c ← resolve_typed verb r ts
      value_type r (return_type c)

    -- `get_argument_types`
    pub get_argument_types : Args → Scope → Result (List TypedArg)
    get_argument_types no_args sc = ok []
    get_argument_types (Value r e l) sc = do
      y ← get_type e sc
      ts ← get_argument_types l sc
      ok (record { ty = y; value = some e } ∷ ts)
    get_argument_types (ToType r y l) sc = do
      ts ← get_argument_types l sc
      ok (record { ty = y; value = none } ∷ ts)

  -- `resolve_call`
  unfoldable pub resolve_call : Text → Args → Scope → ℕ → Result Callee
  unfolding ◌>>=◌ get_argument_types resolve_typed
  resolve_call verb l sc r = do
    ts ← get_argument_types l sc
    resolve_typed verb r ts

  -- `common_type`
  unfoldable pub common_type : Expr → Expr → Scope → Result (Option ℕ)
  unfolding ◌>>=◌ get_type common_of
  common_type left right sc = do
    l ← get_type left sc
    r ← get_type right sc
    ok (common_of left l right r)
