-- What each answer says, as the definitions say it: a result, or a refusal's kind and place. Assumes nothing: these are definitions.
use Rattle.std.specs.Prelude.{◌≡◌, ℕ, ◌+◌, ◌*◌, ◌≤◌, ◌<◌, Bool, length, get_or, Option as StdOption, Some, None, Result as StdResult, Ok, Err}
use mathlib.Core.List.{List, [], ◌∷◌, ◌++◌}
use Rattle.std.proofs.Math.Option.{Option, none, some}
use Rattle.records.specs.Layout.{scratch_each}
use Rattle.records.specs.Words.{detail_of, word_of, records, A, B, C}
use Rattle.records.specs.declared.convert_error.ConvertError.{ConvertError}
use Rattle.syntax.specs.Syntax.{Value, ToType, Function, Neg, Or, unary_ops, binary_ops}
use Rattle.syntax.specs.Decode.{program}
use Rattle.syntax.specs.Exprs.{exprs, args_exprs, parts_exprs}
use Rattle.conversion.specs.ConvertError.{Result, ok, err, ◌>>=◌}
use Rattle.conversion.specs.Expressions as Defined
use Rattle.conversion.specs.Expressions.{Callee, CallFunction, CallCast, return_type, value_type, get_argument_types, common_type, OperandClass, accepts_class, unary_type, binary_error, binary_type}
use Rattle.scope.specs.declared.Scope.{Scope}
use Rattle.scope.specs.Open.{scope_at}
use Rattle.types.specs.declared.operators.OperandClass as CodeClass
use Rattle.types.specs.Operators.{class_of}
use Rattle.expressions.specs.declared.answers.Callee as Code
use Rattle.expressions.specs.declared.answers.Candidates.{Candidates}
use Rattle.expressions.specs.declared.operands.Sides.{Sides}
use Rattle.expressions.specs.declared.arguments.Argument.{Argument}
use Rattle.syntax.specs.Places.{IsExpr, TypeAt, FunctionAt, function_of, expr_at, args_at}
use Rattle.keys.specs.Keys.{all_keys}
use Rattle.expressions.specs.Slots.{visits_at, after_visit, slotted, ArgsTyped, Frame, Typed, type_in, callee_in, Beside}

-- what the code answers: a value, or a refusal
abbrev pub OrRefused : Type 0 → Type 0
OrRefused A = StdResult A ConvertError

-- a refusal
unfoldable pub refusal : {A : Type 0} → ConvertError → Result A
refusal e = err e.kind e.place

-- nothing, or a refusal
unfoldable pub outcome_of : OrRefused (Unit {0}) → Result (Unit {0})
unfolding refusal
outcome_of (Ok a) = ok tt
outcome_of (Err e) = refusal e

-- the same, where success stands for a
unfoldable pub done_with : {A : Type 0} → A → OrRefused (Unit {0}) → Result A
unfolding refusal
done_with a (Ok z) = ok a
done_with a (Err e) = refusal e

unfoldable pub type_result : OrRefused ℕ → Result ℕ
unfolding refusal
type_result (Ok y) = ok y
type_result (Err e) = refusal e

unfoldable pub cast_result : OrRefused (StdOption ℕ) → Result (Option ℕ)
unfolding refusal
cast_result (Ok None) = ok none
cast_result (Ok (Some y)) = ok (some y)
cast_result (Err e) = refusal e

unfoldable pub common_result : OrRefused (StdOption ℕ) → Result (Option ℕ)
unfolding refusal
common_result (Ok (Some y)) = ok (some y)
common_result (Ok None) = ok none
common_result (Err e) = refusal e

unfoldable pub found_number : StdOption ℕ → Option ℕ
found_number (Some y) = some y
found_number None = none

-- a type that was found is one
pub data TypeFound (tree : List ℕ) : StdOption ℕ → Type 0 where
  a_type : {y : ℕ} → TypeAt tree y → TypeFound tree (Some y)
  no_type : TypeFound tree None

-- the type in an answer is one
pub data IsTyped (tree : List ℕ) : OrRefused ℕ → Type 0 where
  is : {y : ℕ} → TypeAt tree y → IsTyped tree (Ok y)
  no : {e : ConvertError} → IsTyped tree (Err e)

pub data IsCast (tree : List ℕ) : OrRefused (StdOption ℕ) → Type 0 where
  to : {y : ℕ} → TypeAt tree y → IsCast tree (Ok (Some y))
  not_cast : IsCast tree (Ok None)
  no : {e : ConvertError} → IsCast tree (Err e)

pub data IsCommon (tree : List ℕ) : OrRefused (StdOption ℕ) → Type 0 where
  is : {y : ℕ} → TypeAt tree y → IsCommon tree (Ok (Some y))
  neither : IsCommon tree (Ok None)
  no : {e : ConvertError} → IsCommon tree (Err e)

module _ (tree text : List ℕ) where
  unfoldable pub callee_of : OrRefused Code.Callee → Result Callee
  unfolding function_of refusal
  callee_of (Ok (Code.Callee.Function f)) = ok (CallFunction (function_of tree text f))
  callee_of (Ok (Code.Callee.Cast y)) = ok (CallCast y)
  callee_of (Err e) = refusal e

  -- the type of the call of record r that runs this: 'NoValue' for a function without a return type
  unfoldable pub value_result : ℕ → OrRefused Code.Callee → Result ℕ
  unfolding ◌>>=◌ callee_of value_type return_type
  value_result r a = do
    c ← callee_of a
    value_type r (return_type c)

  -- the candidates are all of these
  unfoldable pub AreAll : Candidates → List Function → Type 0
  unfolding function_of
  AreAll Candidates.Nobody l = l ≡ []
  AreAll (Candidates.One f) l = l ≡ function_of tree text f ∷ []
  AreAll Candidates.Several [] = ⊥
  AreAll Candidates.Several (f ∷ []) = ⊥
  AreAll Candidates.Several (f ∷ g ∷ l) = Unit {0}

-- the only candidate is a function
pub data OneFunction (tree : List ℕ) : Candidates → Type 0 where
  nobody : OneFunction tree Candidates.Nobody
  one : {f : ℕ} → FunctionAt tree f → OneFunction tree (Candidates.One f)
  several : OneFunction tree Candidates.Several

pub data IsCallee (tree : List ℕ) : OrRefused Code.Callee → Type 0 where
  a_function : {f : ℕ} → FunctionAt tree f → IsCallee tree (Ok (Code.Callee.Function f))
  a_cast : {y : ℕ} → TypeAt tree y → IsCallee tree (Ok (Code.Callee.Cast y))
  no : {e : ConvertError} → IsCallee tree (Err e)

-- the record of what a call runs
unfoldable pub callee_record : OrRefused Code.Callee → ℕ
callee_record (Ok (Code.Callee.Function f)) = f
callee_record (Ok (Code.Callee.Cast y)) = y
callee_record (Err e) = 0

-- ---- an answer with what it stands for

-- the answer is this type; the same of one that is looked for
pub record TypeIs (tree : List ℕ) (a : OrRefused ℕ) (m : Result ℕ) : Type 0 where
  pub is : m ≡ type_result a
  pub type : IsTyped tree a

pub record FoundIs (tree : List ℕ) (r : StdOption ℕ) (o : Option ℕ) : Type 0 where
  pub is : found_number r ≡ o
  pub type : TypeFound tree r

-- the cast is this one
pub record CastIs (tree : List ℕ) (a : OrRefused (StdOption ℕ)) (m : Result (Option ℕ)) : Type 0 where
  pub is : m ≡ cast_result a
  pub type : IsCast tree a

-- the callee is this one
pub record CalleeIs (tree text : List ℕ) (a : OrRefused Code.Callee) (m : Result Callee) : Type 0 where
  pub is : m ≡ callee_of tree text a
  pub callee : IsCallee tree a

-- the candidates are these
pub record CandidatesAre (tree text : List ℕ) (a : Candidates) (l : List Function) : Type 0 where
  pub are : AreAll tree text a l
  pub function : OneFunction tree a

-- the argument at cell w, and what follows it
pub data ArgumentIs (tree text : List ℕ) (w : ℕ) : Argument → Type 0 where
  an_expr : {e : ℕ} (r : ℕ) → args_at tree text w ≡ Value r (expr_at tree text e) (args_at tree text (word_of tree w B))
      → IsExpr tree e → e < w → ArgumentIs tree text w (Argument.Expr e)
  a_type : {y : ℕ} (r : ℕ) → args_at tree text w ≡ ToType r y (args_at tree text (word_of tree w B))
      → TypeAt tree y → ArgumentIs tree text w (Argument.ToType y)

-- two expressions with their types
pub record Operands (tree : List ℕ) (s : Sides) : Type 0 where
  pub left : IsExpr tree s.left
  pub left_type : TypeAt tree s.left_type
  pub right : IsExpr tree s.right
  pub right_type : TypeAt tree s.right_type

-- ---- the definitions' functions at records and types of the tree

module _ (tree text : List ℕ) where
  abbrev pub unary_type_at : ℕ → ℕ → Result ℕ
  unary_type_at e y = unary_type (program tree text) (all_keys tree text) e (get_or unary_ops (detail_of tree e) Neg) y

  abbrev pub common_at : Sides → Option ℕ
  common_at s = Defined.common_of (program tree text) (all_keys tree text) (expr_at tree text s.left) s.left_type (expr_at tree text s.right) s.right_type

  abbrev pub binary_error_at : ℕ → Sides → Result ℕ
  binary_error_at e s =
      binary_error (program tree text) (all_keys tree text) e (expr_at tree text s.left) s.left_type (expr_at tree text s.right) s.right_type

  abbrev pub binary_type_at : ℕ → Sides → Result ℕ
  binary_type_at e s =
      binary_type (program tree text) (all_keys tree text) e (get_or binary_ops (detail_of tree e) Or)
      (expr_at tree text s.left) s.left_type (expr_at tree text s.right) s.right_type

  -- the operator's class of operands has this type or not
  abbrev pub Accepts : CodeClass.OperandClass → ℕ → Bool → Type 0
  Accepts class y r = (c : OperandClass) → class ≡ class_of c → r ≡ accepts_class (program tree text) (all_keys tree text) c y

-- ---- what typing owes, of the answer and of the scratch before and after, in the scope that the open names stand for. Where nothing is refused it says
-- which expressions were typed

-- the type of the expression at record e, worked out from its parts, before it is kept, and b beside it
pub record WorksOut (tree text s : List ℕ) (sc : Scope) (turn e : ℕ) (a : OrRefused ℕ) (b : ℕ) (s' : List ℕ) : Type 0 where
  pub frame : Frame tree s s'
  pub typed : IsTyped tree a
  pub meets : type_in tree text (scope_at tree text s sc) e ≡ type_result a
  pub adds : (y : ℕ) → a ≡ Ok y → Typed tree text (scope_at tree text s sc) turn s (parts_exprs (expr_at tree text e)) s'
  pub beside : (y : ℕ) → a ≡ Ok y → (b < 4294967296) × Beside tree text (scope_at tree text s sc) e b

-- what that came to can be kept, and is: a type by a visit, and a refusal leaves the scratch as it was
pub record Keepable (tree : List ℕ) (e : ℕ) (a : OrRefused ℕ) (b : ℕ) (s : List ℕ) : Type 0 where
  pub fits : (y : ℕ) → a ≡ Ok y
      → ((e < records tree) × (scratch_each * records tree ≤ length s) × (y < 4294967296) × (b < 4294967296)) × (visits_at tree s + 1 < 4294967296)

pub record Keeps (tree : List ℕ) (turn e : ℕ) (a : OrRefused ℕ) (b : ℕ) (s : List ℕ) (r : OrRefused ℕ) (s' : List ℕ) : Type 0 where
  pub same : r ≡ a
  pub type : (y : ℕ) → a ≡ Ok y → s' ≡ after_visit tree turn e y b s
  pub refused : (x : ConvertError) → a ≡ Err x → s' ≡ s

-- `get_type` of the expression at record e
pub record TypeMeets (tree text s : List ℕ) (sc : Scope) (turn e : ℕ) (a : OrRefused ℕ) (s' : List ℕ) : Type 0 where
  pub frame : Frame tree s s'
  pub typed : IsTyped tree a
  pub meets : type_in tree text (scope_at tree text s sc) e ≡ type_result a
  pub adds : (y : ℕ) → a ≡ Ok y → Typed tree text (scope_at tree text s sc) turn s (exprs (expr_at tree text e)) s'

-- `get_argument_types` of the arguments that word w opens: their types stand in the slots
pub record ArgsMeet (tree text s : List ℕ) (sc : Scope) (turn w : ℕ) (a : OrRefused (Unit {0})) (s' : List ℕ) : Type 0 where
  pub frame : Frame tree s s'
  pub typed : a ≡ Ok tt → ArgsTyped tree s' (args_at tree text w)
  pub meets : get_argument_types (program tree text) (all_keys tree text) (args_at tree text w) (scope_at tree text s sc)
      ≡ done_with (slotted tree s' (args_at tree text w)) a
  pub adds : a ≡ Ok tt → Typed tree text (scope_at tree text s sc) turn s (args_exprs (args_at tree text w)) s'

-- `resolve_call` of the call at record r
pub record CallMeets (tree text s : List ℕ) (sc : Scope) (turn r : ℕ) (a : OrRefused Code.Callee) (s' : List ℕ) : Type 0 where
  pub frame : Frame tree s s'
  pub callee : IsCallee tree a
  pub meets : callee_in tree text (scope_at tree text s sc) r ≡ callee_of tree text a
  pub adds : (c : Callee) → callee_of tree text a ≡ ok c → Typed tree text (scope_at tree text s sc) turn s (args_exprs (args_at tree text (word_of tree r C))) s'

-- `find_common` of the expressions at records l and r
pub record CommonMeets (tree text s : List ℕ) (sc : Scope) (turn l r : ℕ) (a : OrRefused (StdOption ℕ)) (s' : List ℕ) : Type 0 where
  pub frame : Frame tree s s'
  pub common : IsCommon tree a
  pub meets : common_type (program tree text) (all_keys tree text) (expr_at tree text l) (expr_at tree text r) (scope_at tree text s sc) ≡ common_result a
  pub adds : (o : Option ℕ) → common_result a ≡ ok o → Typed tree text (scope_at tree text s sc) turn s (exprs (expr_at tree text l) ++ exprs (expr_at tree text r)) s'

-- `common_type` of both sides of the Binary at record e
abbrev pub SidesMeet : List ℕ → List ℕ → List ℕ → Scope → ℕ → ℕ → OrRefused (StdOption ℕ) → List ℕ → Type 0
SidesMeet tree text s sc turn e a s' = CommonMeets tree text s sc turn (word_of tree e A) (word_of tree e B) a s'
