-- functions.rs: the functions by key, `main`, and a function's body. Assumes nothing: these are definitions.
use Rattle.std.specs.Prelude.{ℕ, Bool, true, false, not, ◌&&◌, ◌||◌, List, [], ◌∷◌, ◌++◌, ltb}
use Rattle.std.proofs.Math.Option.{Option, none as nothing, some}
use Rattle.laws.specs.Fix.{pick}
use Rattle.records.specs.Words.{none}
use Rattle.syntax.specs.Syntax.{Text, Ty, Statement, SDeclare, SInit, SReturn, SCall, SIf, SIfElse, SWhile, SFor, SBreak, SContinue, Block, done, next, Param, Function, Program}
use Rattle.conversion.specs.ConvertError as C
use Rattle.conversion.specs.ConvertError.{Result, ok, err, SameSignature, SameSymbol, AlreadyDeclared, MissingReturn, NoMain, MainNotInteger, LatinCharInNonLibCFunction, ExternNotLatin}
use Rattle.conversion.specs.Ir.{StringEntry, FloatEntry, Out, made, failed, M, ◌>>=◌, pure, fail, new_var, same_text, IrFunction}
use Rattle.conversion.specs.Types.{is_int, is_some}
use Rattle.conversion.specs.Scope.{Scope, find_variable, with_variable}
use Rattle.conversion.specs.Expressions.{Functions, get_function, main_name}
use Rattle.conversion.specs.Statements.{convert_block}

-- `is_ascii`
unfoldable pub is_ascii : Text → Bool
is_ascii [] = true
is_ascii (b ∷ t) = ltb b 128 && is_ascii t

-- `contains_key`
unfoldable pub contains_key : Text → Functions → Bool
unfolding is_some get_function
contains_key k F = is_some (get_function k F)

-- one turn of `get_all_functions`
unfoldable pub add_function : Function → Functions → Result Functions
unfolding pick same_text is_ascii contains_key
add_function f F = pick (f.external || same_text f.name main_name)
    (pick (not (is_ascii f.name)) (err ExternNotLatin f.rec_of)
    (pick (contains_key f.name F) (err SameSymbol f.rec_of) (ok (F ++ ((f.name, f) ∷ [])))))
    (pick (is_ascii f.name) (err LatinCharInNonLibCFunction f.rec_of)
    (pick (contains_key f.mangled_name F) (err SameSignature f.rec_of) (ok (F ++ ((f.mangled_name, f) ∷ [])))))

-- `get_all_functions`
unfoldable pub get_all_functions : List Function → Functions → Result Functions
unfolding C.◌>>=◌ add_function
get_all_functions [] F = ok F
get_all_functions (f ∷ l) F = C.◌>>=◌ (add_function f F) (λ G. get_all_functions l G)

unfoldable pub find_main : List Function → Option Function
unfolding same_text
find_main [] = nothing
find_main (f ∷ l) = elim (same_text f.name main_name) [ true ↦ some f | false ↦ find_main l ]

unfoldable pub returns_int : (ℕ → Ty) → Option ℕ → Bool
unfolding is_int
returns_int type_of nothing = false
returns_int type_of (some y) = is_int (type_of y)

unfoldable pub main_checked : (ℕ → Ty) → Bool → Option Function → Result (Unit {0})
unfolding pick returns_int
main_checked type_of needsMain nothing = pick needsMain (err NoMain none) (ok tt)
main_checked type_of needsMain (some f) = pick (returns_int type_of f.return_type) (ok tt) (err MainNotInteger f.rec_of)

-- `check_main`
unfoldable pub check_main : Program → Bool → Result (Unit {0})
unfolding main_checked find_main
check_main P needsMain = main_checked P.type_of needsMain (find_main P.functions)

-- `always_returns`: 'a loop may run zero times, so only a 만약 whose two branches return counts'
unfoldable mutual
  pub statement_returns : Statement → Bool
  statement_returns (SReturn r e) = true
  statement_returns (SIfElse r e a b) = always_returns a && always_returns b
  statement_returns (SDeclare r n y) = false
  statement_returns (SInit r c n e) = false
  statement_returns (SCall r e) = false
  statement_returns (SIf r e a) = false
  statement_returns (SWhile r e a) = false
  statement_returns (SFor r n y a b c) = false
  statement_returns (SBreak r) = false
  statement_returns (SContinue r) = false

  pub always_returns : Block → Bool
  always_returns done = false
  always_returns (next t b) = statement_returns t || always_returns b

-- the parameters: 'parameters come first'
unfoldable pub declare_params : List Param → Scope → M Scope
unfolding ◌>>=◌ pick pure fail new_var is_some find_variable with_variable
declare_params [] sc = pure sc
declare_params (p ∷ l) sc =
    pick (is_some (find_variable p.name sc)) (fail AlreadyDeclared p.rec_of)
    (new_var p.ty >>= λ x. declare_params l (with_variable (record { name = p.name; constant = false; var_id = x }) sc))

-- a function's parameters and body, then 'MissingReturn follows the body's own errors'
unfoldable pub convert_body : Program → Functions → Function → Block → M (Unit {0})
unfolding ◌>>=◌ pick pure fail declare_params convert_block is_some always_returns
convert_body P F f b = do
  sc ← declare_params f.params (record { variables = []; in_loop = nothing; function = f })
  _ ← convert_block P F b sc
  pick (is_some f.return_type && not (always_returns b)) (fail MissingReturn f.rec_of) (pure tt)

-- strings and floats of the functions before
pub record Pool : Type 0 where
  pub strings : List StringEntry
  pub floats : List FloatEntry

unfoldable pub finished : Function → Out (Unit {0}) → Result (IrFunction × Pool)
finished f (made u c s) =
    ok (record { func = f.rec_of; body = some c; vars = s.vars; labels = s.labels }, record { strings = s.strings; floats = s.floats })
finished f (failed k r) = err k r

unfoldable pub convert_function : Program → Functions → Function → Option Block → Pool → Result (IrFunction × Pool)
unfolding convert_body finished
convert_function P F f nothing p = ok (record { func = f.rec_of; body = nothing; vars = []; labels = [] }, p)
convert_function P F f (some b) p =
    finished f (convert_body P F f b (record { vars = []; labels = []; strings = p.strings; floats = p.floats }))

-- `convert_func`
unfoldable pub convert_func : Program → Functions → Function → Pool → Result (IrFunction × Pool)
unfolding convert_function
convert_func P F f p = convert_function P F f f.body p
