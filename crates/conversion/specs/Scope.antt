-- scope.rs: the names that are known at a place. The Rust has a scope for each block, with a reference to the one around it; here a scope is the
-- list of all known names, innermost first, and a block's end drops what it declared because what follows goes on with the scope from
-- before. 'Names are never shadowed.' Assumes nothing: these are definitions.
use Rattle.std.specs.Prelude.{ℕ, Bool, true, false, List, [], ◌∷◌}
use Rattle.std.proofs.Math.Option.{Option, none, some}
use Rattle.syntax.specs.Syntax.{Text, Function}
use Rattle.conversion.specs.ConvertError.{Result, ok, err, AlreadyDeclared}
use Rattle.conversion.specs.Ir.{VarId, same_text}

-- `Variable`, with its name; its type is its var_id's
pub record Variable : Type 0 where
  pub name : Text
  pub constant : Bool
  pub var_id : VarId

-- `Scope`: the names, the record of the innermost loop, the function
pub record Scope : Type 0 where
  pub variables : List Variable
  pub in_loop : Option ℕ
  pub function : Function

unfoldable pub find_in : Text → List Variable → Option Variable
unfolding same_text
find_in n [] = none
find_in n (v ∷ l) = elim (same_text n v.name) [ true ↦ some v | false ↦ find_in n l ]

-- `find_variable`
unfoldable pub find_variable : Text → Scope → Option Variable
unfolding find_in
find_variable n sc = find_in n sc.variables

-- the scope with one name more
unfoldable pub with_variable : Variable → Scope → Scope
with_variable v sc = record { variables = v ∷ sc.variables; in_loop = sc.in_loop; function = sc.function }

-- inside the loop of record r: `BlockKind::Loop`
unfoldable pub with_loop : ℕ → Scope → Scope
with_loop r sc = record { variables = sc.variables; in_loop = some r; function = sc.function }

unfoldable pub declare_new : Option Variable → Variable → ℕ → Scope → Result Scope
unfolding with_variable
declare_new (some w) v r sc = err AlreadyDeclared r
declare_new none v r sc = ok (with_variable v sc)

-- `declare`: 'hands the scope on with one name more'
unfoldable pub declare : Variable → ℕ → Scope → Result Scope
unfolding declare_new find_variable
declare v r sc = declare_new (find_variable v.name sc) v r sc
