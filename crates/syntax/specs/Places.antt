-- What a record of a tree stands for, by its number: an expression, a statement, a function, and the lists that a word opens; and which
-- record is of which kind. Assumes nothing: these are definitions.
use Rattle.std.specs.Prelude.{◌≡◌, ◌⊎◌, ℕ, ◌+◌, ◌*◌, ◌≤◌, ◌<◌, true, false, List, [], length}
use Rattle.std.proofs.Math.Option.{none as nothing}
use Rattle.records.specs.declared.shape.Role.{Role}
use Rattle.records.specs.declared.shape.Role.TheVariants.{Arguments, Parameters, Body}
use Rattle.records.specs.Words.{record_bytes, kind_of, records, none}
use Rattle.records.specs.Kinds.{kind_type, kind_declare, kind_continue, kind_function}
use Rattle.records.specs.Rules.{is_expr, list_ok}
use Rattle.syntax.specs.Syntax.{Expr, Args, Statement, SBreak, Block, Param, Function}
use Rattle.syntax.specs.Decode.{Node, absent, expr, value, to_type, stmt, variable, func, cell, expr_of, args_of, block_of, params_of, node}

-- ---- records by kind

-- record r is one of the tree, and of kind k
pub record IsKind (tree : List ℕ) (k r : ℕ) : Type 0 where
  pub below : r < records tree
  pub kind : kind_of tree r ≡ k

-- record y is a type; record f is a function
abbrev pub TypeAt : List ℕ → ℕ → Type 0
TypeAt tree y = IsKind tree kind_type y

abbrev pub FunctionAt : List ℕ → ℕ → Type 0
FunctionAt tree f = IsKind tree kind_function f

-- record e is an expression of the tree
pub record IsExpr (tree : List ℕ) (e : ℕ) : Type 0 where
  pub inside : e * record_bytes + record_bytes ≤ length tree
  pub expression : is_expr (kind_of tree e) ≡ true

-- record r is a statement, from Declare to Continue
pub record IsStatement (tree : List ℕ) (r : ℕ) : Type 0 where
  pub below : r < records tree
  pub least : kind_declare ≤ kind_of tree r
  pub most : kind_of tree r ≤ kind_continue

-- word w opens a list with items of the role: none, or a cell below some record of the tree
pub record ListAt (tree : List ℕ) (role : Role) (w : ℕ) : Type 0 where
  pub from : ℕ
  pub inside : from ≤ records tree
  pub list : (w ≡ none) ⊎ (list_ok tree role from w ≡ true)

abbrev pub ArgsAt : List ℕ → ℕ → Type 0
ArgsAt tree w = ListAt tree Arguments w

abbrev pub ParamsAt : List ℕ → ℕ → Type 0
ParamsAt tree w = ListAt tree Parameters w

abbrev pub BodyAt : List ℕ → ℕ → Type 0
BodyAt tree w = ListAt tree Body w

-- ---- what a number stands for

-- a function without anything: what a record that is no function would stand for
abbrev pub no_function : Function
no_function = record { rec_of = 0; name = []; mangled_name = []; return_type = nothing; params = []; variadic = false; body = nothing; external = false }

unfoldable pub func_of : Node → Function
func_of (func f) = f
func_of absent = no_function
func_of (expr e) = no_function
func_of (value r e) = no_function
func_of (to_type r y) = no_function
func_of (stmt s) = no_function
func_of (variable r t y) = no_function
func_of (cell i l) = no_function

-- a record that is no statement would stand for this one
unfoldable pub statement_of : Node → Statement
statement_of (stmt s) = s
statement_of absent = SBreak 0
statement_of (expr e) = SBreak 0
statement_of (value r e) = SBreak 0
statement_of (to_type r y) = SBreak 0
statement_of (variable r t y) = SBreak 0
statement_of (func f) = SBreak 0
statement_of (cell i l) = SBreak 0

module _ (tree text : List ℕ) where
  unfoldable pub function_of : ℕ → Function
  unfolding node func_of
  function_of r = func_of (node tree text r)

  unfoldable pub expr_at : ℕ → Expr
  unfolding node expr_of
  expr_at r = expr_of (node tree text r)

  unfoldable pub statement_at : ℕ → Statement
  unfolding node statement_of
  statement_at r = statement_of (node tree text r)

  unfoldable pub args_at : ℕ → Args
  unfolding node args_of
  args_at w = args_of (node tree text w)

  unfoldable pub params_at : ℕ → List Param
  unfolding node params_of
  params_at w = params_of (node tree text w)

  unfoldable pub block_at : ℕ → Block
  unfolding node block_of
  block_at w = block_of (node tree text w)
