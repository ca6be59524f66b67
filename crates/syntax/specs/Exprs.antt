-- The expression records of a part of the syntax tree, kinds 2 to 11, in order; a function's two names are no expressions. Assumes nothing: these are
-- definitions.
use Rattle.std.specs.Prelude.{ℕ, List, [], ◌∷◌, ◌++◌}
use Rattle.std.proofs.Math.Option.{Option, none, some}
use Rattle.laws.specs.Different.{different}
use Rattle.syntax.specs.Syntax.{Expr, EInt, EFloat, EStr, EBool, EName, ENull, ESizeOf, EUnary, EBinary, ECall, Args, no_args, Value, ToType, Statement, SDeclare, SInit, SReturn, SCall, SIf, SIfElse, SWhile, SFor, SBreak, SContinue, Block, done, next, Function}

unfoldable mutual
  -- of an expression: its own and those of its parts, all of which `get_type` types. A type argument and SizeOf's type are no expressions
  pub exprs : Expr → List ℕ
  exprs (EInt r v s u) = r ∷ []
  exprs (EFloat r b s) = r ∷ []
  exprs (EStr r o n t) = r ∷ []
  exprs (EBool r b) = r ∷ []
  exprs (EName r t) = r ∷ []
  exprs (ENull r) = r ∷ []
  exprs (ESizeOf r y) = r ∷ []
  exprs (EUnary r o a) = r ∷ exprs a
  exprs (EBinary r o a b) = r ∷ (exprs a ++ exprs b)
  exprs (ECall r verb l) = r ∷ args_exprs l

  -- of a call's arguments, all of which `get_argument_types` types
  pub args_exprs : Args → List ℕ
  args_exprs no_args = []
  args_exprs (Value r e l) = exprs e ++ args_exprs l
  args_exprs (ToType r y l) = args_exprs l

-- of an expression's parts alone
unfoldable pub parts_exprs : Expr → List ℕ
unfolding exprs args_exprs
parts_exprs (EInt r v s u) = []
parts_exprs (EFloat r b s) = []
parts_exprs (EStr r o n t) = []
parts_exprs (EBool r b) = []
parts_exprs (EName r t) = []
parts_exprs (ENull r) = []
parts_exprs (ESizeOf r y) = []
parts_exprs (EUnary r o a) = exprs a
parts_exprs (EBinary r o a b) = exprs a ++ exprs b
parts_exprs (ECall r verb l) = args_exprs l

-- of a statement, those of its blocks with them
unfoldable mutual
  unfolding exprs

  pub statement_exprs : Statement → List ℕ
  statement_exprs (SDeclare r n y) = []
  statement_exprs (SInit r c n e) = exprs e
  statement_exprs (SReturn r e) = exprs e
  statement_exprs (SCall r e) = exprs e
  statement_exprs (SIf r e a) = exprs e ++ block_exprs a
  statement_exprs (SIfElse r e a b) = exprs e ++ (block_exprs a ++ block_exprs b)
  statement_exprs (SWhile r e a) = exprs e ++ block_exprs a
  statement_exprs (SFor r n y a b c) = exprs a ++ (exprs b ++ block_exprs c)
  statement_exprs (SBreak r) = []
  statement_exprs (SContinue r) = []

  pub block_exprs : Block → List ℕ
  block_exprs done = []
  block_exprs (next t b) = statement_exprs t ++ block_exprs b

unfoldable pub body_exprs : Option Block → List ℕ
unfolding block_exprs
body_exprs none = []
body_exprs (some b) = block_exprs b

-- 'a function whose tree holds e such records': e, of a tree of n records
unfoldable pub expression_records : ℕ → Function → ℕ
unfolding different body_exprs
expression_records n f = different n (body_exprs f.body)

-- of all functions
unfoldable pub all_exprs : List Function → List ℕ
unfolding body_exprs
all_exprs [] = []
all_exprs (f ∷ l) = body_exprs f.body ++ all_exprs l
