-- How many records a part of the syntax tree is made of, by document 01's table of kinds; types are not counted, which many may refer to.
-- Assumes nothing: these are definitions.
use Rattle.std.specs.Prelude.{ℕ, suc, ◌+◌, ◌*◌, List, [], ◌∷◌, length}
use Rattle.std.proofs.Math.Option.{Option, none, some}
use Rattle.syntax.specs.Syntax.{Expr, EInt, EFloat, EStr, EBool, EName, ENull, ESizeOf, EUnary, EBinary, ECall, Args, no_args, Value, ToType, Statement, SDeclare, SInit, SReturn, SCall, SIf, SIfElse, SWhile, SFor, SBreak, SContinue, Block, done, next, Function}

-- an expression's records below its own; an argument is a list cell, a kind 13 or 14, and what that holds
unfoldable mutual
  pub under : Expr → ℕ
  under (EInt r v s u) = 0
  under (EFloat r b s) = 0
  under (EStr r o n t) = 0
  under (EBool r b) = 0
  under (EName r t) = 0
  under (ENull r) = 0
  under (ESizeOf r y) = 0
  under (EUnary r o a) = 1 + under a
  under (EBinary r o a b) = 2 + (under a + under b)
  under (ECall r v l) = args_records l

  pub args_records : Args → ℕ
  args_records no_args = 0
  args_records (Value r e l) = 3 + (under e + args_records l)
  args_records (ToType r y l) = 2 + args_records l

unfoldable pub expr_records : Expr → ℕ
unfolding under
expr_records e = 1 + under e

-- the records below their own of a call's values, and how many values there are
unfoldable pub args_under : Args → ℕ
unfolding under
args_under no_args = 0
args_under (Value r e l) = under e + args_under l
args_under (ToType r y l) = args_under l

unfoldable pub args_values : Args → ℕ
args_values no_args = 0
args_values (Value r e l) = suc (args_values l)
args_values (ToType r y l) = args_values l

-- a statement in a block is its own records and a list cell; a For has its variable's record
unfoldable mutual
  unfolding expr_records

  pub statement_records : Statement → ℕ
  statement_records (SDeclare r n y) = 1
  statement_records (SInit r c n e) = 1 + expr_records e
  statement_records (SReturn r e) = 1 + expr_records e
  statement_records (SCall r e) = 1 + expr_records e
  statement_records (SIf r e a) = 1 + (expr_records e + block_records a)
  statement_records (SIfElse r e a b) = 1 + (expr_records e + (block_records a + block_records b))
  statement_records (SWhile r e a) = 1 + (expr_records e + block_records a)
  statement_records (SFor r n y a b c) = 2 + (expr_records a + (expr_records b + block_records c))
  statement_records (SBreak r) = 1
  statement_records (SContinue r) = 1

  pub block_records : Block → ℕ
  block_records done = 0
  block_records (next t b) = 1 + (statement_records t + block_records b)

unfoldable pub body_records : Option Block → ℕ
unfolding block_records
body_records none = 0
body_records (some b) = block_records b

-- a function is its own record and two names, a kind 24 and a list cell for each parameter, and its body
unfoldable pub function_records : Function → ℕ
unfolding body_records
function_records f = 3 + (2 * length f.params + body_records f.body)

unfoldable pub all_records : List Function → ℕ
unfolding function_records
all_records [] = 0
all_records (f ∷ l) = function_records f + all_records l
