-- Document 02, point 9: 'Count a visit each time that an expression record's type is worked out'. Which records the Rust works out the type of, for
-- a tree that converts: a list for each definition of Expressions.antt and Statements.antt, line by line, a record as often as it is typed there; and
-- how many different ones they are. (statements.rs types a Str or SizeOf once more where it converts it, which cannot fail and which the definitions leave
-- out; its statement has typed it by then, so that it is among the different ones all the same.) Assumes nothing: these are definitions.
use Rattle.std.specs.Prelude.{ℕ, ◌+◌, List, [], ◌∷◌, ◌++◌}
use Rattle.std.proofs.Math.Option.{Option, none, some}
use Rattle.laws.specs.Different.{different}
use Rattle.syntax.specs.Syntax.{Expr, EInt, EFloat, EStr, EBool, EName, ENull, ESizeOf, EUnary, EBinary, ECall, Args, no_args, Value, ToType, Statement, SDeclare, SInit, SReturn, SCall, SIf, SIfElse, SWhile, SFor, SBreak, SContinue, Block, done, next, Function}
use Rattle.syntax.specs.Exprs.{exprs, args_exprs}
use Rattle.conversion.specs.Statements.{as_call}

-- ---- the records that the Rust types

-- `get_type` of an expression types all of its records (`exprs`), `get_argument_types` and `resolve_call` all of the arguments' (`args_exprs`), `common_type`
-- all of both sides

unfoldable mutual
  unfolding exprs

  -- `convert_expr`: a leaf is not typed (again), the others are, before they are converted
  pub typed_expr : Expr → List ℕ
  typed_expr (EInt r v s u) = []
  typed_expr (EFloat r b s) = []
  typed_expr (EStr r o n t) = []
  typed_expr (EBool r b) = []
  typed_expr (EName r t) = []
  typed_expr (ENull r) = []
  typed_expr (ESizeOf r y) = []
  typed_expr (EUnary r o a) = exprs (EUnary r o a) ++ typed_expr a
  typed_expr (EBinary r o a b) = exprs (EBinary r o a b) ++ ((exprs a ++ exprs b) ++ (typed_expr a ++ typed_expr b))
  typed_expr (ECall r verb l) = exprs (ECall r verb l) ++ (args_exprs l ++ typed_args l)

  -- `convert_args`
  pub typed_args : Args → List ℕ
  typed_args no_args = []
  typed_args (Value r e l) = typed_expr e ++ typed_args l
  typed_args (ToType r y l) = typed_args l

-- an expression that is typed and converted: `init_new`, `convert_return`, `convert_cond`; `assign_to` does the one after the other
unfoldable pub typed_value : Expr → List ℕ
unfolding exprs typed_expr
typed_value e = exprs e ++ typed_expr e

-- a statement without its blocks. A call statement's call is only resolved; 'A call statement whose expression is no call is typed and never run'; both
-- bounds of a For are typed before they are converted
unfoldable pub typed_own : Statement → List ℕ
unfolding exprs typed_expr typed_value as_call
typed_own (SDeclare r n y) = []
typed_own (SInit r c n e) = typed_value e
typed_own (SReturn r e) = typed_value e
typed_own (SCall r e) = as_call e (exprs e) (λ c verb l. args_exprs l ++ typed_args l)
typed_own (SIf r e a) = typed_value e
typed_own (SIfElse r e a b) = typed_value e
typed_own (SWhile r e a) = typed_value e
typed_own (SFor r n y a b c) = (exprs a ++ exprs b) ++ (typed_expr a ++ typed_expr b)
typed_own (SBreak r) = []
typed_own (SContinue r) = []

-- with its blocks: `convert_statement` and `convert_block`
unfoldable mutual
  unfolding typed_own

  pub typed_statement : Statement → List ℕ
  typed_statement (SDeclare r n y) = typed_own (SDeclare r n y)
  typed_statement (SInit r c n e) = typed_own (SInit r c n e)
  typed_statement (SReturn r e) = typed_own (SReturn r e)
  typed_statement (SCall r e) = typed_own (SCall r e)
  typed_statement (SIf r e a) = typed_own (SIf r e a) ++ typed_block a
  typed_statement (SIfElse r e a b) = typed_own (SIfElse r e a b) ++ (typed_block a ++ typed_block b)
  typed_statement (SWhile r e a) = typed_own (SWhile r e a) ++ typed_block a
  typed_statement (SFor r n y a b c) = typed_own (SFor r n y a b c) ++ typed_block c
  typed_statement (SBreak r) = typed_own (SBreak r)
  typed_statement (SContinue r) = typed_own (SContinue r)

  pub typed_block : Block → List ℕ
  typed_block done = []
  typed_block (next t b) = typed_statement t ++ typed_block b

unfoldable pub typed_body : Option Block → List ℕ
unfolding typed_block
typed_body none = []
typed_body (some b) = typed_block b

-- `convert_all`: the bodies of all functions
unfoldable pub typed_all : List Function → List ℕ
unfolding typed_body
typed_all [] = []
typed_all (f ∷ l) = typed_body f.body ++ typed_all l

-- 'their total, a seventh count in the answer, .. is the number of those that the Rust, as amended, types at least once', in a tree of n records
unfoldable pub visits : ℕ → List Function → ℕ
unfolding different typed_all
visits n l = different n (typed_all l)

-- ---- visits as they are made

-- the records of a statement, each once, and then those of its blocks: what is typed in one statement is not typed again there
unfoldable mutual
  unfolding different typed_own

  pub statement_visits : ℕ → Statement → ℕ
  statement_visits n (SDeclare r m y) = different n (typed_own (SDeclare r m y))
  statement_visits n (SInit r c m e) = different n (typed_own (SInit r c m e))
  statement_visits n (SReturn r e) = different n (typed_own (SReturn r e))
  statement_visits n (SCall r e) = different n (typed_own (SCall r e))
  statement_visits n (SIf r e a) = different n (typed_own (SIf r e a)) + block_visits n a
  statement_visits n (SIfElse r e a b) = different n (typed_own (SIfElse r e a b)) + (block_visits n a + block_visits n b)
  statement_visits n (SWhile r e a) = different n (typed_own (SWhile r e a)) + block_visits n a
  statement_visits n (SFor r m y a b c) = different n (typed_own (SFor r m y a b c)) + block_visits n c
  statement_visits n (SBreak r) = different n (typed_own (SBreak r))
  statement_visits n (SContinue r) = different n (typed_own (SContinue r))

  pub block_visits : ℕ → Block → ℕ
  block_visits n done = 0
  block_visits n (next t b) = statement_visits n t + block_visits n b

unfoldable pub body_visits : ℕ → Option Block → ℕ
unfolding block_visits
body_visits n none = 0
body_visits n (some b) = block_visits n b

unfoldable pub functions_visits : ℕ → List Function → ℕ
unfolding body_visits
functions_visits n [] = 0
functions_visits n (f ∷ l) = body_visits n f.body + functions_visits n l
