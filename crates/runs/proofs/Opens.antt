-- How often a record opens labels within a body, and what is asked of a tree: that each does so at most once.
-- Definitions for proofs, by recursion on the tree. Assumes nothing.
use mathlib.Core.Path.{◌≡◌}
use mathlib.Core.Option.{some}
use Prim.Native.Nat.{ℕ, ◌+◌, ◌≤◌}
use mathlib.Core.Bool.{Bool, true, false}
use lib.Dec.{eqb}
use lib.ListN.{get_elem?}
use Rattle.syntax.specs.Syntax.{BinaryOp, Or, And, BitOr, BitXor, BitAnd, Eq, NotEq, Lt, Le, Gt, Ge, Shl, Shr, Add, Sub, Mul, Div, Rem, Expr, EInt, EFloat, EStr, EBool, EName, ENull, ESizeOf, EUnary, EBinary, ECall, Args, no_args, Value, ToType, Statement, SDeclare, SInit, SReturn, SCall, SIf, SIfElse, SWhile, SFor, SBreak, SContinue, Block, done, next, Function, Program}

abbrev pub bit : Bool → ℕ
bit true = 1
bit false = 0

-- how often the record r is that of an And or an Or; of any node that opens labels
unfoldable pub logic_opens : BinaryOp → ℕ → ℕ → ℕ
logic_opens And r x = bit (eqb x r)
logic_opens Or r x = bit (eqb x r)
logic_opens BitOr r x = 0
logic_opens BitXor r x = 0
logic_opens BitAnd r x = 0
logic_opens Eq r x = 0
logic_opens NotEq r x = 0
logic_opens Lt r x = 0
logic_opens Le r x = 0
logic_opens Gt r x = 0
logic_opens Ge r x = 0
logic_opens Shl r x = 0
logic_opens Shr r x = 0
logic_opens Add r x = 0
logic_opens Sub r x = 0
logic_opens Mul r x = 0
logic_opens Div r x = 0
logic_opens Rem r x = 0

unfoldable mutual
  pub opens_e : Expr → ℕ → ℕ
  opens_e (EInt r v s u) x = 0
  opens_e (EFloat r b s) x = 0
  opens_e (EStr r o n t) x = 0
  opens_e (EBool r b) x = 0
  opens_e (EName r t) x = 0
  opens_e (ENull r) x = 0
  opens_e (ESizeOf r y) x = 0
  opens_e (EUnary r o a) x = opens_e a x
  opens_e (EBinary r o a b) x = logic_opens o r x + (opens_e a x + opens_e b x)
  opens_e (ECall r v l) x = opens_a l x

  pub opens_a : Args → ℕ → ℕ
  opens_a no_args x = 0
  opens_a (Value r e l) x = opens_e e x + opens_a l x
  opens_a (ToType r y l) x = opens_a l x

unfoldable mutual
  pub opens_s : Statement → ℕ → ℕ
  opens_s (SDeclare r n y) x = 0
  opens_s (SInit r c n e) x = opens_e e x
  opens_s (SReturn r e) x = opens_e e x
  opens_s (SCall r e) x = opens_e e x
  opens_s (SIf r e a) x = bit (eqb x r) + (opens_e e x + opens_b a x)
  opens_s (SIfElse r e a b) x = bit (eqb x r) + (opens_e e x + (opens_b a x + opens_b b x))
  opens_s (SWhile r e a) x = bit (eqb x r) + (opens_e e x + opens_b a x)
  opens_s (SFor r n y from until a) x = bit (eqb x r) + (opens_e from x + (opens_e until x + opens_b a x))
  opens_s (SBreak r) x = 0
  opens_s (SContinue r) x = 0

  pub opens_b : Block → ℕ → ℕ
  opens_b done x = 0
  opens_b (next t b) x = opens_s t x + opens_b b x

-- The one fact about the tree that the theorem asks for: in a function's body no two nodes that open labels have one record. It holds of a
-- judged tree since there 'each record but types and functions is referred to exactly once', so that a body's node is met once
pub record WellFormed (P : Program) : Type 0 where
  pub once : (i : ℕ) (f : Function) (b : Block) → get_elem? P.functions i ≡ some f → f.body ≡ some b → (x : ℕ) → opens_b b x ≤ 1
