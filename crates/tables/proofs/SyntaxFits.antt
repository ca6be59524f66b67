-- A syntax tree whose numbers fit their fields: record and type numbers are words, literals have 64 bits, strings are the bytes that they
-- refer to. By recursion over the tree; these are the premises that a tree of records meets. Assumes nothing.
use mathlib.Core.Path.{◌≡◌}
use Prim.Native.Nat.{ℕ, ◌<◌, ◌^◌}
use mathlib.Core.Option.{Option, none as nothing, some}
use mir.Syntax.{w64}
use mir.Val.{SFits}
use Rattle.laws.specs.All.{All}
use Rattle.records.specs.Words.{text_at}
use Rattle.syntax.specs.Syntax.{Text, Expr, EInt, EFloat, EStr, EBool, EName, ENull, ESizeOf, EUnary, EBinary, ECall, Args, no_args, Value, ToType, Statement, SDeclare, SInit, SReturn, SCall, SIf, SIfElse, SWhile, SFor, SBreak, SContinue, Block, done, next, Function, Program}
use Rattle.conversion.specs.ConvertError.{ConvertErrorKind, Result, ok, err}
use Rattle.conversion.specs.Expressions.{Functions, Callee, CallFunction, CallCast}
use Rattle.conversion.proofs.Called.{OfMap}
use Rattle.tables.proofs.Exists.{Word}

-- Q holds of what a result holds, of what an option holds
pub data OkIs {A : Type 0} (Q : A → Type 0) : Result A → Type 0 where
  ok_is : {a : A} → Q a → OkIs Q (ok a)
  err_is : {k : ConvertErrorKind} {r : ℕ} → OkIs Q (err k r)

pub data OptIs {A : Type 0} (Q : A → Type 0) : Option A → Type 0 where
  none_is : OptIs Q nothing
  some_is : {a : A} → Q a → OptIs Q (some a)

pub held : {A : Type 0} {Q : A → Type 0} {a : A} → OptIs Q (some a) → Q a
held (some_is h) = h

module _ (text : Text) where
  abbrev mutual
    pub ExprFits : Expr → Type 0
    ExprFits (EInt r v s u) = SFits w64 v
    ExprFits (EFloat r b s) = b < 2 ^ 64
    ExprFits (EStr r o n t) = Word o × Word n × (text_at text o n ≡ t)
    ExprFits (EBool r b) = Unit {0}
    ExprFits (EName r t) = Unit {0}
    ExprFits (ENull r) = Unit {0}
    ExprFits (ESizeOf r y) = Unit {0}
    ExprFits (EUnary r o a) = ExprFits a
    ExprFits (EBinary r o a b) = Word r × ExprFits a × ExprFits b
    ExprFits (ECall r v l) = ArgsFit l

    pub ArgsFit : Args → Type 0
    ArgsFit no_args = Unit {0}
    ArgsFit (Value r e l) = ExprFits e × ArgsFit l
    ArgsFit (ToType r y l) = Word y × ArgsFit l

  abbrev mutual
    pub StatementFits : Statement → Type 0
    StatementFits (SDeclare r n y) = Word r × Word y
    StatementFits (SInit r c n e) = Word r × ExprFits e
    StatementFits (SReturn r e) = Word r × ExprFits e
    StatementFits (SCall r e) = Word r × ExprFits e
    StatementFits (SIf r e a) = Word r × ExprFits e × BlockFits a
    StatementFits (SIfElse r e a b) = Word r × ExprFits e × BlockFits a × BlockFits b
    StatementFits (SWhile r e a) = Word r × ExprFits e × BlockFits a
    StatementFits (SFor r n y a b c) = Word r × OptIs Word y × ExprFits a × ExprFits b × BlockFits c
    StatementFits (SBreak r) = Word r
    StatementFits (SContinue r) = Word r

    pub BlockFits : Block → Type 0
    BlockFits done = Unit {0}
    BlockFits (next s b) = StatementFits s × BlockFits b

  -- what a call needs of its function
  pub record SignatureFits (f : Function) : Type 0 where
    pub rec_of : Word f.rec_of
    pub return_type : OptIs Word f.return_type
    pub params : All (λ p. Word p.ty) f.params

  abbrev pub CalleeFits : Callee → Type 0
  CalleeFits (CallFunction f) = SignatureFits f
  CalleeFits (CallCast y) = Word y

  -- the functions by key
  abbrev pub KeyedFit : Functions → Type 0
  KeyedFit F = OfMap SignatureFits Word F

  pub record FunctionFitsIn (f : Function) : Type 0 where
    pub signature : SignatureFits f
    pub body : OptIs BlockFits f.body

  abbrev pub TreeFits : Program → Type 0
  TreeFits P = All FunctionFitsIn P.functions
