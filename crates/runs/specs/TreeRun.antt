-- The run on the syntax tree: 'The tree run is defined on the tree, without labels, jumps or the body.' Sentences in quotes are document 01's.
-- Types and callees come from the definitions of typing. Where typing refuses, the run stops: no tree that converts comes there.
-- A number bounds the turns of each entry of a loop; out of turns a run is unfinished. Assumes nothing: these are definitions.
use Rattle.std.specs.Prelude.{ℕ, zero, suc, Bool, true, false, not, ◌&&◌, List, [], ◌∷◌, ◌++◌, eqb, pos}
use Rattle.std.proofs.Math.Option.{Option, none, some}
use Rattle.laws.specs.Fix.{pick}
use Rattle.syntax.specs.Syntax.{Text, Ty, TInt, TFloat, TBool, TChar, TByte, TAddress, TArray, TCustom, TNull, BinaryOp, Or, And, BitOr, BitXor, BitAnd, Eq, NotEq, Lt, Le, Gt, Ge, Shl, Shr, Add, Sub, Mul, Div, Rem, Expr, EInt, EFloat, EStr, EBool, EName, ENull, ESizeOf, EUnary, EBinary, ECall, Args, no_args, Value, ToType, Statement, SDeclare, SInit, SReturn, SCall, SIf, SIfElse, SWhile, SFor, SBreak, SContinue, Block, done, next, Param, Function, Program, bool_type, null_type, address_of_null}
use Rattle.conversion.specs.ConvertError.{Result, ok, err}
use Rattle.conversion.specs.Ir.{same_text}
use Rattle.conversion.specs.Types.{on_int, on_float, is_float, size}
use Rattle.conversion.specs.Scope.{Variable, Scope}
use Rattle.conversion.specs.Expressions.{Callee, CallFunction, CallCast, Functions, unwrap_or, get_type, resolve_call, common_type}
use Rattle.conversion.specs.Statements.{expected_type, as_call}
use Rattle.runs.specs.Rule.{ValueOrStop, gives, halt, Truth, holds, fails, halts, CallsMade, Rule, Reply, comes, pending, Answers, Literal, IntLiteral, FloatLiteral, BoolLiteral, StringLiteral, NullLiteral, NullContent, Datum, constant, computed, read, read_all}

-- a name that is known, with its type
pub record KnownName : Type 0 where
  pub name : Text
  pub ty : ℕ

-- the values that names have. 'Names are never shadowed': a name stands for one variable at a time
abbrev pub Values : Type 0 → Type 0
Values W = Text → W

unfoldable pub set : {W : Type 0} → Values W → Text → W → Values W
set σ n v m = pick (same_text m n) v (σ m)

unfoldable pub known_type : Text → List KnownName → Option ℕ
known_type n [] = none
known_type n (k ∷ l) = elim (same_text n k.name) [ true ↦ some k.ty | false ↦ known_type n l ]

-- the known names as the definitions of typing take them; numbers of variables are no part of typing
unfoldable pub known_variables : List KnownName → List Variable
known_variables [] = []
known_variables (k ∷ l) = record { name = k.name; constant = false; var_id = record { id = 0; ty = k.ty } } ∷ known_variables l

unfoldable pub scope_of : Function → List KnownName → Scope
scope_of f l = record { variables = known_variables l; in_loop = none; function = f }

-- ---- what a part of the run comes to, each with the calls so far

-- an expression: what it gives, or a stop, or a reply that is pending
pub data Got (W A : Type 0) : Type 0 where
  value : A → CallsMade W → Got W A
  stop : CallsMade W → Got W A
  wait : CallsMade W → Got W A

-- a statement
pub data Ran (W : Type 0) : Type 0 where
  normal : Values W → CallsMade W → Ran W
  broke : Values W → CallsMade W → Ran W
  continued : Values W → CallsMade W → Ran W
  returned : W → CallsMade W → Ran W
  stopped : CallsMade W → Ran W
  -- held up by a reply that is pending
  held : CallsMade W → Ran W
  -- out of turns
  unfinished : CallsMade W → Ran W

unfoldable pub bind_g : {W A B : Type 0} → Got W A → (A → CallsMade W → Got W B) → Got W B
bind_g (value a h) f = f a h
bind_g (stop h) f = stop h
bind_g (wait h) f = wait h

unfoldable pub bind_o : {W A : Type 0} → Got W A → (A → CallsMade W → Ran W) → Ran W
bind_o (value a h) f = f a h
bind_o (stop h) f = stopped h
bind_o (wait h) f = held h

-- one statement, then the next
unfoldable pub bind_s : {W : Type 0} → Ran W → (Values W → CallsMade W → Ran W) → Ran W
bind_s (normal σ h) f = f σ h
bind_s (broke σ h) f = broke σ h
bind_s (continued σ h) f = continued σ h
bind_s (returned v h) f = returned v h
bind_s (stopped h) f = stopped h
bind_s (held h) f = held h
bind_s (unfinished h) f = unfinished h

-- the body of a loop, then the next turn; a break leaves the loop
unfoldable pub bind_t : {W : Type 0} → Ran W → (Values W → CallsMade W → Ran W) → Ran W
bind_t (normal σ h) f = f σ h
bind_t (broke σ h) f = normal σ h
bind_t (continued σ h) f = f σ h
bind_t (returned v h) f = returned v h
bind_t (stopped h) f = stopped h
bind_t (held h) f = held h
bind_t (unfinished h) f = unfinished h

-- what the rule answers, of the type y; and the same as a bare value
unfoldable pub answered : {W : Type 0} → ℕ → ValueOrStop W → CallsMade W → Got W (Datum W)
answered y (gives v) h = value (computed y v) h
answered y halt h = stop h

unfoldable pub bare : {W : Type 0} → ValueOrStop W → CallsMade W → Got W W
bare (gives v) h = value v h
bare halt h = stop h

-- the same of a reply
unfoldable pub replied : {W : Type 0} → ℕ → Reply W → CallsMade W → Got W (Datum W)
replied y (comes u) h = answered y u h
replied y pending h = wait h

unfoldable pub handed : {W : Type 0} → Reply W → CallsMade W → Got W W
handed (comes u) h = bare u h
handed pending h = wait h

unfoldable pub test : {W A : Type 0} → Truth → CallsMade W → Got W A → Got W A → Got W A
test holds h a b = a
test fails h a b = b
test halts h a b = stop h

unfoldable pub test_o : {W : Type 0} → Truth → CallsMade W → Ran W → Ran W → Ran W
test_o holds h a b = a
test_o fails h a b = b
test_o halts h a b = stopped h

unfoldable pub typed : {W A : Type 0} → Result A → CallsMade W → (A → Got W (Datum W)) → Got W (Datum W)
typed (ok a) h f = f a
typed (err k r) h f = stop h

unfoldable pub typed_o : {W A : Type 0} → Result A → CallsMade W → (A → Ran W) → Ran W
typed_o (ok a) h f = f a
typed_o (err k r) h f = stopped h

-- ---- fitting

-- 'Fitting gives a literal or SizeOf the tag, and a float literal the mark, that the Rust gives it at the expected type'
unfoldable pub fit_literal : Ty → Literal → Literal
fit_literal t (IntLiteral v s u) = on_int t (IntLiteral v s u) (λ short unsigned. IntLiteral v short unsigned)
fit_literal t (FloatLiteral b s) = on_float t (FloatLiteral b s) (λ short. FloatLiteral b short)
fit_literal t (BoolLiteral b) = BoolLiteral b
fit_literal t (StringLiteral x) = StringLiteral x
fit_literal t NullLiteral = NullLiteral

-- an unfitted SizeOf is 'a signed long literal'
unfoldable pub size_datum : {W : Type 0} → Option ℕ → CallsMade W → Got W (Datum W)
size_datum none h = stop h
size_datum (some n) h = value (constant (IntLiteral (pos n) false false)) h

module _ {W : Type 0} (P : Program) (R : Rule W) where
  -- 'casts any other float of another width, and keeps the rest'
  unfoldable pub fit_computed : Bool → ℕ → ℕ → W → CallsMade W → Got W (Datum W)
  fit_computed true y u v h = answered y (R.cast y (u, v)) h
  fit_computed false y u v h = value (computed u v) h

  -- fitted to the type y
  unfoldable pub fit : ℕ → Datum W → CallsMade W → Got W (Datum W)
  fit y (constant l) h = value (constant (fit_literal (P.type_of y) l)) h
  fit y (computed u v) h = fit_computed (is_float (P.type_of y) && (is_float (P.type_of u) && not (eqb u y))) y u v h

  -- the k-th value of the arguments l and those behind it, each to the parameter of g at its position among all arguments
  unfoldable pub fit_arguments : ℕ → List (Datum W) → Args → Function → CallsMade W → Got W (List (Datum W))
  fit_arguments k [] l g h = value [] h
  fit_arguments k (d ∷ ds) l g h = bind_g (fit (expected_type g.params l k) d h) λ u h1.
      bind_g (fit_arguments (suc k) ds l g h1) λ us h2. value (u ∷ us) h2

  -- 'Declare writes the zero value that the Rust writes, through the rule's copy or Zero as there'
  unfoldable pub zero_of : ℕ → Ty → ValueOrStop W
  zero_of y (TInt short unsigned) = R.copy y (read R (constant (IntLiteral (pos 0) short unsigned)))
  zero_of y (TFloat short) = R.copy y (read R (constant (FloatLiteral 0 short)))
  zero_of y TBool = R.copy y (read R (constant (BoolLiteral false)))
  zero_of y TChar = R.copy y (read R (constant (BoolLiteral false)))
  zero_of y TByte = R.copy y (read R (constant (BoolLiteral false)))
  zero_of y (TAddress t) = R.copy y (read R (constant NullLiteral))
  zero_of y TNull = R.copy y (read R (constant NullLiteral))
  zero_of y (TArray t n) = R.zero y
  zero_of y (TCustom t) = halt

-- ---- expressions

module _ {W : Type 0} (P : Program) (F : Functions) (f : Function) (R : Rule W) (A : Answers W) where
  -- 'And and Or copy each side that they reach into Bool, and the copy of the left is tested'
  unfoldable pub to_bool : Datum W → CallsMade W → Got W (Datum W)
  to_bool u h = answered bool_type (R.copy bool_type (read R u)) h

  unfoldable pub eval_and : (CallsMade W → Got W (Datum W)) → (CallsMade W → Got W (Datum W)) → CallsMade W → Got W (Datum W)
  eval_and left right h = bind_g (left h) λ u h1. bind_g (to_bool u h1) λ c h2.
      test (R.truth (read R c)) h2 (bind_g (right h2) to_bool) (value c h2)

  unfoldable pub eval_or : (CallsMade W → Got W (Datum W)) → (CallsMade W → Got W (Datum W)) → CallsMade W → Got W (Datum W)
  eval_or left right h = bind_g (left h) λ u h1. bind_g (to_bool u h1) λ c h2.
      test (R.truth (read R c)) h2 (value c h2) (bind_g (right h2) to_bool)

  -- 'A binary other than And and Or computes left, right, then fits both as the Rust does, then applies the operator': y is its type,
  -- q the type that both are fitted to
  unfoldable pub eval_other : BinaryOp → ℕ → ℕ → (CallsMade W → Got W (Datum W)) → (CallsMade W → Got W (Datum W)) → CallsMade W → Got W (Datum W)
  eval_other o y q left right h = bind_g (left h) λ u h1. bind_g (right h1) λ v h2.
      bind_g (fit P R q u h2) λ u1 h3. bind_g (fit P R q v h3) λ v1 h4. answered y (R.binary o y (read R u1) (read R v1)) h4

  unfoldable pub eval_binary : BinaryOp → ℕ → ℕ → (CallsMade W → Got W (Datum W)) → (CallsMade W → Got W (Datum W)) → CallsMade W → Got W (Datum W)
  eval_binary And y q left right h = eval_and left right h
  eval_binary Or y q left right h = eval_or left right h
  eval_binary BitOr y q left right h = eval_other BitOr y q left right h
  eval_binary BitXor y q left right h = eval_other BitXor y q left right h
  eval_binary BitAnd y q left right h = eval_other BitAnd y q left right h
  eval_binary Eq y q left right h = eval_other Eq y q left right h
  eval_binary NotEq y q left right h = eval_other NotEq y q left right h
  eval_binary Lt y q left right h = eval_other Lt y q left right h
  eval_binary Le y q left right h = eval_other Le y q left right h
  eval_binary Gt y q left right h = eval_other Gt y q left right h
  eval_binary Ge y q left right h = eval_other Ge y q left right h
  eval_binary Shl y q left right h = eval_other Shl y q left right h
  eval_binary Shr y q left right h = eval_other Shr y q left right h
  eval_binary Add y q left right h = eval_other Add y q left right h
  eval_binary Sub y q left right h = eval_other Sub y q left right h
  eval_binary Mul y q left right h = eval_other Mul y q left right h
  eval_binary Div y q left right h = eval_other Div y q left right h
  eval_binary Rem y q left right h = eval_other Rem y q left right h

  -- 'a cast computes all and uses the first'
  unfoldable pub eval_cast : ℕ → List (Datum W) → CallsMade W → Got W (Datum W)
  eval_cast y [] h = stop h
  eval_cast y (u ∷ us) h = answered y (R.cast y (read R u)) h

  -- 'A call computes all its arguments, fits them in order, then calls'; y is the type of the variable that the Rust gives the result
  unfoldable pub call_with : ℕ → Callee → Args → List (Datum W) → CallsMade W → Got W (Datum W)
  call_with y (CallFunction g) l vs h = bind_g (fit_arguments P R 0 vs l g h) λ us h1.
      replied y (A h1 g.rec_of (some y) (read_all R us)).0 (h1 ++ (A h1 g.rec_of (some y) (read_all R us)).1)
  call_with y (CallCast t) l vs h = eval_cast y vs h

  unfoldable mutual
    pub eval_expr : Expr → List KnownName → Values W → CallsMade W → Got W (Datum W)
    eval_expr (EInt r v short unsigned) N σ h = value (constant (IntLiteral v short unsigned)) h
    eval_expr (EFloat r b short) N σ h = value (constant (FloatLiteral b short)) h
    eval_expr (EStr r o n t) N σ h = value (constant (StringLiteral t)) h
    eval_expr (EBool r b) N σ h = value (constant (BoolLiteral b)) h
    eval_expr (ENull r) N σ h = value (constant NullLiteral) h
    eval_expr (EName r t) N σ h = typed (get_type P F (EName r t) (scope_of f N)) h λ y. value (computed y (σ t)) h
    eval_expr (ESizeOf r y) N σ h = size_datum (size P.type_of y) h
    eval_expr (EUnary r o a) N σ h = typed (get_type P F (EUnary r o a) (scope_of f N)) h λ y.
        bind_g (eval_expr a N σ h) λ u h1. answered y (R.unary o y (read R u)) h1
    eval_expr (EBinary r o a b) N σ h = typed (get_type P F (EBinary r o a b) (scope_of f N)) h λ y.
        typed (common_type P F a b (scope_of f N)) h λ c.
        eval_binary o y (unwrap_or y c) (λ h1. eval_expr a N σ h1) (λ h1. eval_expr b N σ h1) h
    eval_expr (ECall r verb l) N σ h = typed (get_type P F (ECall r verb l) (scope_of f N)) h λ y.
        typed (resolve_call P F verb l (scope_of f N) r) h λ callee.
        bind_g (eval_args l N σ h) λ vs h1. call_with y callee l vs h1

    pub eval_args : Args → List KnownName → Values W → CallsMade W → Got W (List (Datum W))
    eval_args no_args N σ h = value [] h
    eval_args (Value r e l) N σ h = bind_g (eval_expr e N σ h) λ u h1. bind_g (eval_args l N σ h1) λ vs h2. value (u ∷ vs) h2
    eval_args (ToType r y l) N σ h = eval_args l N σ h

  -- ---- statements

  unfoldable pub store : Text → ValueOrStop W → Values W → CallsMade W → Ran W
  store n u σ h = bind_o (bare u h) λ v h1. normal (set σ n v) h1

  -- 'Init copies', fitted to the type y of a known name
  unfoldable pub assign : Text → ℕ → Expr → List KnownName → Values W → CallsMade W → Ran W
  assign n y e N σ h = bind_o (eval_expr e N σ h) λ u h1. bind_o (fit P R y u h1) λ u1 h2. store n (R.copy y (read R u1)) σ h2

  -- the type of a new name: that of its value, Address of Null for Null
  unfoldable pub new_type : ℕ → ℕ
  new_type y = pick (eqb y null_type) address_of_null y

  -- a new name, nothing fitted
  unfoldable pub introduce : Text → Expr → List KnownName → Values W → CallsMade W → Ran W
  introduce n e N σ h = typed_o (get_type P F e (scope_of f N)) h λ y. bind_o (eval_expr e N σ h) λ u h1. store n (R.copy (new_type y) (read R u)) σ h1

  -- 'A plain Init of a known name assigns'
  unfoldable pub initialise : Bool → Option ℕ → Text → Expr → List KnownName → Values W → CallsMade W → Ran W
  initialise false (some y) n e N σ h = assign n y e N σ h
  initialise false none n e N σ h = introduce n e N σ h
  initialise true o n e N σ h = introduce n e N σ h

  -- 'Return returns, fitted as in the Rust'
  unfoldable pub give_back : Option ℕ → Expr → List KnownName → Values W → CallsMade W → Ran W
  give_back none e N σ h = stopped h
  give_back (some y) e N σ h = bind_o (eval_expr e N σ h) λ u h1. bind_o (fit P R y u h1) λ u1 h2.
      bind_o (bare (R.return (some y) (read R u1)) h2) λ v h3. returned v h3

  -- a call statement; one that is a cast does not convert
  unfoldable pub call_only : Callee → Args → List KnownName → Values W → CallsMade W → Ran W
  call_only (CallCast t) l N σ h = stopped h
  call_only (CallFunction g) l N σ h = bind_o (eval_args l N σ h) λ vs h1. bind_o (fit_arguments P R 0 vs l g h1) λ us h2.
      bind_o (handed (A h2 g.rec_of none (read_all R us)).0 (h2 ++ (A h2 g.rec_of none (read_all R us)).1)) λ v h3. normal σ h3

  -- 'A call statement whose expression is no call is typed and never run'
  unfoldable pub run_call : Expr → List KnownName → Values W → CallsMade W → Ran W
  run_call e N σ h = as_call e (normal σ h) λ c verb l. typed_o (resolve_call P F verb l (scope_of f N) c) h λ callee. call_only callee l N σ h

  -- 'While tests truth': at most n turns
  unfoldable pub run_while : ℕ → (Values W → CallsMade W → Got W (Datum W)) → (Values W → CallsMade W → Ran W) → Values W → CallsMade W → Ran W
  run_while zero cond body σ h = unfinished h
  run_while (suc n) cond body σ h = bind_o (cond σ h) λ v h1.
      test_o (R.truth (read R v)) h1 (bind_t (body σ h1) λ σ2 h2. run_while n cond body σ2 h2) (normal σ h1)

  -- a For over x of type y: 'each turn tests, as a Bool, variable < fitted `until`', here computed and fitted anew each turn as the Rust does;
  -- '`continue` and the body's end add a literal 1 of its type', the sum written straight
  unfoldable pub rounds : ℕ → Text → ℕ → Literal → (Values W → CallsMade W → Got W (Datum W)) → (Values W → CallsMade W → Ran W) → Values W → CallsMade W → Ran W
  rounds zero x y one until body σ h = unfinished h
  rounds (suc n) x y one until body σ h = bind_o (until σ h) λ d h1. bind_o (fit P R y d h1) λ d1 h2.
      bind_o (bare (R.binary Lt bool_type (y, σ x) (read R d1)) h2) λ c h3.
      test_o (R.truth (bool_type, c)) h3
      (bind_t (body σ h3) λ σ2 h4. bind_o (bare (R.binary Add y (y, σ2 x) (read R (constant one))) h4) λ v h5. rounds n x y one until body (set σ2 x v) h5)
      (normal σ h3)

  -- 'For copies the fitted `from` in'
  unfoldable pub run_for : ℕ → Text → ℕ → Literal → Expr → Expr → List KnownName → (Values W → CallsMade W → Ran W) → Values W → CallsMade W → Ran W
  run_for n x y one from until N body σ h = bind_o (eval_expr from N σ h) λ d h1. bind_o (fit P R y d h1) λ d1 h2.
      bind_o (bare (R.copy y (read R d1)) h2) λ v h3. rounds n x y one (λ σ1 h4. eval_expr until N σ1 h4) body (set σ x v) h3

  unfoldable pub run_for_int : ℕ → Text → ℕ → Expr → Expr → List KnownName → (Values W → CallsMade W → Ran W) → Values W → CallsMade W → Ran W
  run_for_int n x y from until N body σ h = on_int (P.type_of y) (stopped h) λ short unsigned.
      run_for n x y (IntLiteral (pos 1) short unsigned) from until N body σ h

  -- a variable of the loop's own, or of the blocks around; the body runs with the names that it is given
  unfoldable pub for_over : ℕ → Text → Option ℕ → Option ℕ → Expr → Expr → List KnownName → (List KnownName → Values W → CallsMade W → Ran W) → Values W → CallsMade W → Ran W
  for_over n x (some y) o from until N body σ h = run_for_int n x y from until N (body (record { name = x; ty = y } ∷ N)) σ h
  for_over n x none (some y) from until N body σ h = run_for_int n x y from until N (body N) σ h
  for_over n x none none from until N body σ h = stopped h

  -- the names that are known after a statement
  unfoldable pub with_new : Text → Result ℕ → List KnownName → List KnownName
  with_new n (ok y) N = record { name = n; ty = new_type y } ∷ N
  with_new n (err k r) N = N

  unfoldable pub known_init : Bool → Option ℕ → Text → Result ℕ → List KnownName → List KnownName
  known_init false (some y) n t N = N
  known_init false none n t N = with_new n t N
  known_init true o n t N = with_new n t N

  unfoldable pub known_after : Statement → List KnownName → List KnownName
  known_after (SDeclare r n y) N = record { name = n; ty = y } ∷ N
  known_after (SInit r c n e) N = known_init c (known_type n N) n (get_type P F e (scope_of f N)) N
  known_after (SReturn r e) N = N
  known_after (SCall r e) N = N
  known_after (SIf r e a) N = N
  known_after (SIfElse r e a b) N = N
  known_after (SWhile r e a) N = N
  known_after (SFor r x y from until a) N = N
  known_after (SBreak r) N = N
  known_after (SContinue r) N = N

  -- a statement, a block: with at most n turns of each entry of a loop
  unfoldable mutual
    pub run_statement : Statement → ℕ → List KnownName → Values W → CallsMade W → Ran W
    run_statement (SDeclare r n y) k N σ h = store n (zero_of P R y (P.type_of y)) σ h
    run_statement (SInit r c n e) k N σ h = initialise c (known_type n N) n e N σ h
    run_statement (SReturn r e) k N σ h = give_back f.return_type e N σ h
    run_statement (SCall r e) k N σ h = run_call e N σ h
    run_statement (SIf r e a) k N σ h = bind_o (eval_expr e N σ h) λ v h1. test_o (R.truth (read R v)) h1 (run_block a k N σ h1) (normal σ h1)
    run_statement (SIfElse r e a b) k N σ h = bind_o (eval_expr e N σ h) λ v h1.
        test_o (R.truth (read R v)) h1 (run_block a k N σ h1) (run_block b k N σ h1)
    run_statement (SWhile r e a) k N σ h = run_while k (λ σ1 h1. eval_expr e N σ1 h1) (λ σ1 h1. run_block a k N σ1 h1) σ h
    run_statement (SFor r x y from until a) k N σ h = for_over k x y (known_type x N) from until N (λ N1 σ1 h1. run_block a k N1 σ1 h1) σ h
    run_statement (SBreak r) k N σ h = broke σ h
    run_statement (SContinue r) k N σ h = continued σ h

    pub run_block : Block → ℕ → List KnownName → Values W → CallsMade W → Ran W
    run_block done k N σ h = normal σ h
    run_block (next t b) k N σ h = bind_s (run_statement t k N σ h) λ σ1 h1. run_block b k (known_after t N) σ1 h1

-- ---- the whole run of a function over its parameters' values, vs

-- the parameters' names, the last declared first
unfoldable pub parameters_known : List Param → List KnownName → List KnownName
parameters_known [] N = N
parameters_known (p ∷ l) N = parameters_known l (record { name = p.name; ty = p.ty } ∷ N)

unfoldable pub parameter_values : {W : Type 0} → List Param → List W → Values W → Values W
parameter_values [] vs σ = σ
parameter_values (p ∷ l) [] σ = σ
parameter_values (p ∷ l) (v ∷ vs) σ = parameter_values l vs (set σ p.name v)

-- with at most n turns of each entry of a loop; no other name has a value that is ever read
unfoldable pub tree_run : {W : Type 0} → Program → Functions → Function → Rule W → Answers W → Block → List W → ℕ → Ran W
tree_run P F f R A b vs n =
    run_block P F f R A b n (parameters_known f.params []) (parameter_values f.params vs (λ t. R.literal NullContent null_type)) []
