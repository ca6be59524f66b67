-- What converting a statement or a block emits names only what exists, and the scope that it leaves names variables that exist.
-- By induction over the block, one law for each definition that conversion calls. Assumes nothing.
use mathlib.Core.Path.{◌≡◌, refl}
use Prim.Native.Nat.{ℕ}
use mathlib.Core.Bool.{Bool, true, false}
use mathlib.Core.Option.{Option, none as nothing, some}
use native.Mathlib.Omega.{arith}
use lib.Dec.{eqb}
use lib.IntN.{pos}
use mir.Facts.{sfits_lit}
use Rattle.syntax.specs.Syntax.{Text, Ty, TInt, TFloat, TBool, TChar, TByte, TAddress, TArray, TCustom, TNull, Add, Lt, Expr, EInt, EFloat, EStr, EBool, EName, ENull, ESizeOf, EUnary, EBinary, ECall, Args, Statement, SDeclare, SInit, SReturn, SCall, SIf, SIfElse, SWhile, SFor, SBreak, SContinue, Block, done, next, Program, place, bool_type, null_type, address_of_null}
use Rattle.conversion.specs.ConvertError.{ConvertErrorKind, UnknownVariable, AssignToConstant, ReturnWithoutType, WrongReturnType, WrongAssignType, LiteralOutOfRange, NotBool, NotInteger, BreakOutOfLoop, ContinueOutOfLoop, WouldPanic}
use Rattle.conversion.specs.Ir.{VarId, OVar, OInt, OFloat, OBool, ONull, Copy, Binary, Zero, Label, Jump, JumpIfNot, Return, Comment, loop_start, loop_end, loop_check, otherwise_label, condition_end, State, M, ◌>>◌, emit}
use Rattle.conversion.specs.Types.{fits, range_error}
use Rattle.conversion.specs.Scope.{Variable, Scope, find_variable, with_variable, with_loop, declare_new, declare}
use Rattle.conversion.specs.Expressions.{Callee, CallFunction, CallCast, Functions, get_type}
use Rattle.conversion.specs.Statements.{as_call, convert_expr, convert_cond, check_fits, zero_value, convert_declare, assign_to, convert_assign, init_new, init_by, convert_init, return_as, convert_return, call_statement, convert_call, convert_if, convert_if_else, convert_while_loop, check_bound, for_loop, for_int, for_known, convert_for_loop, convert_break, convert_continue, convert_statement, convert_block}
use Rattle.tables.proofs.Exists.{Word, VarIn, KnownLabel}
use Rattle.tables.proofs.SyntaxFits.{OkIs, ok_is, err_is, OptIs, some_is, held, ExprFits, ArgsFit, StatementFits, BlockFits, CalleeFits, KeyedFit, TreeFits}
use Rattle.tables.proofs.Typing.{TypeFits, pick_is, find-is}
use Rattle.tables.proofs.Keeps.{known_label, Up, Typed, Named, Keeps, then, and_then, from, gives, fails, emits, picks, new-variable, label_number, float_number, knowing, lift_then, lift_any}
use Rattle.tables.proofs.Operands.{Done, ScopeIn, Scoped, on_int_lem, fit_keeps, call_keeps, type_then, resolve_then, expr_keeps, args_keeps}

start_fits : (r : ℕ) → Word r → KnownLabel (loop_start r)
start_fits r h = known_label 1 r tt h

end_fits : (r : ℕ) → Word r → KnownLabel (loop_end r)
end_fits r h = known_label 2 r tt h

check_fits_lem : (r : ℕ) → Word r → KnownLabel (loop_check r)
check_fits_lem r h = known_label 3 r tt h

otherwise_fits : (r : ℕ) → Word r → KnownLabel (otherwise_label r)
otherwise_fits r h = known_label 4 r tt h

condition_fits : (r : ℕ) → Word r → KnownLabel (condition_end r)
condition_fits r h = known_label 5 r tt h

declared_by : (o : Option Variable) (v : Variable) (r : ℕ) (sc : Scope) → OkIs (λ d. d ≡ with_variable v sc) (declare_new o v r sc)
unfolding declare_new
declared_by (some w) v r sc = err_is
declared_by nothing v r sc = ok_is refl

declared : (v : Variable) (r : ℕ) (sc : Scope) → OkIs (λ d. d ≡ with_variable v sc) (declare v r sc)
unfolding declare
declared v r sc = declared_by (find_variable v.name sc) v r sc

-- a variable that is found is one, with its type
abbrev Known : State → Variable → Type 0
Known s v = VarIn s v.var_id × TypeFits v

module _ (text : Text) where
  pub with_more : (sc d : Scope) (v : Variable) (s : State) → d ≡ with_variable v sc → ScopeIn text sc s → Known s v → ScopeIn text d s
  unfolding with_variable
  with_more sc d v s e h k = rw e (record { variables = (k, h.variables); in_loop = h.in_loop; function = h.function })

  with_loop_lem : (r : ℕ) (sc : Scope) (s : State) → Word r → ScopeIn text sc s → ScopeIn text (with_loop r sc) s
  unfolding with_loop
  with_loop_lem r sc s w h = record { variables = h.variables; in_loop = some_is w; function = h.function }

  module _ (P : Program) (F : Functions) (treeFits : TreeFits text P) (functionsFit : KeyedFit text F) where
    known_in : (n : Text) (sc : Scope) (s : State) → ScopeIn text sc s → OptIs (Known s) (find_variable n sc)
    unfolding find_variable
    known_in n sc s h = find-is (Known s) n sc.variables h.variables

    convert : (e : Expr) (sc : Scope) → ExprFits text e → Keeps text (Scoped text sc) Named (convert_expr P F e sc)
    convert e sc h = expr_keeps text P F treeFits functionsFit e sc h

    cond_keeps : (e : Expr) (sc : Scope) → ExprFits text e → Keeps text (Scoped text sc) Named (convert_cond P F e sc)
    unfolding convert_cond
    cond_keeps e sc h = lift_any text (get_type P F e sc) λ y.
        picks text (eqb y bool_type) (convert e sc h) (fails text NotBool (place e))

    fits_keeps : {G : Up} (e : Expr) (y expected : ℕ) (k : ConvertErrorKind) (r : ℕ) → Keeps text G Done (check_fits P F e y expected k r)
    unfolding check_fits
    fits_keeps e y expected k r = picks text (fits P.type_of e y expected) (gives text tt (λ s g. tt))
        (picks text (range_error P.type_of e y expected) (fails text LiteralOutOfRange (place e)) (fails text k r))

    -- ---- declarations

    zero_keeps : {G : Up} (r : ℕ) (x : VarId) (t : Ty) → ((s : State) → G.holds s → VarIn s x) → Keeps text G Done (zero_value P F r x t)
    unfolding zero_value
    zero_keeps r x (TInt short unsigned) d = emits text (Copy x (OInt (pos 0) short unsigned)) (λ s g. (d s g, sfits_lit tt))
    zero_keeps r x (TFloat short) d = then text (float_number text {e = record { bits = 0; short = short }} (record { bits = omega arith })) λ i.
        emits text (Copy x (OFloat i)) (λ s g. (d s g.0, g.1))
    zero_keeps r x TBool d = emits text (Copy x (OBool false)) (λ s g. (d s g, tt))
    zero_keeps r x TChar d = emits text (Copy x (OBool false)) (λ s g. (d s g, tt))
    zero_keeps r x TByte d = emits text (Copy x (OBool false)) (λ s g. (d s g, tt))
    zero_keeps r x (TAddress y) d = emits text (Copy x ONull) (λ s g. (d s g, tt))
    zero_keeps r x TNull d = emits text (Copy x ONull) (λ s g. (d s g, tt))
    zero_keeps r x (TArray y n) d = emits text (Zero x) d
    zero_keeps r x (TCustom t) d = fails text WouldPanic r

    declare_keeps : (r : ℕ) (n : Text) (y : ℕ) (sc : Scope) → Word y → Keeps text (Scoped text sc) (Scoped text) (convert_declare P F r n y sc)
    unfolding convert_declare
    declare_keeps r n y sc w = then text (new-variable text w) λ x.
        lift_then text (λ s g. declared (record { name = n; constant = false; var_id = x }) r sc) λ d e.
        and_then text (zero_keeps r x (P.type_of y) (λ s g. g.1.0))
        (gives text d (λ s g. with_more sc d (record { name = n; constant = false; var_id = x }) s e g.0 g.1))

    assign_to_lem : (r : ℕ) (e : Expr) (v : Variable) (sc : Scope) → ExprFits text e → ((s : State) → ScopeIn text sc s → Known s v)
        → Keeps text (Scoped text sc) (Scoped text) (assign_to P F r e v sc)
    unfolding assign_to
    assign_to_lem r e v sc h n = knowing text (λ s g. (n s g).1) λ w.
        then text (convert e sc h) λ src.
        lift_any text (get_type P F e sc) λ y.
        and_then text (fits_keeps e y v.var_id.ty WrongAssignType r)
        (then text (fit_keeps text P src v.var_id.ty w (λ s g. g.1)) λ to.
        and_then text (emits text (Copy v.var_id to) (λ s g. ((n s g.0.0).0, g.1)))
        (gives text sc (λ s g. g.0.0)))

    init_new_lem : (r : ℕ) (constant : Bool) (n : Text) (e : Expr) (sc : Scope) → ExprFits text e
        → Keeps text (Scoped text sc) (Scoped text) (init_new P F r constant n e sc)
    unfolding init_new
    init_new_lem r constant n e sc h = type_then text P F treeFits functionsFit e sc (λ s g. g) h λ y w.
        then text (convert e sc h) λ src.
        then text (new-variable text (pick_is Word (eqb y null_type) address_of_null y (omega arith) w)) λ x.
        lift_then text (λ s g. declared (record { name = n; constant = constant; var_id = x }) r sc) λ d q.
        and_then text (emits text (Copy x src) (λ s g. (g.1.0, g.0.1)))
        (gives text d (λ s g. with_more sc d (record { name = n; constant = constant; var_id = x }) s q g.0.0 g.1))

    init_by_lem : (r : ℕ) (constant : Bool) (n : Text) (e : Expr) (sc : Scope) (o : Option Variable) → ExprFits text e
        → ((s : State) → ScopeIn text sc s → OptIs (Known s) o) → Keeps text (Scoped text sc) (Scoped text) (init_by P F r constant n e sc o)
    unfolding init_by convert_assign
    init_by_lem r false n e sc (some v) h k = picks text v.constant (fails text AssignToConstant r)
        (assign_to_lem r e v sc h (λ s g. held (k s g)))
    init_by_lem r false n e sc nothing h k = init_new_lem r false n e sc h
    init_by_lem r true n e sc o h k = init_new_lem r true n e sc h

    init_keeps : (r : ℕ) (constant : Bool) (n : Text) (e : Expr) (sc : Scope) → ExprFits text e
        → Keeps text (Scoped text sc) (Scoped text) (convert_init P F r constant n e sc)
    unfolding convert_init
    init_keeps r constant n e sc h = init_by_lem r constant n e sc (find_variable n sc) h (λ s g. known_in n sc s g)

    -- ---- returns and calls

    return_as_lem : (r : ℕ) (e : Expr) (y : ℕ) (sc : Scope) (o : Option ℕ) → ExprFits text e → OptIs Word o
        → Keeps text (Scoped text sc) (Scoped text) (return_as P F r e y sc o)
    unfolding return_as
    return_as_lem r e y sc nothing h w = fails text ReturnWithoutType r
    return_as_lem r e y sc (some expected) h w = and_then text (fits_keeps e y expected WrongReturnType r)
        (then text (convert e sc h) λ value.
        then text (fit_keeps text P value expected (held w) (λ s g. g.1)) λ to.
        and_then text (emits text (Return to) (λ s g. g.1))
        (gives text sc (λ s g. g.0.0)))

    return_keeps : (r : ℕ) (e : Expr) (sc : Scope) → ExprFits text e → Keeps text (Scoped text sc) (Scoped text) (convert_return P F r e sc)
    unfolding convert_return
    return_keeps r e sc h = lift_any text (get_type P F e sc) λ y.
        knowing text (λ s g. g.function.return_type) λ w.
        return_as_lem r e y sc sc.function.return_type h w

    call_statement_lem : (r : ℕ) (l : Args) (sc : Scope) (c : Callee) → ArgsFit text l → CalleeFits text c
        → Keeps text (Scoped text sc) Done (call_statement P F r l sc c)
    unfolding call_statement
    call_statement_lem r l sc (CallFunction f) h k = then text (args_keeps text P F treeFits functionsFit l sc h) λ operands.
        call_keeps text P F nothing f l operands k (λ s g. tt) (λ s g. g.1)
    call_statement_lem r l sc (CallCast y) h k = fails text WouldPanic r

    as_call_lem : {A : Type 0} {G : Up} {Q : A → Up} {d : M A} {f : ℕ → Text → Args → M A} (e : Expr) → ExprFits text e → Keeps text G Q d
        → ((r : ℕ) (v : Text) (l : Args) → ArgsFit text l → Keeps text G Q (f r v l)) → Keeps text G Q (as_call e d f)
    unfolding as_call
    as_call_lem (ECall r v l) h i k = k r v l h
    as_call_lem (EInt r v s u) h i k = i
    as_call_lem (EFloat r b s) h i k = i
    as_call_lem (EStr r o n t) h i k = i
    as_call_lem (EBool r b) h i k = i
    as_call_lem (EName r t) h i k = i
    as_call_lem (ENull r) h i k = i
    as_call_lem (ESizeOf r y) h i k = i
    as_call_lem (EUnary r o a) h i k = i
    as_call_lem (EBinary r o a b) h i k = i

    call_statement_keeps : (r : ℕ) (e : Expr) (sc : Scope) → ExprFits text e → Keeps text (Scoped text sc) (Scoped text) (convert_call P F r e sc)
    unfolding convert_call
    call_statement_keeps r e sc h = as_call_lem e h
        (lift_any text (get_type P F e sc) λ y. gives text sc (λ s g. g))
        (λ c verb l k. resolve_then text P F treeFits functionsFit verb l sc c (λ s g. g) k λ callee j.
        and_then text (call_statement_lem r l sc callee k j) (gives text sc (λ s g. g)))

    -- ---- branches and loops

    if_keeps : {body : M Scope} (r : ℕ) (e : Expr) (sc : Scope) → Word r → ExprFits text e → Keeps text (Scoped text sc) (Scoped text) body
        → Keeps text (Scoped text sc) (Scoped text) (convert_if P F r e sc body)
    unfolding convert_if
    if_keeps r e sc w h b = then text (cond_keeps e sc h) λ cond.
        then text (label_number text (condition_fits r w)) λ target.
        and_then text (emits text (JumpIfNot cond target) (λ s g. (g.0.1, g.1)))
        (and_then text (from text (λ s g. g.0.0) b)
        (then text (label_number text (condition_fits r w)) λ end.
        and_then text (emits text (Label end) (λ s g. g.1))
        (gives text sc (λ s g. g.0.0.0))))

    if_else_keeps : {a b : M Scope} (r : ℕ) (e : Expr) (sc : Scope) → Word r → ExprFits text e → Keeps text (Scoped text sc) (Scoped text) a
        → Keeps text (Scoped text sc) (Scoped text) b → Keeps text (Scoped text sc) (Scoped text) (convert_if_else P F r e sc a b)
    unfolding convert_if_else
    if_else_keeps r e sc w h a b = then text (cond_keeps e sc h) λ cond.
        then text (label_number text (otherwise_fits r w)) λ target.
        and_then text (emits text (JumpIfNot cond target) (λ s g. (g.0.1, g.1)))
        (and_then text (from text (λ s g. g.0.0) a)
        (then text (label_number text (condition_fits r w)) λ end.
        and_then text (emits text (Jump end) (λ s g. g.1))
        (then text (label_number text (otherwise_fits r w)) λ here.
        and_then text (emits text (Label here) (λ s g. g.1))
        (and_then text (from text (λ s g. g.0.0.0.0) b)
        (then text (label_number text (condition_fits r w)) λ stop.
        and_then text (emits text (Label stop) (λ s g. g.1))
        (gives text sc (λ s g. g.0.0.0.0.0)))))))

    while_keeps : {body : M Scope} (r : ℕ) (e : Expr) (sc : Scope) → Word r → ExprFits text e → Keeps text (Scoped text sc) (Scoped text) body
        → Keeps text (Scoped text sc) (Scoped text) (convert_while_loop P F r e sc body)
    unfolding convert_while_loop
    while_keeps r e sc w h b = then text (label_number text (start_fits r w)) λ start.
        and_then text (emits text (Label start) (λ s g. g.1))
        (then text (from text (λ s g. g.0) (cond_keeps e sc h)) λ cond.
        then text (label_number text (end_fits r w)) λ target.
        and_then text (emits text (JumpIfNot cond target) (λ s g. (g.0.1, g.1)))
        (and_then text (from text (λ s g. g.0.0.0) b)
        (then text (label_number text (start_fits r w)) λ again.
        and_then text (emits text (Jump again) (λ s g. g.1))
        (then text (label_number text (end_fits r w)) λ end.
        and_then text (emits text (Label end) (λ s g. g.1))
        (gives text sc (λ s g. g.0.0.0.0.0))))))

    bound_keeps : {G : Up} (e : Expr) (y : ℕ) (sc : Scope) → Keeps text G Done (check_bound P F e y sc)
    unfolding check_bound
    bound_keeps e y sc = lift_any text (get_type P F e sc) λ q. fits_keeps e q y NotInteger (place e)

    for_keeps : {G : Up} {body : M Scope} (r : ℕ) (x : VarId) (short unsigned : Bool) (a b : Expr) (sc : Scope) → Word r
        → ExprFits text a → ExprFits text b → ((s : State) → G.holds s → ScopeIn text sc s) → ((s : State) → G.holds s → (Typed x).holds s)
        → Keeps text G (Scoped text) body → Keeps text G (Scoped text) (for_loop P F r x short unsigned a b sc body)
    unfolding for_loop
    for_keeps {G} r x short unsigned a b sc w h k n m body = knowing text (λ s g. (m s g).1) λ y.
        and_then text (bound_keeps a x.ty sc)
        (and_then text (bound_keeps b x.ty sc)
        (then text (from text n (convert a sc h)) λ a0.
        then text (fit_keeps text P a0 x.ty y (λ s g. g.1)) λ a1.
        and_then text (emits text (Copy x a1) (λ s g. ((m s g.0.0).0, g.1)))
        (then text (label_number text (check_fits_lem r w)) λ skip.
        and_then text (emits text (Jump skip) (λ s g. g.1))
        (then text (label_number text (start_fits r w)) λ start.
        and_then text (emits text (Label start) (λ s g. g.1))
        (and_then text (emits text (Binary x Add (OVar x) (OInt (pos 1) short unsigned))
        (λ s g. ((m s g.0.0.0.0).0, (m s g.0.0.0.0).0, sfits_lit tt)))
        (then text (label_number text (check_fits_lem r w)) λ check.
        and_then text (emits text (Label check) (λ s g. g.1))
        (then text (from text (λ s g. n s g.0.0.0.0.0) (convert b sc k)) λ b0.
        then text (fit_keeps text P b0 x.ty y (λ s g. g.1)) λ b1.
        then text (new-variable text (omega arith)) λ cond.
        and_then text (emits text (Binary cond Lt (OVar x) b1) (λ s g. (g.1.0, (m s g.0.0.0.0.0.0.0.0).0, g.0.1)))
        (then text (label_number text (end_fits r w)) λ target.
        and_then text (emits text (JumpIfNot (OVar cond) target) (λ s g. (g.0.1.0, g.1)))
        (and_then text (from text (λ s g. g.0.0.0.0.0.0.0.0.0) body)
        (then text (label_number text (start_fits r w)) λ again.
        and_then text (emits text (Jump again) (λ s g. g.1))
        (then text (label_number text (end_fits r w)) λ end.
        and_then text (emits text (Label end) (λ s g. g.1))
        (gives text sc (λ s g. n s g.0.0.0.0.0.0.0.0.0.0.0)))))))))))))

    for_int_lem : {G : Up} {body : M Scope} (r : ℕ) (x : VarId) (a b : Expr) (sc : Scope) → Word r → ExprFits text a → ExprFits text b
        → ((s : State) → G.holds s → ScopeIn text sc s) → ((s : State) → G.holds s → (Typed x).holds s)
        → Keeps text G (Scoped text) body → Keeps text G (Scoped text) (for_int P F r x a b sc body)
    unfolding for_int
    for_int_lem r x a b sc w h k n m body = on_int_lem text (P.type_of x.ty) (fails text NotInteger r)
        (λ short unsigned. for_keeps r x short unsigned a b sc w h k n m body)

    for_known_lem : {body : M Scope} (r : ℕ) (o : Option Variable) (a b : Expr) (sc : Scope) → Word r → ExprFits text a → ExprFits text b
        → ((s : State) → ScopeIn text sc s → OptIs (Known s) o) → Keeps text (Scoped text sc) (Scoped text) body
        → Keeps text (Scoped text sc) (Scoped text) (for_known P F r o a b sc body)
    unfolding for_known
    for_known_lem r nothing a b sc w h k n body = fails text UnknownVariable r
    for_known_lem r (some v) a b sc w h k n body = picks text v.constant (fails text AssignToConstant r)
        (for_int_lem r v.var_id a b sc w h k (λ s g. g) (λ s g. held (n s g)) body)

    for_loop_keeps : {body : Scope → M Scope} (r : ℕ) (n : Text) (y : Option ℕ) (a b : Expr) (sc : Scope) → Word r → OptIs Word y
        → ExprFits text a → ExprFits text b → ((d : Scope) → Keeps text (Scoped text d) (Scoped text) (body d))
        → Keeps text (Scoped text sc) (Scoped text) (convert_for_loop P F r n y a b sc body)
    unfolding convert_for_loop
    for_loop_keeps r n (some y) a b sc w v h k body = then text (new-variable text (held v)) λ x.
        lift_then text (λ s g. declared (record { name = n; constant = false; var_id = x }) r sc) λ d e.
        for_int_lem r x a b sc w h k (λ s g. g.0) (λ s g. g.1)
        (from text (λ s g. with_more sc d (record { name = n; constant = false; var_id = x }) s e g.0 g.1) (body d))
    for_loop_keeps r n nothing a b sc w v h k body = for_known_lem r (find_variable n sc) a b sc w h k (λ s g. known_in n sc s g) (body sc)

    break_keeps : (r : ℕ) (o : Option ℕ) (sc : Scope) → OptIs Word o → Keeps text (Scoped text sc) (Scoped text) (convert_break P F r o sc)
    unfolding convert_break
    break_keeps r nothing sc h = fails text BreakOutOfLoop r
    break_keeps r (some l) sc h = then text (label_number text (end_fits l (held h))) λ end.
        and_then text (emits text (Jump end) (λ s g. g.1)) (gives text sc (λ s g. g.0))

    continue_keeps : (r : ℕ) (o : Option ℕ) (sc : Scope) → OptIs Word o → Keeps text (Scoped text sc) (Scoped text) (convert_continue P F r o sc)
    unfolding convert_continue
    continue_keeps r nothing sc h = fails text ContinueOutOfLoop r
    continue_keeps r (some l) sc h = then text (label_number text (start_fits l (held h))) λ start.
        and_then text (emits text (Jump start) (λ s g. g.1)) (gives text sc (λ s g. g.0))

    -- ---- statements and blocks

    -- a statement behind its comment
    commented : {A : Type 0} {G : Up} {Q : A → Up} {m : M A} (r : ℕ) → Word r → Keeps text G Q m → Keeps text G Q (emit (Comment r) >> m)
    commented r w h = and_then text (emits text (Comment r) (λ s g. w)) h

    mutual
      unfolding convert_statement

      pub statement_keeps : (t : Statement) (sc : Scope) → StatementFits text t
          → Keeps text (Scoped text sc) (Scoped text) (convert_statement P F t sc)
      statement_keeps (SDeclare r n y) sc h = commented r h.0 (declare_keeps r n y sc h.1)
      statement_keeps (SInit r c n e) sc h = commented r h.0 (init_keeps r c n e sc h.1)
      statement_keeps (SReturn r e) sc h = commented r h.0 (return_keeps r e sc h.1)
      statement_keeps (SCall r e) sc h = commented r h.0 (call_statement_keeps r e sc h.1)
      statement_keeps (SIf r e a) sc h = commented r h.0 (if_keeps r e sc h.0 h.1 (block_keeps a sc h.2))
      statement_keeps (SIfElse r e a b) sc h = commented r h.0
          (if_else_keeps r e sc h.0 h.1 (block_keeps a sc h.2) (block_keeps b sc h.3))
      statement_keeps (SWhile r e a) sc h = commented r h.0
          (while_keeps r e sc h.0 h.1 (from text (λ s g. with_loop_lem r sc s h.0 g) (block_keeps a (with_loop r sc) h.2)))
      statement_keeps (SFor r n y a b c) sc h = commented r h.0
          (for_loop_keeps r n y a b sc h.0 h.1 h.2 h.3
          (λ d. from text (λ s g. with_loop_lem r d s h.0 g) (block_keeps c (with_loop r d) h.4)))
      statement_keeps (SBreak r) sc h = commented r h (knowing text (λ s g. g.in_loop) λ w. break_keeps r sc.in_loop sc w)
      statement_keeps (SContinue r) sc h = commented r h (knowing text (λ s g. g.in_loop) λ w. continue_keeps r sc.in_loop sc w)

      pub block_keeps : (b : Block) (sc : Scope) → BlockFits text b → Keeps text (Scoped text sc) (Scoped text) (convert_block P F b sc)
      block_keeps done sc h = gives text sc (λ s g. g)
      block_keeps (next t b) sc h = then text (statement_keeps t sc h.0) λ d. from text (λ s g. g.1) (block_keeps b d h.1)
