-- Converted statements without a loop do what the tree's run says.
-- Each conversion is taken apart into its steps, and the facts about these are chained.
use mathlib.Core.Path.{◌≡◌, refl, sym, ◌∙◌, ap, subst}
use mathlib.Core.List.{List, [], ◌∷◌, ◌++◌, append_assoc, append-nil}
use mathlib.Core.Option.{Option, none, some}
use mathlib.Core.Bool.{Bool, true, false}
use Prim.Native.Nat.{ℕ, ◌<◌}
use native.Mathlib.Nat.{le_refl}
use native.Mathlib.Omega.{arith}
use lib.Dec.{eqb}
use lib.IntN.{pos}
use lib.ListN.{length, get_or}
use Rattle.laws.specs.Fix.{pick}
use Rattle.syntax.specs.Syntax.{Text, Ty, TInt, TFloat, TBool, TChar, TByte, TAddress, TArray, TCustom, TNull, Expr, EInt, EFloat, EStr, EBool, EName, ENull, ESizeOf, EUnary, EBinary, ECall, Args, Function, Program, place, bool_type, null_type, address_of_null}
use Rattle.conversion.specs.ConvertError.{ConvertErrorKind, Result, ok, AssignToConstant, LiteralOutOfRange, NotBool, NotInteger}
use Rattle.conversion.specs.Ir.{VarId, Operand, OInt, OFloat, OBool, ONull, Instr, Copy, Zero, Call, Return, FloatEntry, State, made, M, ◌>>=◌, pure, fail, lift, emit}
use Rattle.conversion.specs.Types.{fits, range_error}
use Rattle.conversion.specs.Scope.{Variable, Scope, find_in, with_variable}
use Rattle.conversion.specs.Expressions.{Callee, CallFunction, CallCast, Functions, get_type, resolve_call}
use Rattle.conversion.specs.Statements.{convert_expr, convert_cond, check_fits, zero_value, convert_declare, assign_to, convert_assign, init_new, init_by, convert_init, return_as, convert_return, call_statement, convert_call, check_bound}
use Rattle.runs.specs.Rule.{CallsMade, Literal, IntLiteral, FloatLiteral, BoolLiteral, NullLiteral, Datum, constant, read, read_all}
use Rattle.runs.specs.TreeRun as Tree
use Rattle.runs.specs.TreeRun.{KnownName, Values, known_type, scope_of, Got, bare, handed, Ran, normal, returned, bind_o, typed_o, fit, fit_arguments, zero_of, eval_expr, store, new_type, introduce, initialise, give_back, call_only, with_new, known_init}
use Rattle.runs.specs.BodyRun.{Vars, write, datum, is_label, operand}
use Rattle.runs.proofs.Opens.{bit, opens_e, opens_a}
use Rattle.runs.proofs.Machine.{Code, at, count, count-append, put, exec, step, dat, arg_code, push}
use Rattle.runs.proofs.Invert.{Grow, grow_refl, grow_trans, inv, inv_then, inv_pure, inv_emit, inv_lift, inv_last, inv_new, quiet, Quiet, join_e, join_s, no_float, next_var, with_var, with_var-length, with_var_grow, ask_float}
use Rattle.runs.proofs.Names.{known, found_type, type-known, typing, resolving, scoped_mono, scoped-new, sub_refl, sub-new, agree_frame, agree_set, agree_new, declared}
use Rattle.conversion.proofs.Steps.{cond_steps-is, declare_steps-is, assign_steps-is, init_steps-is, return_steps-is, return_typed-is, call_only_steps-is, call_statement_steps-is, bound_steps-is, zero_float-is}
use Rattle.runs.proofs.Sim.{Ctx, body, Low, Lows, Within, within_back, float_at, stay, holding, holdings, GoodE}
use Rattle.runs.proofs.Exprs.{args_clear, called, Fitted, good-fit, good-fits, good_e, good_a}
use Rattle.runs.proofs.SimS.{runs, s_before, s_bind_o, s_bare, s_pass, s_finish, GoodS, SoundS, good_s_as}

-- ---- parts that emit nothing

pub check_quiet : (P : Program) (F : Functions) (e : Expr) (y x : ℕ) (k : ConvertErrorKind) (r : ℕ) (s : State) → Quiet (check_fits P F e y x k r) s
unfolding check_fits pick
check_quiet P F e y x k r s u c t q = go (fits P.type_of e y x) (range_error P.type_of e y x) q
  where
    go : (a b : Bool) → pick a (pure tt) (pick b (fail LiteralOutOfRange (place e)) (fail k r)) s ≡ made u c t → (c ≡ []) × (t ≡ s)
    go true b z = let i = inv_pure z in (i.code, i.st)
    go false true z = let w : ◌≡◌ {A = ℕ} 0 1 = cc in absurd (omega arith)
    go false false z = let w : ◌≡◌ {A = ℕ} 0 1 = cc in absurd (omega arith)

pub bound_quiet : (P : Program) (F : Functions) (e : Expr) (y : ℕ) (sc : Scope) (s : State) → Quiet (check_bound P F e y sc) s
bound_quiet P F e y sc s u c t q =
    let i = inv_lift (sym (bound_steps-is P F e y sc s) ∙ q) in
    check_quiet P F e i.got y NotInteger _ s u c t i.rest

pub pick-made : {Y : Type 0} (b : Bool) (m : M Y) (k : ConvertErrorKind) (r : ℕ) (s : State) (x : Y) (c : Code) (t : State) → pick b m (fail k r) s ≡ made x c t → m s ≡ made x c t
unfolding pick fail
pick-made true m k r s x c t q = q
pick-made false m k r s x c t q = let w : ◌≡◌ {A = ℕ} 0 1 = cc in absurd (omega arith)

pub cond_expr : (P : Program) (F : Functions) (e : Expr) (sc : Scope) (s : State) (x : Operand) (c : Code) (t : State) → convert_cond P F e sc s ≡ made x c t → convert_expr P F e sc s ≡ made x c t
cond_expr P F e sc s x c t q =
    let i = inv_lift (sym (cond_steps-is P F e sc s) ∙ q) in
    pick-made (eqb i.got bool_type) (convert_expr P F e sc) NotBool (place e) s x c t i.rest

pub assigned : (P : Program) (F : Functions) (sc : Scope) (r : ℕ) (e : Expr) (v : Variable) (s : State) (x : Scope) (c : Code) (t : State)
    → convert_assign P F r e v sc s ≡ made x c t → assign_to P F r e v sc s ≡ made x c t
unfolding convert_assign pick
assigned P F sc r e v s x c t q = go v.constant q
  where
    go : (b : Bool) → pick b (fail AssignToConstant r) (assign_to P F r e v sc) s ≡ made x c t → assign_to P F r e v sc s ≡ made x c t
    go true z = let w : ◌≡◌ {A = ℕ} 0 1 = cc in absurd (omega arith)
    go false z = z

no_return : (P : Program) (F : Functions) (r : ℕ) (e : Expr) (y : ℕ) (sc : Scope) (s : State) (x : Scope) (c : Code) (t : State) → return_as P F r e y sc none s ≡ made x c t → ⊥
unfolding return_as
no_return P F r e y sc s x c t q = let w : ◌≡◌ {A = ℕ} 0 1 = cc in omega arith

no-cast_statement : (P : Program) (F : Functions) (r : ℕ) (l : Args) (sc : Scope) (y : ℕ) (s : State) (u : Unit {0}) (c : Code) (t : State) → call_statement P F r l sc (CallCast y) s ≡ made u c t → ⊥
unfolding call_statement
no-cast_statement P F r l sc y s u c t q = let w : ◌≡◌ {A = ℕ} 0 1 = cc in omega arith

module _ {W : Type 0} (X : Ctx W) where
  -- ---- Declare

  -- the zero value: one instruction, which writes the rule's answer into x
  record Zeroed (x : VarId) (y : Ty) (s : State) (c : Code) (t : State) : Type 0 where
    pub instr : Instr
    pub code : c ≡ instr ∷ []
    pub grow : Grow s t
    pub clear : (n : ℕ) → is_label n instr ≡ false
    pub does : Within X t → (k : Code) (ρ : Vars W) (h : CallsMade W) → step X.rule X.answers (body X) (at (instr ∷ k) [] ρ h) ≡ put (zero_of X.prog X.rule x.ty y) x.id k [] ρ h

  zero-copy : {s : State} {u : Unit {0}} {c : Code} {t : State} (x : VarId) (y : Ty) (o : Operand) (l : Literal) → ((ρ : Vars W) → holding X ρ o ≡ constant l)
      → zero_of X.prog X.rule x.ty y ≡ X.rule.copy x.ty (read X.rule (constant l)) → emit (Copy x o) s ≡ made u c t → Zeroed x y s c t
  unfolding is_label step exec operand dat
  zero-copy {s} x y o l e z q =
      let i = inv_last q in
      record { instr = Copy x o; code = i.code; grow = rw i.st grow_refl; clear = λ n. refl; does = λ w k ρ h. rw (z, sym (e ρ)) refl }

  zero-entry : {s : State} {c : Code} {t : State} (x : VarId) (a : Bool) (i : ℕ) → c ≡ Copy x (OFloat i) ∷ [] → Grow s t
      → (Within X t → record { bits = 0; short = a } ≡ get_or X.floats i no_float) → Zeroed x (TFloat a) s c t
  unfolding is_label step exec operand dat datum zero_of
  zero-entry x a i e g f = record {
    instr = Copy x (OFloat i);
    code = e;
    grow = g;
    clear = λ n. refl;
    does = λ w k ρ h. ap (λ (z : FloatEntry). put (X.rule.copy x.ty (read X.rule (constant (FloatLiteral z.bits z.short)))) x.id k [] ρ h) (sym (f w));
  }

  zero_float_lem : (r : ℕ) (x : VarId) (a : Bool) (s : State) (u : Unit {0}) (c : Code) (t : State) → zero_value X.prog X.funs r x (TFloat a) s ≡ made u c t → Zeroed x (TFloat a) s c t
  zero_float_lem r x a s u c t q =
      let i = inv (sym (zero_float-is X.prog X.funs r x a s) ∙ q) in
      let f = ask_float i.first in
      let l = inv_last i.rest in
      zero-entry x a i.got (i.code ∙ (ap (λ z. z ++ i.c2) f.code ∙ l.code)) (rw l.st f.grow) (λ w. float_at X f (rw l.st at w))

  zero_array : (x : VarId) (a b : ℕ) (s : State) (u : Unit {0}) (c : Code) (t : State) → emit (Zero x) s ≡ made u c t → Zeroed x (TArray a b) s c t
  unfolding is_label step exec zero_of
  zero_array x a b s u c t q =
      let i = inv_last q in
      record { instr = Zero x; code = i.code; grow = rw i.st grow_refl; clear = λ n. refl; does = λ w k ρ h. refl }

  zeroed : (r : ℕ) (x : VarId) (y : Ty) (s : State) (u : Unit {0}) (c : Code) (t : State) → zero_value X.prog X.funs r x y s ≡ made u c t → Zeroed x y s c t
  unfolding zero_value zero_of dat datum
  zeroed r x (TInt a b) s u c t q = zero-copy x (TInt a b) (OInt (pos 0) a b) (IntLiteral (pos 0) a b) (λ ρ. refl) refl q
  zeroed r x (TFloat a) s u c t q = zero_float_lem r x a s u c t q
  zeroed r x TBool s u c t q = zero-copy x TBool (OBool false) (BoolLiteral false) (λ ρ. refl) refl q
  zeroed r x TChar s u c t q = zero-copy x TChar (OBool false) (BoolLiteral false) (λ ρ. refl) refl q
  zeroed r x TByte s u c t q = zero-copy x TByte (OBool false) (BoolLiteral false) (λ ρ. refl) refl q
  zeroed r x (TAddress a) s u c t q = zero-copy x (TAddress a) ONull NullLiteral (λ ρ. refl) refl q
  zeroed r x TNull s u c t q = zero-copy x TNull ONull NullLiteral (λ ρ. refl) refl q
  zeroed r x (TArray a b) s u c t q = zero_array x a b s u c t q
  zeroed r x (TCustom a) s u c t q = let w : ◌≡◌ {A = ℕ} 0 1 = cc in absurd (omega arith)

  declare-made : {c : Code} {t : State} (sc : Scope) (n : Text) (y : ℕ) (s : State) → find_in n sc.variables ≡ none → Zeroed (next_var y s) (X.prog.type_of y) (with_var y s) c t
      → GoodS X sc (λ x. 0) (record { name = n; ty = y } ∷ known sc.variables)
      (λ m σ h. store X.prog X.funs X.fun X.rule X.answers n (zero_of X.prog X.rule y (X.prog.type_of y)) σ h)
      s (with_variable (record { name = n; constant = false; var_id = next_var y s }) sc) c t
  unfolding with_variable known next_var count store
  declare-made {c} {t} sc n y s fresh Z =
      let v : Variable = record { name = n; constant = false; var_id = next_var y s } in
      let lt : length s.vars < length t.vars = omega (arith, with_var-length y s, Z.grow.vars) in
      good_s_as X refl Z.code refl (record {
        grow = grow_trans (with_var_grow y s) Z.grow;
        sub = sub-new v sc.variables fresh;
        loop = refl;
        func = refl;
        knows = refl;
        scoped = λ g. scoped-new v sc.variables (length s.vars) (length t.vars) (le_refl _) lt g;
        once = λ w m. omega (arith, ap bit (Z.clear m));
        sim = λ w g lvs il sb m k ρ σ h ag pl. s_bare X _ ρ (length s.vars) _ h (Z.does w k ρ h) λ w1.
            runs (write ρ (length s.vars) w1) (stay X) (agree_new σ ρ v w1 g (le_refl _) ag);
      })

  pub good-declare : (sc : Scope) (r : ℕ) (n : Text) (y : ℕ)
      → SoundS X sc (convert_declare X.prog X.funs r n y sc) (λ x. 0) (record { name = n; ty = y } ∷ known sc.variables)
      (λ m σ h. store X.prog X.funs X.fun X.rule X.answers n (zero_of X.prog X.rule y (X.prog.type_of y)) σ h)
  good-declare sc r n y s sc1 c t q =
      let i1 = inv_new (sym (declare_steps-is X.prog X.funs r n y sc s) ∙ q) in
      let i2 = inv_lift i1.rest in
      let i3 = inv_then i2.rest in
      let i4 = inv_pure i3.rest in
      let d = declared _ r sc i2.got i2.known in
      good_s_as X (i4.got ∙ d.scope) (i3.code ∙ (ap (λ z. i3.c1 ++ z) i4.code ∙ append-nil i3.c1)) i4.st
      (declare-made sc n y s d.fresh (zeroed r (next_var y s) (X.prog.type_of y) (with_var y s) i3.got i3.c1 i3.st i3.first))

  -- ---- Init

  assign-made : {z : ℕ → ℕ} {ev : Values W → CallsMade W → Got W (Datum W)} {s s1 t : State} {a a1 : Operand} {ca fa : Code} (sc : Scope) (n : Text) (v : Variable) → find_in n sc.variables ≡ some v
      → GoodE X Low (holding X) sc.variables z ev s a ca s1
      → Fitted X (Low s1 a) Low (holding X) (λ ρ h. fit X.prog X.rule v.var_id.ty (holding X ρ a) h) s1 a1 fa t
      → GoodS X sc z (known sc.variables)
      (λ m σ h. bind_o (ev σ h) λ u h1. bind_o (fit X.prog X.rule v.var_id.ty u h1) λ u1 h2.
      store X.prog X.funs X.fun X.rule X.answers n (X.rule.copy v.var_id.ty (read X.rule u1)) σ h2)
      s sc (ca ++ (fa ++ (Copy v.var_id a1 ∷ []))) t
  unfolding count is_label step exec operand dat store
  assign-made {ev = ev} {s} {s1} {t} {a} {a1} {ca} {fa} sc n v fd G H = record {
    grow = grow_trans G.grow H.grow;
    sub = sub_refl;
    loop = refl;
    func = refl;
    knows = refl;
    scoped = λ g. scoped_mono (omega (arith, G.grow.vars, H.grow.vars)) g;
    once = λ w m. simp count-append (omega (arith, G.once (within_back X H.grow w) m, H.clear m));
    sim = λ w g lvs il sb m k ρ σ h ag. rw (append_assoc ca _ k, append_assoc fa _ k) λ pl.
        s_bind_o X _ (G.sim (within_back X H.grow w) g _ ρ σ h ag pl) λ ρ1 h1 f1.
        s_bind_o X _ (H.sim (G.low g) w _ ρ1 h1) λ ρ2 h2 f2.
        s_bare X _ ρ2 v.var_id.id _ h2 refl λ w1. runs (write ρ2 v.var_id.id w1) (stay X)
        (agree_set σ ρ2 n v w1 g fd (agree_frame g (λ x b. f2 x (omega (arith, G.grow.vars))) (agree_frame g f1 ag)));
  }

  good-assign : (sc : Scope) (r : ℕ) (n : Text) (e : Expr) (v : Variable) → find_in n sc.variables ≡ some v
      → SoundS X sc (convert_assign X.prog X.funs r e v sc) (opens_e e) (known sc.variables)
      (λ m σ h. Tree.assign X.prog X.funs X.fun X.rule X.answers n v.var_id.ty e (known sc.variables) σ h)
  unfolding Tree.assign
  good-assign sc r n e v fd s sc1 c t q =
      let i1 = inv (sym (assign_steps-is X.prog X.funs r e v sc s) ∙ assigned X.prog X.funs sc r e v s sc1 c t q) in
      let i2 = inv_lift i1.rest in
      let i3 = inv_then i2.rest in
      let k3 = quiet i3 (check_quiet X.prog X.funs e _ _ _ r _ i3.got i3.c1 i3.st i3.first) in
      let i4 = inv k3.rest in
      let i5 = inv_emit i4.rest in
      let i6 = inv_pure i5.rest in
      good_s_as X i6.got (join_s i1 (join_s i4 (join_e i5.code i6.code))) i6.st
      (assign-made sc n v fd (good_e X sc e s i1.got i1.c1 i1.st i1.first) (good-fit X i1.got v.var_id.ty i1.st _ _ _ i4.first))

  init_made : {z : ℕ → ℕ} {ev : Values W → CallsMade W → Got W (Datum W)} {s s1 : State} {a : Operand} {ca : Code} (sc : Scope) (b : Bool) (n : Text) (y : ℕ) → find_in n sc.variables ≡ none
      → GoodE X Low (holding X) sc.variables z ev s a ca s1
      → GoodS X sc z (record { name = n; ty = y } ∷ known sc.variables)
      (λ m σ h. bind_o (ev σ h) λ u h1. store X.prog X.funs X.fun X.rule X.answers n (X.rule.copy y (read X.rule u)) σ h1)
      s (with_variable (record { name = n; constant = b; var_id = next_var y s1 }) sc) (ca ++ (Copy (next_var y s1) a ∷ [])) (with_var y s1)
  unfolding with_variable known next_var count is_label step exec operand dat store
  init_made {s = s} {s1} {a} {ca} sc b n y fresh G =
      let v : Variable = record { name = n; constant = b; var_id = next_var y s1 } in
      let gv = with_var_grow y s1 in
      record {
        grow = grow_trans G.grow gv;
        sub = sub-new v sc.variables fresh;
        loop = refl;
        func = refl;
        knows = refl;
        scoped = λ g. scoped-new v sc.variables (length s.vars) (length (with_var y s1).vars) G.grow.vars (omega (arith, with_var-length y s1)) g;
        once = λ w m. simp count-append (omega (arith, G.once (within_back X gv w) m));
        sim = λ w g lvs il sb m k ρ σ h ag. rw (append_assoc ca _ k) λ pl.
            s_bind_o X _ (G.sim (within_back X gv w) g _ ρ σ h ag pl) λ ρ1 h1 f1.
            s_bare X _ ρ1 (length s1.vars) _ h1 refl λ w1.
            runs (write ρ1 (length s1.vars) w1) (stay X) (agree_new σ ρ1 v w1 g G.grow.vars (agree_frame g f1 ag));
      }

  -- where typing gives y
  typed_s : {sc : Scope} {z : ℕ → ℕ} {N : List KnownName} {s : State} {x : Scope} {c : Code} {t : State} {Q : Type 0} (u : Result Q) (y : Q) (ev : Q → ℕ → Values W → CallsMade W → Ran W)
      → u ≡ ok y → GoodS X sc z N (ev y) s x c t → GoodS X sc z N (λ n σ h. typed_o u h (λ a. ev a n σ h)) s x c t
  unfolding typed_o
  typed_s u y ev e g = rw e g

  named : {sc : Scope} {z : ℕ → ℕ} {N M : List KnownName} {ev : ℕ → Values W → CallsMade W → Ran W} {s : State} {x : Scope} {c : Code} {t : State} → M ≡ N → GoodS X sc z N ev s x c t → GoodS X sc z M ev s x c t
  named e g = rw e g

  with_new_lem : (n : Text) (u : Result ℕ) (y : ℕ) (N : List KnownName) → u ≡ ok y
      → with_new X.prog X.funs X.fun X.rule X.answers n u N ≡ record { name = n; ty = pick (eqb y null_type) address_of_null y } ∷ N
  unfolding with_new new_type
  with_new_lem n u y N e = rw e refl

  good_new : (sc : Scope) (r : ℕ) (b : Bool) (n : Text) (e : Expr)
      → SoundS X sc (init_new X.prog X.funs r b n e sc) (opens_e e)
      (with_new X.prog X.funs X.fun X.rule X.answers n (get_type X.prog X.funs e (scope_of X.fun (known sc.variables))) (known sc.variables))
      (λ m σ h. introduce X.prog X.funs X.fun X.rule X.answers n e (known sc.variables) σ h)
  unfolding introduce new_type
  good_new sc r b n e s sc1 c t q =
      let i1 = inv_lift (sym (init_steps-is X.prog X.funs r b n e sc s) ∙ q) in
      let i2 = inv i1.rest in
      let i3 = inv_new i2.rest in
      let i4 = inv_lift i3.rest in
      let i5 = inv_emit i4.rest in
      let i6 = inv_pure i5.rest in
      let d = declared _ r sc i4.got i4.known in
      let ty = typing X.prog X.funs X.fun sc e ∙ i1.known in
      named (with_new_lem n _ i1.got (known sc.variables) ty)
      (typed_s _ i1.got (λ y m σ h. bind_o (eval_expr X.prog X.funs X.fun X.rule X.answers e (known sc.variables) σ h) λ u h1.
      store X.prog X.funs X.fun X.rule X.answers n (X.rule.copy (pick (eqb y null_type) address_of_null y) (read X.rule u)) σ h1) ty
      (good_s_as X (i6.got ∙ d.scope) (join_s i2 (join_e i5.code i6.code)) i6.st
      (init_made sc b n (pick (eqb i1.got null_type) address_of_null i1.got) d.fresh (good_e X sc e s i2.got i2.c1 i2.st i2.first))))

  init_by_lem : (sc : Scope) (r : ℕ) (b : Bool) (n : Text) (e : Expr) (o : Option Variable) → find_in n sc.variables ≡ o
      → SoundS X sc (init_by X.prog X.funs r b n e sc o) (opens_e e)
      (known_init X.prog X.funs X.fun X.rule X.answers b (found_type o) n (get_type X.prog X.funs e (scope_of X.fun (known sc.variables))) (known sc.variables))
      (λ m σ h. initialise X.prog X.funs X.fun X.rule X.answers b (found_type o) n e (known sc.variables) σ h)
  unfolding init_by known_init initialise found_type
  init_by_lem sc r false n e (some v) f s x c t q = good-assign sc r n e v f s x c t q
  init_by_lem sc r false n e none f s x c t q = good_new sc r false n e s x c t q
  init_by_lem sc r true n e o f s x c t q = good_new sc r true n e s x c t q

  pub good_init : (sc : Scope) (r : ℕ) (b : Bool) (n : Text) (e : Expr)
      → SoundS X sc (convert_init X.prog X.funs r b n e sc) (opens_e e)
      (known_init X.prog X.funs X.fun X.rule X.answers b (known_type n (known sc.variables)) n (get_type X.prog X.funs e (scope_of X.fun (known sc.variables))) (known sc.variables))
      (λ m σ h. initialise X.prog X.funs X.fun X.rule X.answers b (known_type n (known sc.variables)) n e (known sc.variables) σ h)
  unfolding convert_init
  good_init sc r b n e = rw (type-known n sc.variables) (init_by_lem sc r b n e (find_in n sc.variables) refl)

  -- ---- Return

  return-made : {z : ℕ → ℕ} {ev : Values W → CallsMade W → Got W (Datum W)} {s s1 t : State} {a a1 : Operand} {ca fa : Code} (sc : Scope) (y : ℕ) → X.fun.return_type ≡ some y
      → GoodE X Low (holding X) sc.variables z ev s a ca s1
      → Fitted X (Low s1 a) Low (holding X) (λ ρ h. fit X.prog X.rule y (holding X ρ a) h) s1 a1 fa t
      → GoodS X sc z (known sc.variables)
      (λ m σ h. bind_o (ev σ h) λ u h1. bind_o (fit X.prog X.rule y u h1) λ u1 h2. bind_o (bare (X.rule.return (some y) (read X.rule u1)) h2) λ v h3. returned v h3)
      s sc (ca ++ (fa ++ (Return a1 ∷ []))) t
  unfolding count is_label step exec operand dat
  return-made {ev = ev} {s} {s1} {t} {a} {a1} {ca} {fa} sc y ry G H = record {
    grow = grow_trans G.grow H.grow;
    sub = sub_refl;
    loop = refl;
    func = refl;
    knows = refl;
    scoped = λ g. scoped_mono (omega (arith, G.grow.vars, H.grow.vars)) g;
    once = λ w m. simp count-append (omega (arith, G.once (within_back X H.grow w) m, H.clear m));
    sim = λ w g lvs il sb m k ρ σ h ag. rw (append_assoc ca _ k, append_assoc fa _ k, ← ry) λ pl.
        s_bind_o X _ (G.sim (within_back X H.grow w) g _ ρ σ h ag pl) λ ρ1 h1 f1.
        s_bind_o X _ (H.sim (G.low g) w _ ρ1 h1) λ ρ2 h2 f2.
        s_finish X h2 _ refl;
  }

  return_as_lem : (sc : Scope) (r : ℕ) (e : Expr) (y : ℕ) (o : Option ℕ) → X.fun.return_type ≡ o
      → SoundS X sc (return_as X.prog X.funs r e y sc o) (opens_e e) (known sc.variables)
      (λ m σ h. give_back X.prog X.funs X.fun X.rule X.answers o e (known sc.variables) σ h)
  unfolding give_back
  return_as_lem sc r e y none f s x c t q = absurd (no_return X.prog X.funs r e y sc s x c t q)
  return_as_lem sc r e y (some u) f s x c t q =
      let i1 = inv_then (sym (return_steps-is X.prog X.funs r e y sc u s) ∙ q) in
      let k1 = quiet i1 (check_quiet X.prog X.funs e _ _ _ r _ i1.got i1.c1 i1.st i1.first) in
      let i2 = inv k1.rest in
      let i3 = inv i2.rest in
      let i4 = inv_emit i3.rest in
      let i5 = inv_pure i4.rest in
      good_s_as X i5.got (join_s i2 (join_s i3 (join_e i4.code i5.code))) i5.st
      (return-made sc u f (good_e X sc e s i2.got i2.c1 i2.st i2.first) (good-fit X i2.got u i2.st _ _ _ i3.first))

  pub good-return : (sc : Scope) (r : ℕ) (e : Expr) → sc.function ≡ X.fun
      → SoundS X sc (convert_return X.prog X.funs r e sc) (opens_e e) (known sc.variables)
      (λ m σ h. give_back X.prog X.funs X.fun X.rule X.answers X.fun.return_type e (known sc.variables) σ h)
  good-return sc r e fe s x c t q =
      let i = inv_lift (sym (return_typed-is X.prog X.funs r e sc s) ∙ q) in
      return_as_lem sc r e i.got X.fun.return_type refl s x c t (subst (λ (g : Function). return_as X.prog X.funs r e i.got sc g.return_type s ≡ made x c t) fe i.rest)

  -- ---- call statements

  invoke_made : {z : ℕ → ℕ} {ev : Values W → CallsMade W → Got W (List (Datum W))} {s s1 t : State} {os us : List Operand} {ca fs : Code} (sc : Scope) (l : Args) (g : Function)
      → GoodE X Lows (holdings X) sc.variables z ev s os ca s1
      → Fitted X (Lows s1 os) Lows (holdings X) (λ ρ h. fit_arguments X.prog X.rule 0 (holdings X ρ os) l g h) s1 us fs t
      → GoodS X sc z (known sc.variables)
      (λ m σ h. bind_o (ev σ h) λ vs h1. bind_o (fit_arguments X.prog X.rule 0 vs l g h1) λ ws h2.
      bind_o (handed (X.answers h2 g.rec_of none (read_all X.rule ws)).0 (h2 ++ (X.answers h2 g.rec_of none (read_all X.rule ws)).1)) λ v h3. normal σ h3)
      s sc (ca ++ (fs ++ (arg_code us ++ (Call none g.rec_of ∷ [])))) t
  unfolding count is_label step exec
  invoke_made {ev = ev} {s} {s1} {t} {os} {us} {ca} {fs} sc l g G H = record {
    grow = grow_trans G.grow H.grow;
    sub = sub_refl;
    loop = refl;
    func = refl;
    knows = refl;
    scoped = λ g. scoped_mono (omega (arith, G.grow.vars, H.grow.vars)) g;
    once = λ w m. simp (count-append, args_clear) (omega (arith, G.once (within_back X H.grow w) m, H.clear m));
    sim = λ w g1 lvs il sb m k ρ σ h ag. rw (append_assoc ca _ k, append_assoc fs _ k, append_assoc (arg_code us) _ k) λ pl.
        s_bind_o X _ (G.sim (within_back X H.grow w) g1 _ ρ σ h ag pl) λ ρ1 h1 f1.
        s_bind_o X _ (H.sim (G.low g1) w _ ρ1 h1) λ ρ2 h2 f2.
        s_before X (push X.rule X.answers (body X) us _ [] ρ2 h2)
        (s_pass X _ _ (agree_frame g1 (λ x b. f2 x (omega (arith, G.grow.vars))) (agree_frame g1 f1 ag)) refl);
  }

  call_by : (sc : Scope) (r : ℕ) (l : Args) (callee : Callee) (s : State) (u : Unit {0}) (c : Code) (t : State) → call_statement X.prog X.funs r l sc callee s ≡ made u c t
      → GoodS X sc (opens_a l) (known sc.variables) (λ m σ h. call_only X.prog X.funs X.fun X.rule X.answers callee l (known sc.variables) σ h) s sc c t
  unfolding call_only
  call_by sc r l (CallCast y) s u c t q = absurd (no-cast_statement X.prog X.funs r l sc y s u c t q)
  call_by sc r l (CallFunction g) s u c t q =
      let i1 = inv (sym (call_only_steps-is X.prog X.funs r l sc g s) ∙ q) in
      let k = called X.prog X.funs none g l i1.got i1.st u i1.c2 t i1.rest in
      good_s_as X refl (join_s i1 k.code) refl
      (invoke_made sc l g (good_a X sc l s i1.got i1.c1 i1.st i1.first) (good-fits X 0 i1.got l g i1.st _ _ _ k.fitted))

  call-made : (sc : Scope) (r d : ℕ) (verb : Text) (l : Args)
      → SoundS X sc (convert_call X.prog X.funs r (ECall d verb l) sc) (opens_a l) (known sc.variables)
      (λ m σ h. typed_o (resolve_call X.prog X.funs verb l (scope_of X.fun (known sc.variables)) d) h λ callee.
      call_only X.prog X.funs X.fun X.rule X.answers callee l (known sc.variables) σ h)
  call-made sc r d verb l s x c t q =
      let i1 = inv_lift (sym (call_statement_steps-is X.prog X.funs r d verb l sc s) ∙ q) in
      let i2 = inv_then i1.rest in
      let i3 = inv_pure i2.rest in
      typed_s _ i1.got (λ callee m σ h. call_only X.prog X.funs X.fun X.rule X.answers callee l (known sc.variables) σ h)
      (resolving X.prog X.funs X.fun sc verb l d ∙ i1.known)
      (good_s_as X i3.got (i2.code ∙ (ap (λ z. i2.c1 ++ z) i3.code ∙ append-nil i2.c1)) i3.st
      (call_by sc r l i1.got s i2.got i2.c1 i2.st i2.first))

  -- nothing is done
  kept-made : (sc : Scope) (z : ℕ → ℕ) (s : State) → GoodS X sc z (known sc.variables) (λ m σ h. normal σ h) s sc [] s
  unfolding count
  kept-made sc z s = record {
    grow = grow_refl;
    sub = sub_refl;
    loop = refl;
    func = refl;
    knows = refl;
    scoped = λ g. g;
    once = λ w m. omega arith;
    sim = λ w g lvs il sb m k ρ σ h ag pl. runs ρ (stay X) ag;
  }

  no_call : (sc : Scope) (e : Expr) (z : ℕ → ℕ) (s : State) (x : Scope) (c : Code) (t : State) → (lift (get_type X.prog X.funs e sc) >>= λ y. pure sc) s ≡ made x c t
      → GoodS X sc z (known sc.variables) (λ m σ h. normal σ h) s x c t
  no_call sc e z s x c t q =
      let i1 = inv_lift q in
      let i2 = inv_pure i1.rest in
      good_s_as X i2.got i2.code i2.st (kept-made sc z s)

  pub good-call_statement : (sc : Scope) (r : ℕ) (e : Expr)
      → SoundS X sc (convert_call X.prog X.funs r e sc) (opens_e e) (known sc.variables)
      (λ m σ h. Tree.run_call X.prog X.funs X.fun X.rule X.answers e (known sc.variables) σ h)
  unfolding convert_call Tree.run_call opens_e
  good-call_statement sc r (ECall d verb l) s x c t q = call-made sc r d verb l s x c t q
  good-call_statement sc r (EInt a b d e) s x c t q = no_call sc (EInt a b d e) _ s x c t q
  good-call_statement sc r (EFloat a b d) s x c t q = no_call sc (EFloat a b d) _ s x c t q
  good-call_statement sc r (EStr a b d e) s x c t q = no_call sc (EStr a b d e) _ s x c t q
  good-call_statement sc r (EBool a b) s x c t q = no_call sc (EBool a b) _ s x c t q
  good-call_statement sc r (EName a b) s x c t q = no_call sc (EName a b) _ s x c t q
  good-call_statement sc r (ENull a) s x c t q = no_call sc (ENull a) _ s x c t q
  good-call_statement sc r (ESizeOf a b) s x c t q = no_call sc (ESizeOf a b) _ s x c t q
  good-call_statement sc r (EUnary a b d) s x c t q = no_call sc (EUnary a b d) _ s x c t q
  good-call_statement sc r (EBinary a b d e) s x c t q = no_call sc (EBinary a b d e) _ s x c t q
