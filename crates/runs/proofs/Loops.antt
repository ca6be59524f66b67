-- Converted loops do what the tree's run says: as many turns as the tree makes, and on if that is unfinished.
-- By induction on the turns that are left.
use mathlib.Core.Path.{◌≡◌, refl, sym, ◌∙◌, ap, subst}
use mathlib.Core.List.{List, [], ◌∷◌, ◌++◌, append_assoc}
use mathlib.Core.Option.{Option, none, some}
use mathlib.Core.Bool.{Bool, true, false}
use Prim.Native.Nat.{ℕ, zero, suc, ◌+◌, ◌≤◌}
use native.Mathlib.Nat.{le_refl}
use native.Mathlib.Omega.{arith}
use lib.Dec.{eqb}
use lib.IntN.{pos}
use lib.ListN.{length}
use Rattle.laws.specs.Fix.{pick}
use Rattle.syntax.specs.Syntax.{Text, Ty, TInt, TFloat, TBool, TChar, TByte, TAddress, TArray, TCustom, TNull, Lt, Add, Expr, bool_type}
use Rattle.conversion.specs.ConvertError.{AssignToConstant, NotInteger}
use Rattle.conversion.specs.Types.{on_int}
use Rattle.conversion.specs.Ir.{Operand, OVar, OInt, Copy, Binary, Label, Jump, JumpIfNot, loop_start, loop_end, loop_check, State, made, M, fail}
use Rattle.conversion.specs.Scope.{Variable, Scope, find_in, with_variable, with_loop}
use Rattle.conversion.specs.Statements.{convert_while_loop, for_loop, for_int, for_known, convert_for_loop}
use Rattle.runs.specs.Rule.{CallsMade, IntLiteral, Datum, read}
use Rattle.runs.specs.TreeRun as Tree
use Rattle.runs.specs.TreeRun.{KnownName, Values, set, known_type, Got, Ran, stopped, bare, bind_o, fit, eval_expr, run_while, rounds, for_over}
use Rattle.runs.specs.BodyRun.{Vars, write, datum, is_label, operand}
use Rattle.runs.proofs.Opens.{bit, opens_e}
use Rattle.runs.proofs.Machine.{Code, at, write_same, write-other, count, count-append, goto, Placed, placed-drop, aim, aim_at, branch, exec, step, dat, one}
use Rattle.runs.proofs.Invert.{Grow, grow_refl, grow_trans, inv, inv_then, inv_pure, inv_emit, inv_lift, inv_new, inv_label, quiet, join_e, join_s, AskedLabel, next_var, with_var, with_var-length, with_var_grow}
use Rattle.runs.proofs.Texts.{kinds-once}
use Rattle.runs.proofs.Names.{known, found_type, type-known, Scoped, scoped_mono, scoped-new, Sub, sub_refl, sub-new, find-same, Agree, agree_frame, agree_sub, agree_set, agree_new, declared}
use Rattle.conversion.proofs.Steps.{while_steps-is, for_steps-is, for_rest, for_new_steps-is}
use Rattle.runs.proofs.Sim.{Ctx, Low, within_back, num_same, num_of, name_of, num_count, stay, go1, go_label, holding, SimE, GoodE}
use Rattle.runs.proofs.Exprs.{Fitted, good-fit, good_e}
use Rattle.runs.proofs.SimS.{SimS, runs, long, s_later, s_before, s_bind_o, s_bare, s_bind_t, s_test, inside, GoodS, SoundS, good_s_as}
use Rattle.runs.proofs.Stmts.{cond_expr, bound_quiet}

no_int : (r : ℕ) (s : State) (x : Scope) (c : Code) (t : State) → fail NotInteger r s ≡ made x c t → ⊥
unfolding fail
no_int r s x c t q = let w : ◌≡◌ {A = ℕ} 0 1 = cc in omega arith

not-constant : (b : Bool) (r : ℕ) (m : M Scope) (s : State) (x : Scope) (c : Code) (t : State) → pick b (fail AssignToConstant r) m s ≡ made x c t → m s ≡ made x c t
unfolding pick fail
not-constant true r m s x c t q = let w : ◌≡◌ {A = ℕ} 0 1 = cc in absurd (omega arith)
not-constant false r m s x c t q = q

module _ {W : Type 0} (X : Ctx W) where
  -- ---- While: vs are the names, over the variables below t; o the condition's operand; ls, le the labels

  module _ (n : ℕ) (o : Operand) (co cb : Code) {vs us : List Variable} {t ls le : ℕ} {ev : Values W → CallsMade W → Got W (Datum W)} {evb : Values W → CallsMade W → Ran W}
      (g : Scoped vs t) (sub : Sub vs us)
      (Hc : (k : Code) (ρ : Vars W) (σ : Values W) (h : CallsMade W) → Agree vs σ ρ → Placed X.code (co ++ k) → SimE X (at (co ++ k) [] ρ h) k t ρ (λ ρ'. holding X ρ' o) (ev σ h))
      (Hb : (k : Code) (ρ : Vars W) (σ : Values W) (h : CallsMade W) → Agree vs σ ρ → Placed X.code (cb ++ k) → SimS X n true vs ls le (at (cb ++ k) [] ρ h) k us (evb σ h))
      (k : Code) (pl : Placed X.code (Label ls ∷ (co ++ (JumpIfNot o le ∷ (cb ++ (Jump ls ∷ Label le ∷ k)))))) where
    while_turns : {lp : Bool} {lvs : List Variable} {ls0 le0 : ℕ} (m : ℕ) → m ≤ n → (ρ : Vars W) (σ : Values W) (h : CallsMade W) → Agree vs σ ρ
        → SimS X m lp lvs ls0 le0 (aim (goto X.code ls) [] ρ h) k vs (run_while X.prog X.funs X.fun X.rule X.answers m ev evb σ h)
    unfolding run_while step exec aim go1 one operand dat
    while_turns zero i ρ σ h ag = rw pl.0 (long _ [] ρ (stay X) (omega arith))
    while_turns (suc m) i ρ σ h ag = rw pl.0
        (let pb = (placed-drop X.code co _ pl.1).1 in
        let pe = (placed-drop X.code cb _ pb).1.0 in
        s_later X {n = m} (go1 X refl) (omega arith)
        (s_bind_o X _ (Hc _ ρ σ h ag pl.1) λ ρ1 h1 f1.
        s_test X _ (goto X.code le) refl
        (s_bind_t X _ (omega arith) sub sub_refl (Hb _ ρ1 σ h1 (agree_frame g f1 ag) pb)
        (λ ρ2 h2. go1 X refl) (λ ρ2 h2. go_label X pe)
        (λ σ2 ρ2 h2 a2. while_turns m (omega arith) ρ2 σ2 h2 a2))
        (runs ρ1 (go_label X pe) (agree_frame g f1 ag))))

  while_made : {z za : ℕ → ℕ} {N : List KnownName} {ev : Values W → CallsMade W → Got W (Datum W)} {evb : ℕ → Values W → CallsMade W → Ran W} {s s1 s2 s3 s4 s5 t : State} {o : Operand} {co cb : Code}
      {ls le m1 m2 : ℕ} {sb : Scope} (r : ℕ) (sc : Scope) → AskedLabel (loop_start r) s ls s1 → GoodE X Low (holding X) sc.variables z ev s1 o co s2 → AskedLabel (loop_end r) s2 le s3
      → GoodS X (with_loop r sc) za N evb s3 sb cb s4 → AskedLabel (loop_start r) s4 m1 s5 → AskedLabel (loop_end r) s5 m2 t
      → GoodS X sc (λ x. bit (eqb x r) + (z x + za x)) (known sc.variables) (λ i σ h. run_while X.prog X.funs X.fun X.rule X.answers i ev (evb i) σ h)
      s sc (Label ls ∷ (co ++ (JumpIfNot o le ∷ (cb ++ (Jump m1 ∷ Label m2 ∷ []))))) t
  unfolding count is_label with_loop
  while_made {s = s} {s1} {s2} {s3} {s4} {s5} {t} {o} {co} {cb} {ls} {le} {m1} {m2} r sc l1 G l3 H l5 l6 =
      let g3 = grow_trans G.grow l3.grow in
      let g6 = grow_trans l5.grow l6.grow in
      let n1 : length s.vars ≤ length s1.vars = l1.grow.vars in
      let n3 : length s.vars ≤ length s3.vars = omega (arith, n1, g3.vars) in
      record {
        grow = grow_trans l1.grow (grow_trans g3 (grow_trans H.grow g6));
        sub = sub_refl;
        loop = refl;
        func = refl;
        knows = refl;
        scoped = λ g. scoped_mono (omega (arith, n3, H.grow.vars, g6.vars)) g;
        once = λ w x.
            let w4 = within_back X g6 w in
            let w3 = within_back X H.grow w4 in
            let w2 = within_back X l3.grow w3 in
            simp count-append (omega (
              arith,
              G.once w2 x,
              H.once w4 x,
              num_count X (loop_start r) ls x (num_of X l1 (within_back X G.grow w2)),
              num_count X (loop_end r) m2 x (num_of X l6 w),
              kinds-once 1 2 3 (name_of X x) r (λ e. omega arith) (λ e. omega arith) (λ e. omega arith),
            ));
        sim = λ w g lvs il sb i k ρ σ h ag.
            let w5 = within_back X l6.grow w in
            let w4 = within_back X l5.grow w5 in
            let w3 = within_back X H.grow w4 in
            let w2 = within_back X l3.grow w3 in
            let ns = num_of X l1 (within_back X G.grow w2) in
            let ne = num_of X l3 w3 in
            let e1 : m1 ≡ ls = num_same X (num_of X l5 w5) ns in
            let e2 : m2 ≡ le = num_same X (num_of X l6 w) ne in
            rw (append_assoc co _ k, append_assoc cb _ k, e1, e2) λ pl.
            rw (← aim_at (goto X.code ls) _ [] ρ h pl.0) (while_turns i o co cb (scoped_mono n1 g) H.sub (λ k1 ρ1 σ1 h1 a1 p1. G.sim w2 (scoped_mono n1 g) k1 ρ1 σ1 h1 a1 p1)
            (λ k1 ρ1 σ1 h1 a1 p1. H.sim w4 (scoped_mono n3 g) sc.variables (inside ns ne) sub_refl i k1 ρ1 σ1 h1 a1 p1) k pl i (le_refl i) ρ σ h ag);
      }

  pub good_while : (sc : Scope) (r : ℕ) (e : Expr) (m : M Scope) (za : ℕ → ℕ) (N : List KnownName) (evb : ℕ → Values W → CallsMade W → Ran W) → SoundS X (with_loop r sc) m za N evb
      → SoundS X sc (convert_while_loop X.prog X.funs r e sc m) (λ x. bit (eqb x r) + (opens_e e x + za x)) (known sc.variables)
      (λ i σ h. run_while X.prog X.funs X.fun X.rule X.answers i
      (λ σ1 h1. eval_expr X.prog X.funs X.fun X.rule X.answers e (known sc.variables) σ1 h1) (evb i) σ h)
  good_while sc r e m za N evb H s x c t q =
      let i1 = inv_label (sym (while_steps-is X.prog X.funs r e sc m s) ∙ q) in
      let i2 = inv_emit i1.rest in
      let i3 = inv i2.rest in
      let i4 = inv_label i3.rest in
      let i5 = inv_emit i4.rest in
      let i6 = inv_then i5.rest in
      let i7 = inv_label i6.rest in
      let i8 = inv_emit i7.rest in
      let i9 = inv_label i8.rest in
      let i10 = inv_emit i9.rest in
      let i11 = inv_pure i10.rest in
      good_s_as X i11.got (join_e i2.code (join_s i3 (join_e i5.code (join_s i6 (join_e i8.code (join_e i10.code i11.code)))))) i11.st
      (while_made r sc i1.asked (good_e X sc e i1.st i3.got i3.c1 i3.st (cond_expr X.prog X.funs e sc i1.st i3.got i3.c1 i3.st i3.first)) i4.asked
      (H i4.st i6.got i6.c1 i6.st i6.first) i7.asked i9.asked)

  -- ---- For over the name nm, whose variable is v: vs are the names around, ds, over the variables below t0, those of the body; u the bound's operand,
  -- fitted u1; the test is written into the variable t3; mk, ls, le are the labels of the check, the start, the end

  module _ (n : ℕ) (nm : Text) (v : Variable) (short unsigned : Bool) (u u1 : Operand) (t3 : ℕ) (cu fu cb : Code) {vs ds us : List Variable} {t0 t1 t2 mk ls le : ℕ}
      {ev : Values W → CallsMade W → Got W (Datum W)} {evb : Values W → CallsMade W → Ran W}
      (gd : Scoped ds t0) (n1 : t0 ≤ t1) (n2 : t0 ≤ t2) (n3 : t0 ≤ t3) (sx : find_in nm ds ≡ some v) (sub : Sub vs ds) (inner : Sub ds us)
      (Hu : (k : Code) (ρ : Vars W) (σ : Values W) (h : CallsMade W) → Agree vs σ ρ → Placed X.code (cu ++ k) → SimE X (at (cu ++ k) [] ρ h) k t1 ρ (λ ρ'. holding X ρ' u) (ev σ h))
      (Hf : (k : Code) (ρ : Vars W) (h : CallsMade W) → SimE X (at (fu ++ k) [] ρ h) k t2 ρ (λ ρ'. holding X ρ' u1) (fit X.prog X.rule v.var_id.ty (holding X ρ u) h))
      (Hb : (k : Code) (ρ : Vars W) (σ : Values W) (h : CallsMade W) → Agree ds σ ρ → Placed X.code (cb ++ k) → SimS X n true ds ls le (at (cb ++ k) [] ρ h) k us (evb σ h))
      (k : Code) (pl : Placed X.code (Label ls ∷ Binary v.var_id Add (OVar v.var_id) (OInt (pos 1) short unsigned) ∷ Label mk ∷ (cu ++ (fu ++ (Binary (record { id = t3; ty = bool_type }) Lt (OVar v.var_id) u1
      ∷ JumpIfNot (OVar (record { id = t3; ty = bool_type })) le ∷ (cb ++ (Jump ls ∷ Label le ∷ k))))))) where
    for_rounds : {lp : Bool} {lvs : List Variable} {ls0 le0 : ℕ} (m : ℕ) → m ≤ n → (ρ : Vars W) (σ : Values W) (h : CallsMade W) → Agree ds σ ρ
        → SimS X m lp lvs ls0 le0 (aim (goto X.code mk) [] ρ h) k vs (rounds X.prog X.funs X.fun X.rule X.answers m nm v.var_id.ty (IntLiteral (pos 1) short unsigned) ev evb σ h)
    unfolding rounds step exec aim go1 one operand dat datum read
    for_rounds zero i ρ σ h ag = rw pl.1.1.0 (long _ [] ρ (stay X) (omega arith))
    for_rounds (suc m) i ρ σ h ag = rw pl.1.1.0
        (let pf = placed-drop X.code cu _ pl.1.1.1 in
        let pb = (placed-drop X.code fu _ pf).1.1 in
        let pe = (placed-drop X.code cb _ pb).1.0 in
        s_later X {n = m} (go1 X refl) (omega arith)
        (s_bind_o X _ (Hu _ ρ σ h (agree_sub sub ag) pl.1.1.1) λ ρ1 h1 f1.
        s_bind_o X _ (Hf _ ρ1 h1) λ ρ2 h2 f2.
        let a2 : Agree ds σ ρ2 = agree_frame gd (λ z c. f2 z (omega (arith, n2)) ∙ f1 z (omega (arith, n1))) ag in
        rw (sym (a2.same nm v sx))
        (s_bare X _ ρ2 t3 _ h2 refl λ w.
        let a3 : Agree ds σ (write ρ2 t3 w) = agree_frame gd (λ z c. write-other ρ2 t3 z w (omega (arith, n3))) a2 in
        s_test X _ (goto X.code le) (ap (λ z. branch (X.rule.truth (bool_type, z)) (cb ++ (Jump ls ∷ Label le ∷ k)) (goto X.code le) [] (write ρ2 t3 w) h2) (write_same ρ2 t3 w))
        (s_bind_t X _ (omega arith) inner sub (Hb _ (write ρ2 t3 w) σ h2 a3 pb)
        (λ ρ4 h4. go1 X refl) (λ ρ4 h4. go_label X pe)
        (λ σ4 ρ4 h4 a4. rw pl.0 (s_before X (go1 X refl)
        (rw (sym (a4.same nm v sx))
        (s_bare X _ ρ4 v.var_id.id _ h4 refl λ w1.
        rw (← aim_at (goto X.code mk) _ [] (write ρ4 v.var_id.id w1) h4 pl.1.1.0) (for_rounds m (omega arith) (write ρ4 v.var_id.id w1) (set σ4 nm w1) h4 (agree_set σ4 ρ4 nm v w1 gd sx a4)))))))
        (runs (write ρ2 t3 w) (go_label X pe) (agree_sub sub a3)))))

  -- the whole For, in the scope sc from s on; sd is the scope of its body, s0 the state in which its variable is there
  for_made : {z zu zb : ℕ → ℕ} {N : List KnownName} {ev evu : Values W → CallsMade W → Got W (Datum W)} {evb : ℕ → Values W → CallsMade W → Ran W}
      {s s0 s1 s2 s3 s4 s5 s6 s7 s9 s10 s11 t : State} {a a1 u u1 : Operand} {ca fa cu fu cb : Code} {m1 ls mk le m2 m3 : ℕ} {sb : Scope}
      (r : ℕ) (sc sd : Scope) (nm : Text) (v : Variable) (short unsigned : Bool)
      → Grow s s0 → Sub sc.variables sd.variables → find_in nm sd.variables ≡ some v
      → (Scoped sc.variables (length s.vars) → Scoped sd.variables (length s0.vars))
      → (Scoped sc.variables (length s.vars) → (σ : Values W) (ρ : Vars W) (w : W) → Agree sc.variables σ ρ → Agree sd.variables (set σ nm w) (write ρ v.var_id.id w))
      → GoodE X Low (holding X) sc.variables z ev s0 a ca s1
      → Fitted X (Low s1 a) Low (holding X) (λ ρ h. fit X.prog X.rule v.var_id.ty (holding X ρ a) h) s1 a1 fa s2
      → AskedLabel (loop_check r) s2 m1 s3 → AskedLabel (loop_start r) s3 ls s4 → AskedLabel (loop_check r) s4 mk s5
      → GoodE X Low (holding X) sc.variables zu evu s5 u cu s6
      → Fitted X (Low s6 u) Low (holding X) (λ ρ h. fit X.prog X.rule v.var_id.ty (holding X ρ u) h) s6 u1 fu s7
      → AskedLabel (loop_end r) (with_var bool_type s7) le s9 → GoodS X (with_loop r sd) zb N evb s9 sb cb s10
      → AskedLabel (loop_start r) s10 m2 s11 → AskedLabel (loop_end r) s11 m3 t
      → GoodS X sc (λ x. bit (eqb x r) + (z x + (zu x + zb x))) (known sc.variables)
      (λ i σ h. bind_o (ev σ h) λ d h1. bind_o (fit X.prog X.rule v.var_id.ty d h1) λ d1 h2. bind_o (bare (X.rule.copy v.var_id.ty (read X.rule d1)) h2) λ w h3.
      rounds X.prog X.funs X.fun X.rule X.answers i nm v.var_id.ty (IntLiteral (pos 1) short unsigned) evu (evb i) (set σ nm w) h3)
      s sc (ca ++ (fa ++ (Copy v.var_id a1 ∷ Jump m1 ∷ Label ls ∷ Binary v.var_id Add (OVar v.var_id) (OInt (pos 1) short unsigned) ∷ Label mk
      ∷ (cu ++ (fu ++ (Binary (next_var bool_type s7) Lt (OVar v.var_id) u1 ∷ JumpIfNot (OVar (next_var bool_type s7)) le ∷ (cb ++ (Jump m2 ∷ Label m3 ∷ [])))))))) t
  unfolding count is_label with_loop next_var step exec operand dat
  for_made {s = s} {s0} {s1} {s2} {s3} {s4} {s5} {s6} {s7} {s9} {s10} {s11} {t} {a} {a1} {u} {u1} {ca} {fa} {cu} {fu} {cb} {m1} {ls} {mk} {le} {m2} {m3} r sc sd nm v short unsigned g0 sub sx scd first G A l3 l4 l5 U B l9 H l11 l12 =
      let gv = with_var_grow bool_type s7 in
      let g2 = grow_trans G.grow A.grow in
      let g5 = grow_trans l3.grow (grow_trans l4.grow l5.grow) in
      let g7 = grow_trans U.grow B.grow in
      let g9 = grow_trans gv l9.grow in
      let g12 = grow_trans l11.grow l12.grow in
      let k2 : length s0.vars ≤ length s2.vars = g2.vars in
      let k5 : length s0.vars ≤ length s5.vars = omega (arith, k2, g5.vars) in
      let k6 : length s0.vars ≤ length s6.vars = omega (arith, k5, U.grow.vars) in
      let k7 : length s0.vars ≤ length s7.vars = omega (arith, k6, B.grow.vars) in
      let k9 : length s0.vars ≤ length s9.vars = omega (arith, k7, g9.vars) in
      let k0 : length s.vars ≤ length s0.vars = g0.vars in
      record {
        grow = grow_trans g0 (grow_trans g2 (grow_trans g5 (grow_trans g7 (grow_trans g9 (grow_trans H.grow g12)))));
        sub = sub_refl;
        loop = refl;
        func = refl;
        knows = refl;
        scoped = λ g. scoped_mono (omega (arith, k0, k9, H.grow.vars, g12.vars)) g;
        once = λ w x.
            let w10 = within_back X g12 w in
            let w7 = within_back X g9 (within_back X H.grow w10) in
            let w6 = within_back X B.grow w7 in
            let w5 = within_back X U.grow w6 in
            let w4 = within_back X l5.grow w5 in
            let w2 = within_back X g5 w5 in
            simp count-append (omega (
              arith,
              G.once (within_back X A.grow w2) x,
              A.clear x,
              U.once w6 x,
              B.clear x,
              H.once w10 x,
              num_count X (loop_start r) ls x (num_of X l4 w4),
              num_count X (loop_check r) mk x (num_of X l5 w5),
              num_count X (loop_end r) m3 x (num_of X l12 w),
              kinds-once 1 2 3 (name_of X x) r (λ e. omega arith) (λ e. omega arith) (λ e. omega arith),
            ));
        sim = λ w g lvs il sb i k ρ σ h ag.
            let w11 = within_back X l12.grow w in
            let w10 = within_back X l11.grow w11 in
            let w9 = within_back X H.grow w10 in
            let w7 = within_back X g9 w9 in
            let w6 = within_back X B.grow w7 in
            let w5 = within_back X U.grow w6 in
            let w4 = within_back X l5.grow w5 in
            let w3 = within_back X l4.grow w4 in
            let w2 = within_back X l3.grow w3 in
            let ns = num_of X l4 w4 in
            let ne = num_of X l9 w9 in
            let e1 : m1 ≡ mk = num_same X (num_of X l3 w3) (num_of X l5 w5) in
            let e2 : m2 ≡ ls = num_same X (num_of X l11 w11) ns in
            let e3 : m3 ≡ le = num_same X (num_of X l12 w) ne in
            let gd = scd g in
            rw (append_assoc ca _ k, append_assoc fa _ k, append_assoc cu _ k, append_assoc fu _ k, append_assoc cb _ k, e1, e2, e3) λ pl.
            let pc = placed-drop X.code fa _ (placed-drop X.code ca _ pl) in
            s_bind_o X _ (G.sim (within_back X A.grow w2) (scoped_mono k0 g) _ ρ σ h ag pl) λ ρ1 h1 f1.
            s_bind_o X _ (A.sim (G.low (scoped_mono k0 g)) w2 _ ρ1 h1) λ ρ2 h2 f2.
            s_bare X _ ρ2 v.var_id.id _ h2 refl λ w1.
            s_before X (go1 X refl)
            (for_rounds i nm v short unsigned u u1 (length s7.vars) cu fu cb gd k5 k6 k7 sx sub H.sub
            (λ k1 ρ3 σ3 h3 a3 p3. U.sim w6 (scoped_mono (omega (arith, k0, k5)) g) k1 ρ3 σ3 h3 a3 p3)
            (λ k1 ρ3 h3. B.sim (U.low (scoped_mono (omega (arith, k0, k5)) g)) w7 k1 ρ3 h3)
            (λ k1 ρ3 σ3 h3 a3 p3. H.sim w10 (scoped_mono k9 gd) sd.variables (inside ns ne) sub_refl i k1 ρ3 σ3 h3 a3 p3)
            k pc.1.1 i (le_refl i) (write ρ2 v.var_id.id w1) (set σ nm w1) h2
            (first g σ ρ2 w1 (agree_frame g (λ z b. f2 z (omega (arith, k0, G.grow.vars)) ∙ f1 z (omega (arith, k0))) ag)));
      }

  -- the second half of a For, from the bound on: the parts before it are given
  for_rest_lem : {z : ℕ → ℕ} {ev : Values W → CallsMade W → Got W (Datum W)} {s s0 s1 s2 s3 s4 s5 : State} {a a1 : Operand} {ca fa : Code} {m1 ls mk : ℕ}
      (za : ℕ → ℕ) (N : List KnownName) (evb : ℕ → Values W → CallsMade W → Ran W) (r : ℕ) (sc sd : Scope) (nm : Text) (v : Variable) (short unsigned : Bool) (until : Expr) (m : M Scope)
      → Grow s s0 → Sub sc.variables sd.variables → find_in nm sd.variables ≡ some v
      → (Scoped sc.variables (length s.vars) → Scoped sd.variables (length s0.vars))
      → (Scoped sc.variables (length s.vars) → (σ : Values W) (ρ : Vars W) (w : W) → Agree sc.variables σ ρ → Agree sd.variables (set σ nm w) (write ρ v.var_id.id w))
      → SoundS X (with_loop r sd) m za N evb
      → GoodE X Low (holding X) sc.variables z ev s0 a ca s1
      → Fitted X (Low s1 a) Low (holding X) (λ ρ h. fit X.prog X.rule v.var_id.ty (holding X ρ a) h) s1 a1 fa s2
      → AskedLabel (loop_check r) s2 m1 s3 → AskedLabel (loop_start r) s3 ls s4 → AskedLabel (loop_check r) s4 mk s5
      → (x : Scope) (c : Code) (t : State) → for_rest X.prog X.funs r v.var_id until sc m s5 ≡ made x c t
      → GoodS X sc (λ x. bit (eqb x r) + (z x + (opens_e until x + za x))) (known sc.variables)
      (λ i σ h. bind_o (ev σ h) λ d h1. bind_o (fit X.prog X.rule v.var_id.ty d h1) λ d1 h2. bind_o (bare (X.rule.copy v.var_id.ty (read X.rule d1)) h2) λ w h3.
      rounds X.prog X.funs X.fun X.rule X.answers i nm v.var_id.ty (IntLiteral (pos 1) short unsigned)
      (λ σ1 h4. eval_expr X.prog X.funs X.fun X.rule X.answers until (known sc.variables) σ1 h4) (evb i) (set σ nm w) h3)
      s x (ca ++ (fa ++ (Copy v.var_id a1 ∷ Jump m1 ∷ Label ls ∷ Binary v.var_id Add (OVar v.var_id) (OInt (pos 1) short unsigned) ∷ Label mk ∷ c))) t
  for_rest_lem {s5 = s5} {a1 = a1} {ca = ca} {fa} {m1} {ls} {mk} za N evb r sc sd nm v short unsigned until m g0 sub sx scd first H G A l3 l4 l5 x c t q =
      let i11 = inv q in
      let i12 = inv i11.rest in
      let i13 = inv_new i12.rest in
      let i14 = inv_emit i13.rest in
      let i15 = inv_label i14.rest in
      let i16 = inv_emit i15.rest in
      let i17 = inv_then i16.rest in
      let i18 = inv_label i17.rest in
      let i19 = inv_emit i18.rest in
      let i20 = inv_label i19.rest in
      let i21 = inv_emit i20.rest in
      let i22 = inv_pure i21.rest in
      good_s_as X i22.got
      (ap (λ z. ca ++ (fa ++ (Copy v.var_id a1 ∷ Jump m1 ∷ Label ls ∷ Binary v.var_id Add (OVar v.var_id) (OInt (pos 1) short unsigned) ∷ Label mk ∷ z)))
      (join_s i11 (join_s i12 (join_e i14.code (join_e i16.code (join_s i17 (join_e i19.code (join_e i21.code i22.code)))))))) i22.st
      (for_made r sc sd nm v short unsigned g0 sub sx scd first G A l3 l4 l5
      (good_e X sc until s5 i11.got i11.c1 i11.st i11.first) (good-fit X i11.got v.var_id.ty i11.st i12.got i12.c1 i12.st i12.first)
      i15.asked (H i15.st i17.got i17.c1 i17.st i17.first) i18.asked i20.asked)

  for_loop_lem : (za : ℕ → ℕ) (N : List KnownName) (evb : ℕ → Values W → CallsMade W → Ran W) (s s0 : State) (r : ℕ) (sc sd : Scope) (nm : Text) (v : Variable) (short unsigned : Bool) (from until : Expr) (m : M Scope)
      → Grow s s0 → Sub sc.variables sd.variables → find_in nm sd.variables ≡ some v
      → (Scoped sc.variables (length s.vars) → Scoped sd.variables (length s0.vars))
      → (Scoped sc.variables (length s.vars) → (σ : Values W) (ρ : Vars W) (w : W) → Agree sc.variables σ ρ → Agree sd.variables (set σ nm w) (write ρ v.var_id.id w))
      → SoundS X (with_loop r sd) m za N evb
      → (x : Scope) (c : Code) (t : State) → for_loop X.prog X.funs r v.var_id short unsigned from until sc m s0 ≡ made x c t
      → GoodS X sc (λ x. bit (eqb x r) + (opens_e from x + (opens_e until x + za x))) (known sc.variables)
      (λ i σ h. Tree.run_for X.prog X.funs X.fun X.rule X.answers i nm v.var_id.ty (IntLiteral (pos 1) short unsigned) from until (known sc.variables) (evb i) σ h)
      s x c t
  unfolding Tree.run_for
  for_loop_lem za N evb s s0 r sc sd nm v short unsigned from until m g0 sub sx scd first H x c t q =
      let j1 = inv_then (sym (for_steps-is X.prog X.funs r v.var_id short unsigned from until sc m s0) ∙ q) in
      let k1 = quiet j1 (bound_quiet X.prog X.funs from _ sc _ j1.got j1.c1 j1.st j1.first) in
      let j2 = inv_then k1.rest in
      let k2 = quiet j2 (bound_quiet X.prog X.funs until _ sc _ j2.got j2.c1 j2.st j2.first) in
      let i1 = inv k2.rest in
      let i2 = inv i1.rest in
      let i3 = inv_emit i2.rest in
      let i4 = inv_label i3.rest in
      let i5 = inv_emit i4.rest in
      let i6 = inv_label i5.rest in
      let i7 = inv_emit i6.rest in
      let i8 = inv_emit i7.rest in
      let i9 = inv_label i8.rest in
      let i10 = inv_emit i9.rest in
      good_s_as X refl (join_s i1 (join_s i2 (join_e i3.code (join_e i5.code (join_e i7.code (join_e i8.code i10.code)))))) refl
      (for_rest_lem za N evb r sc sd nm v short unsigned until m g0 sub sx scd first H
      (good_e X sc from s0 i1.got i1.c1 i1.st i1.first) (good-fit X i1.got v.var_id.ty i1.st i2.got i2.c1 i2.st i2.first)
      i4.asked i6.asked i9.asked x i10.c2 t i10.rest)

  for_int_lem : (za : ℕ → ℕ) (N : List KnownName) (evb : ℕ → Values W → CallsMade W → Ran W) (s s0 : State) (r : ℕ) (sc sd : Scope) (nm : Text) (v : Variable) (from until : Expr) (m : M Scope)
      → Grow s s0 → Sub sc.variables sd.variables → find_in nm sd.variables ≡ some v
      → (Scoped sc.variables (length s.vars) → Scoped sd.variables (length s0.vars))
      → (Scoped sc.variables (length s.vars) → (σ : Values W) (ρ : Vars W) (w : W) → Agree sc.variables σ ρ → Agree sd.variables (set σ nm w) (write ρ v.var_id.id w))
      → SoundS X (with_loop r sd) m za N evb
      → (x : Scope) (c : Code) (t : State) → for_int X.prog X.funs r v.var_id from until sc m s0 ≡ made x c t
      → GoodS X sc (λ x. bit (eqb x r) + (opens_e from x + (opens_e until x + za x))) (known sc.variables)
      (λ i σ h. Tree.run_for_int X.prog X.funs X.fun X.rule X.answers i nm v.var_id.ty from until (known sc.variables) (evb i) σ h) s x c t
  unfolding for_int Tree.run_for_int on_int
  for_int_lem za N evb s s0 r sc sd nm v from until m g0 sub sx scd first H x c t q = go (X.prog.type_of v.var_id.ty) q
    where
      go : (y : Ty) → on_int y (fail NotInteger r) (λ short unsigned. for_loop X.prog X.funs r v.var_id short unsigned from until sc m) s0 ≡ made x c t
          → GoodS X sc (λ x. bit (eqb x r) + (opens_e from x + (opens_e until x + za x))) (known sc.variables)
          (λ i σ h. on_int y (stopped h) λ short unsigned.
          Tree.run_for X.prog X.funs X.fun X.rule X.answers i nm v.var_id.ty (IntLiteral (pos 1) short unsigned) from until (known sc.variables) (evb i) σ h) s x c t
      go (TInt short unsigned) z = for_loop_lem za N evb s s0 r sc sd nm v short unsigned from until m g0 sub sx scd first H x c t z
      go (TFloat b) z = absurd (no_int r s0 x c t z)
      go TBool z = absurd (no_int r s0 x c t z)
      go TChar z = absurd (no_int r s0 x c t z)
      go TByte z = absurd (no_int r s0 x c t z)
      go (TAddress b) z = absurd (no_int r s0 x c t z)
      go (TArray b d) z = absurd (no_int r s0 x c t z)
      go (TCustom b) z = absurd (no_int r s0 x c t z)
      go TNull z = absurd (no_int r s0 x c t z)

  for_known_lem : (za : ℕ → ℕ) (N : List KnownName) (evb : ℕ → List KnownName → Values W → CallsMade W → Ran W) (r : ℕ) (sc : Scope) (nm : Text) (from until : Expr) (m : M Scope) (o : Option Variable)
      → find_in nm sc.variables ≡ o → SoundS X (with_loop r sc) m za N (λ i. evb i (known sc.variables))
      → (s : State) (x : Scope) (c : Code) (t : State) → for_known X.prog X.funs r o from until sc m s ≡ made x c t
      → GoodS X sc (λ x. bit (eqb x r) + (opens_e from x + (opens_e until x + za x))) (known sc.variables)
      (λ i σ h. for_over X.prog X.funs X.fun X.rule X.answers i nm none (found_type o) from until (known sc.variables) (evb i) σ h) s x c t
  unfolding for_known for_over found_type
  for_known_lem za N evb r sc nm from until m none e H s x c t q = let w : ◌≡◌ {A = ℕ} 0 1 = cc in absurd (omega arith)
  for_known_lem za N evb r sc nm from until m (some v) e H s x c t q =
      for_int_lem za N (λ i. evb i (known sc.variables)) s s r sc sc nm v from until m grow_refl sub_refl e (λ g. g) (λ g σ ρ w ag. agree_set σ ρ nm v w g e ag) H x c t
      (not-constant v.constant r (for_int X.prog X.funs r v.var_id from until sc m) s x c t q)

  for_new : (za : ℕ → ℕ) (NN : List KnownName → List KnownName) (evb : ℕ → List KnownName → Values W → CallsMade W → Ran W) (r : ℕ) (sc : Scope) (nm : Text) (y : ℕ) (from until : Expr) (m : Scope → M Scope)
      → ((sd : Scope) → sd.function ≡ sc.function → SoundS X (with_loop r sd) (m sd) za (NN (known sd.variables)) (λ i. evb i (known sd.variables)))
      → (s : State) (x : Scope) (c : Code) (t : State) → convert_for_loop X.prog X.funs r nm (some y) from until sc m s ≡ made x c t
      → GoodS X sc (λ x. bit (eqb x r) + (opens_e from x + (opens_e until x + za x))) (known sc.variables)
      (λ i σ h. Tree.run_for_int X.prog X.funs X.fun X.rule X.answers i nm y from until (known sc.variables) (evb i (record { name = nm; ty = y } ∷ known sc.variables)) σ h) s x c t
  unfolding with_variable known next_var
  for_new za NN evb r sc nm y from until m H s x c t q =
      let i1 = inv_new (sym (for_new_steps-is X.prog X.funs r nm y from until sc m s) ∙ q) in
      let i2 = inv_lift i1.rest in
      let v : Variable = record { name = nm; constant = false; var_id = next_var y s } in
      let sd : Scope = with_variable v sc in
      let d = declared v r sc i2.got i2.known in
      for_int_lem za (NN (known sd.variables)) (λ i. evb i (known sd.variables)) s (with_var y s) r sc sd nm v from until (m sd)
      (with_var_grow y s) (sub-new v sc.variables d.fresh) (find-same v sc.variables)
      (λ g. scoped-new v sc.variables (length s.vars) (length (with_var y s).vars) (le_refl _) (omega (arith, with_var-length y s)) g)
      (λ g σ ρ w ag. agree_new σ ρ v w g (le_refl _) ag) (H sd refl) x c t
      (subst (λ z. for_int X.prog X.funs r (next_var y s) from until sc (m z) (with_var y s) ≡ made x c t) d.scope i2.rest)

  pub good_for : (za : ℕ → ℕ) (NN : List KnownName → List KnownName) (evb : ℕ → List KnownName → Values W → CallsMade W → Ran W) (r : ℕ) (sc : Scope) (nm : Text) (y : Option ℕ) (from until : Expr) (m : Scope → M Scope)
      → ((sd : Scope) → sd.function ≡ sc.function → SoundS X (with_loop r sd) (m sd) za (NN (known sd.variables)) (λ i. evb i (known sd.variables)))
      → SoundS X sc (convert_for_loop X.prog X.funs r nm y from until sc m) (λ x. bit (eqb x r) + (opens_e from x + (opens_e until x + za x))) (known sc.variables)
      (λ i σ h. for_over X.prog X.funs X.fun X.rule X.answers i nm y (known_type nm (known sc.variables)) from until (known sc.variables) (evb i) σ h)
  unfolding convert_for_loop for_over
  good_for za NN evb r sc nm (some y) from until m H s x c t q = for_new za NN evb r sc nm y from until m H s x c t q
  good_for za NN evb r sc nm none from until m H s x c t q =
      rw (type-known nm sc.variables) (for_known_lem za (NN (known sc.variables)) evb r sc nm from until (m sc) (find_in nm sc.variables) refl (H sc refl) s x c t q)
