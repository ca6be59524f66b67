-- Converted If, Break, Continue and comments do what the tree's run says.
-- Each conversion is taken apart into its steps, and the facts about these are chained; a jump goes to where its label is placed.
use mathlib.Core.Path.{◌≡◌, refl, sym, ◌∙◌}
use mathlib.Core.List.{List, [], ◌∷◌, ◌++◌, append_assoc}
use mathlib.Core.Option.{Option, none, some}
use mathlib.Core.Bool.{Bool}
use Prim.Native.Nat.{ℕ, ◌+◌, ◌≤◌}
use native.Mathlib.Nat.{le_refl}
use native.Mathlib.Omega.{arith}
use lib.Dec.{eqb}
use lib.ListN.{length}
use Rattle.syntax.specs.Syntax.{Expr, Program}
use Rattle.conversion.specs.Ir.{Operand, Label, Jump, JumpIfNot, Comment, loop_start, loop_end, otherwise_label, condition_end, State, made, M, ◌>>◌, emit}
use Rattle.conversion.specs.Scope.{Variable, Scope}
use Rattle.conversion.specs.Expressions.{Functions}
use Rattle.conversion.specs.Statements.{convert_if, convert_if_else, convert_break, convert_continue}
use Rattle.runs.specs.Rule.{CallsMade, Datum, read}
use Rattle.runs.specs.TreeRun.{KnownName, Values, Got, Ran, normal, broke, continued, bind_o, test_o, eval_expr}
use Rattle.runs.specs.BodyRun.{Vars, is_label, operand}
use Rattle.runs.proofs.Opens.{bit, opens_e}
use Rattle.runs.proofs.Machine.{Code, at, count, count-append, goto, placed-drop, exec, step, dat}
use Rattle.runs.proofs.Invert.{grow_trans, inv, inv_then, inv_pure, inv_emit, inv_label, join_e, join_s, AskedLabel}
use Rattle.runs.proofs.Texts.{kinds-once}
use Rattle.runs.proofs.Names.{known, scoped_mono, Sub, sub_refl, Agree, agree_frame, agree_sub}
use Rattle.conversion.proofs.Steps.{if_steps-is, if_else_steps-is, break_steps-is, continue_steps-is}
use Rattle.runs.proofs.Sim.{Ctx, Low, within_back, Num, num_same, num_of, name_of, num_count, go1, goes, go_label, holding, GoodE}
use Rattle.runs.proofs.Exprs.{good_e}
use Rattle.runs.proofs.SimS.{SimS, runs, breaks, continues, s_before, s_after, s_bind_o, s_test, InLoop, inside, GoodS, SoundS, good_s_as}
use Rattle.runs.proofs.Stmts.{cond_expr}

no_break : (P : Program) (F : Functions) (r : ℕ) (sc : Scope) (s : State) (x : Scope) (c : Code) (t : State) → convert_break P F r none sc s ≡ made x c t → ⊥
unfolding convert_break
no_break P F r sc s x c t q = let w : ◌≡◌ {A = ℕ} 0 1 = cc in omega arith

no_continue : (P : Program) (F : Functions) (r : ℕ) (sc : Scope) (s : State) (x : Scope) (c : Code) (t : State) → convert_continue P F r none sc s ≡ made x c t → ⊥
unfolding convert_continue
no_continue P F r sc s x c t q = let w : ◌≡◌ {A = ℕ} 0 1 = cc in omega arith

module _ {W : Type 0} (X : Ctx W) where
  if-made : {z za : ℕ → ℕ} {N : List KnownName} {ev : Values W → CallsMade W → Got W (Datum W)} {eva : ℕ → Values W → CallsMade W → Ran W} {s s1 s2 s3 t : State} {o : Operand} {co ca : Code} {m n : ℕ} {sa : Scope}
      (r : ℕ) (sc : Scope) → GoodE X Low (holding X) sc.variables z ev s o co s1 → AskedLabel (condition_end r) s1 m s2 → GoodS X sc za N eva s2 sa ca s3 → AskedLabel (condition_end r) s3 n t
      → GoodS X sc (λ x. bit (eqb x r) + (z x + za x)) (known sc.variables)
      (λ i σ h. bind_o (ev σ h) λ v h1. test_o (X.rule.truth (read X.rule v)) h1 (eva i σ h1) (normal σ h1))
      s sc (co ++ (JumpIfNot o m ∷ (ca ++ (Label n ∷ [])))) t
  unfolding count is_label step exec operand dat
  if-made {s = s} {s1} {s2} {s3} {t} {o} {co} {ca} {m} {n} r sc G l2 H l4 =
      let g2 = grow_trans G.grow l2.grow in
      let g4 = grow_trans H.grow l4.grow in
      record {
        grow = grow_trans g2 g4;
        sub = sub_refl;
        loop = refl;
        func = refl;
        knows = refl;
        scoped = λ g. scoped_mono (omega (arith, g2.vars, g4.vars)) g;
        once = λ w x. simp count-append (omega (
          arith,
          G.once (within_back X l2.grow (within_back X g4 w)) x,
          H.once (within_back X l4.grow w) x,
          num_count X (condition_end r) n x (num_of X l4 w),
          kinds-once 5 4 3 (name_of X x) r (λ e. omega arith) (λ e. omega arith) (λ e. omega arith),
        ));
        sim = λ w g lvs il sb i k ρ σ h ag. rw (append_assoc co _ k, append_assoc ca _ k) λ pl.
            let w3 = within_back X l4.grow w in
            let w2 = within_back X H.grow w3 in
            let en : m ≡ n = num_same X (num_of X l2 w2) (num_of X l4 w) in
            let pa = (placed-drop X.code co _ pl).1 in
            let pe = placed-drop X.code ca _ pa in
            s_bind_o X _ (G.sim (within_back X l2.grow w2) g _ ρ σ h ag pl) λ ρ1 h1 f1.
            s_test X _ (goto X.code m) refl
            (s_after X (λ ρ2 h2. go1 X refl) H.sub (H.sim w3 (scoped_mono g2.vars g) lvs il sb i _ ρ1 σ h1 (agree_frame g f1 ag) pa))
            (runs ρ1 (rw en (go_label X pe.0)) (agree_frame g f1 ag));
      }

  pub good-if : (sc : Scope) (r : ℕ) (e : Expr) (then : M Scope) (za : ℕ → ℕ) (N : List KnownName) (eva : ℕ → Values W → CallsMade W → Ran W) → SoundS X sc then za N eva
      → SoundS X sc (convert_if X.prog X.funs r e sc then) (λ x. bit (eqb x r) + (opens_e e x + za x)) (known sc.variables)
      (λ i σ h. bind_o (eval_expr X.prog X.funs X.fun X.rule X.answers e (known sc.variables) σ h) λ v h1. test_o (X.rule.truth (read X.rule v)) h1 (eva i σ h1) (normal σ h1))
  good-if sc r e then za N eva H s x c t q =
      let i1 = inv (sym (if_steps-is X.prog X.funs r e sc then s) ∙ q) in
      let i2 = inv_label i1.rest in
      let i3 = inv_emit i2.rest in
      let i4 = inv_then i3.rest in
      let i5 = inv_label i4.rest in
      let i6 = inv_emit i5.rest in
      let i7 = inv_pure i6.rest in
      good_s_as X i7.got (join_s i1 (join_e i3.code (join_s i4 (join_e i6.code i7.code)))) i7.st
      (if-made r sc (good_e X sc e s i1.got i1.c1 i1.st (cond_expr X.prog X.funs e sc s i1.got i1.c1 i1.st i1.first)) i2.asked
      (H i2.st i4.got i4.c1 i4.st i4.first) i5.asked)

  if_else_made : {z za zb : ℕ → ℕ} {N M : List KnownName} {ev : Values W → CallsMade W → Got W (Datum W)} {eva evb : ℕ → Values W → CallsMade W → Ran W} {s s1 s2 s3 s4 s5 s6 t : State} {o : Operand} {co ca cb : Code}
      {m n m1 n1 : ℕ} {sa sb : Scope}
      (r : ℕ) (sc : Scope) → GoodE X Low (holding X) sc.variables z ev s o co s1 → AskedLabel (otherwise_label r) s1 m s2 → GoodS X sc za N eva s2 sa ca s3 → AskedLabel (condition_end r) s3 n s4
      → AskedLabel (otherwise_label r) s4 m1 s5 → GoodS X sc zb M evb s5 sb cb s6 → AskedLabel (condition_end r) s6 n1 t
      → GoodS X sc (λ x. bit (eqb x r) + (z x + (za x + zb x))) (known sc.variables)
      (λ i σ h. bind_o (ev σ h) λ v h1. test_o (X.rule.truth (read X.rule v)) h1 (eva i σ h1) (evb i σ h1))
      s sc (co ++ (JumpIfNot o m ∷ (ca ++ (Jump n ∷ Label m1 ∷ (cb ++ (Label n1 ∷ [])))))) t
  unfolding count is_label step exec operand dat
  if_else_made {s = s} {s1} {s2} {s3} {s4} {s5} {s6} {t} {o} {co} {ca} {cb} {m} {n} {m1} {n1} r sc G l2 H l4 l5 K l7 =
      let g2 = grow_trans G.grow l2.grow in
      let g5 = grow_trans H.grow (grow_trans l4.grow l5.grow) in
      let g7 = grow_trans K.grow l7.grow in
      let n5 : length s.vars ≤ length s5.vars = omega (arith, g2.vars, g5.vars) in
      record {
        grow = grow_trans g2 (grow_trans g5 g7);
        sub = sub_refl;
        loop = refl;
        func = refl;
        knows = refl;
        scoped = λ g. scoped_mono (omega (arith, g2.vars, g5.vars, g7.vars)) g;
        once = λ w x.
            let w5 = within_back X g7 w in
            let w4 = within_back X l5.grow w5 in
            simp count-append (omega (
              arith,
              G.once (within_back X l2.grow (within_back X g5 w5)) x,
              H.once (within_back X l4.grow w4) x,
              K.once (within_back X l7.grow w) x,
              num_count X (condition_end r) n1 x (num_of X l7 w),
              num_count X (otherwise_label r) m1 x (num_of X l5 w5),
              kinds-once 5 4 3 (name_of X x) r (λ e. omega arith) (λ e. omega arith) (λ e. omega arith),
            ));
        sim = λ w g lvs il sb i k ρ σ h ag. rw (append_assoc co _ k, append_assoc ca _ k, append_assoc cb _ k) λ pl.
            let w6 = within_back X l7.grow w in
            let w5 = within_back X K.grow w6 in
            let w4 = within_back X l5.grow w5 in
            let w3 = within_back X l4.grow w4 in
            let w2 = within_back X H.grow w3 in
            let en : n ≡ n1 = num_same X (num_of X l4 w4) (num_of X l7 w) in
            let em : m ≡ m1 = num_same X (num_of X l2 w2) (num_of X l5 w5) in
            let pa = (placed-drop X.code co _ pl).1 in
            let po = (placed-drop X.code ca _ pa).1 in
            let pe = placed-drop X.code cb _ po.1 in
            s_bind_o X _ (G.sim (within_back X l2.grow w2) g _ ρ σ h ag pl) λ ρ1 h1 f1.
            s_test X _ (goto X.code m) refl
            (s_after X (λ ρ2 h2. goes X (go1 X refl) (rw en (go_label X pe.0))) H.sub (H.sim w3 (scoped_mono g2.vars g) lvs il sb i _ ρ1 σ h1 (agree_frame g f1 ag) pa))
            (s_before X (rw em (go_label X po.0))
            (s_after X (λ ρ2 h2. go1 X refl) K.sub (K.sim w6 (scoped_mono n5 g) lvs il sb i _ ρ1 σ h1 (agree_frame g f1 ag) po.1)));
      }

  pub good-if_else : (sc : Scope) (r : ℕ) (e : Expr) (then otherwise : M Scope) (za zb : ℕ → ℕ) (N M : List KnownName) (eva evb : ℕ → Values W → CallsMade W → Ran W)
      → SoundS X sc then za N eva → SoundS X sc otherwise zb M evb
      → SoundS X sc (convert_if_else X.prog X.funs r e sc then otherwise) (λ x. bit (eqb x r) + (opens_e e x + (za x + zb x))) (known sc.variables)
      (λ i σ h. bind_o (eval_expr X.prog X.funs X.fun X.rule X.answers e (known sc.variables) σ h) λ v h1. test_o (X.rule.truth (read X.rule v)) h1 (eva i σ h1) (evb i σ h1))
  good-if_else sc r e then otherwise za zb N M eva evb H K s x c t q =
      let i1 = inv (sym (if_else_steps-is X.prog X.funs r e sc then otherwise s) ∙ q) in
      let i2 = inv_label i1.rest in
      let i3 = inv_emit i2.rest in
      let i4 = inv_then i3.rest in
      let i5 = inv_label i4.rest in
      let i6 = inv_emit i5.rest in
      let i7 = inv_label i6.rest in
      let i8 = inv_emit i7.rest in
      let i9 = inv_then i8.rest in
      let i10 = inv_label i9.rest in
      let i11 = inv_emit i10.rest in
      let i12 = inv_pure i11.rest in
      good_s_as X i12.got (join_s i1 (join_e i3.code (join_s i4 (join_e i6.code (join_e i8.code (join_s i9 (join_e i11.code i12.code))))))) i12.st
      (if_else_made r sc (good_e X sc e s i1.got i1.c1 i1.st (cond_expr X.prog X.funs e sc s i1.got i1.c1 i1.st i1.first)) i2.asked
      (H i2.st i4.got i4.c1 i4.st i4.first) i5.asked i7.asked (K i7.st i9.got i9.c1 i9.st i9.first) i10.asked)

  -- ---- Break, Continue

  break_made : {s t : State} {m : ℕ} (sc : Scope) (l : ℕ) → sc.in_loop ≡ some l → AskedLabel (loop_end l) s m t
      → GoodS X sc (λ x. 0) (known sc.variables) (λ i σ h. broke σ h) s sc (Jump m ∷ []) t
  unfolding count is_label step exec
  break_made {s} {t} {m} sc l e a = record {
    grow = a.grow;
    sub = sub_refl;
    loop = refl;
    func = refl;
    knows = refl;
    scoped = λ g. scoped_mono a.grow.vars g;
    once = λ w x. le_refl 0;
    sim = λ w g lvs il sb i k ρ σ h ag pl. there (rw e at il) (num_of X a w) sb i k ρ σ h ag;
  }
    where
      there : {lp : Bool} {ls le : ℕ} {lvs : List Variable} → InLoop X (some l) lp ls le → Num X (loop_end l) m → Sub lvs sc.variables
          → (i : ℕ) (k : Code) (ρ : Vars W) (σ : Values W) (h : CallsMade W) → Agree sc.variables σ ρ → SimS X i lp lvs ls le (at (Jump m ∷ k) [] ρ h) k sc.variables (broke σ h)
      there (inside u v) n sb i k ρ σ h ag = breaks {h = h} ρ tt (rw (num_same X v n) (go1 X refl)) (agree_sub sb ag)

  continue_made : {s t : State} {m : ℕ} (sc : Scope) (l : ℕ) → sc.in_loop ≡ some l → AskedLabel (loop_start l) s m t
      → GoodS X sc (λ x. 0) (known sc.variables) (λ i σ h. continued σ h) s sc (Jump m ∷ []) t
  unfolding count is_label step exec
  continue_made {s} {t} {m} sc l e a = record {
    grow = a.grow;
    sub = sub_refl;
    loop = refl;
    func = refl;
    knows = refl;
    scoped = λ g. scoped_mono a.grow.vars g;
    once = λ w x. le_refl 0;
    sim = λ w g lvs il sb i k ρ σ h ag pl. there (rw e at il) (num_of X a w) sb i k ρ σ h ag;
  }
    where
      there : {lp : Bool} {ls le : ℕ} {lvs : List Variable} → InLoop X (some l) lp ls le → Num X (loop_start l) m → Sub lvs sc.variables
          → (i : ℕ) (k : Code) (ρ : Vars W) (σ : Values W) (h : CallsMade W) → Agree sc.variables σ ρ → SimS X i lp lvs ls le (at (Jump m ∷ k) [] ρ h) k sc.variables (continued σ h)
      there (inside u v) n sb i k ρ σ h ag = continues {h = h} ρ tt (rw (num_same X u n) (go1 X refl)) (agree_sub sb ag)

  pub good_break : (sc : Scope) (r : ℕ) → SoundS X sc (convert_break X.prog X.funs r sc.in_loop sc) (λ x. 0) (known sc.variables) (λ i σ h. broke σ h)
  good_break sc r s x c t q = go sc.in_loop refl q
    where
      go : (o : Option ℕ) → sc.in_loop ≡ o → convert_break X.prog X.funs r o sc s ≡ made x c t → GoodS X sc (λ x. 0) (known sc.variables) (λ i σ h. broke σ h) s x c t
      go none e z = absurd (no_break X.prog X.funs r sc s x c t z)
      go (some l) e z =
          let i1 = inv_label (sym (break_steps-is X.prog X.funs r l sc s) ∙ z) in
          let i2 = inv_emit i1.rest in
          let i3 = inv_pure i2.rest in
          good_s_as X i3.got (join_e i2.code i3.code) i3.st (break_made sc l e i1.asked)

  pub good_continue : (sc : Scope) (r : ℕ) → SoundS X sc (convert_continue X.prog X.funs r sc.in_loop sc) (λ x. 0) (known sc.variables) (λ i σ h. continued σ h)
  good_continue sc r s x c t q = go sc.in_loop refl q
    where
      go : (o : Option ℕ) → sc.in_loop ≡ o → convert_continue X.prog X.funs r o sc s ≡ made x c t → GoodS X sc (λ x. 0) (known sc.variables) (λ i σ h. continued σ h) s x c t
      go none e z = absurd (no_continue X.prog X.funs r sc s x c t z)
      go (some l) e z =
          let i1 = inv_label (sym (continue_steps-is X.prog X.funs r l sc s) ∙ z) in
          let i2 = inv_emit i1.rest in
          let i3 = inv_pure i2.rest in
          good_s_as X i3.got (join_e i2.code i3.code) i3.st (continue_made sc l e i1.asked)

  -- ---- a comment, and then

  comment_made : {z : ℕ → ℕ} {N : List KnownName} {ev : ℕ → Values W → CallsMade W → Ran W} {s t : State} {c : Code} {sc1 : Scope} (r : ℕ) (sc : Scope)
      → GoodS X sc z N ev s sc1 c t → GoodS X sc z N ev s sc1 (Comment r ∷ c) t
  unfolding count is_label step exec
  comment_made r sc G = record {
    grow = G.grow;
    sub = G.sub;
    loop = G.loop;
    func = G.func;
    knows = G.knows;
    scoped = G.scoped;
    once = λ w x. omega (arith, G.once w x);
    sim = λ w g lvs il sb i k ρ σ h ag pl. s_before X (go1 X refl) (G.sim w g lvs il sb i k ρ σ h ag pl.1);
  }

  pub good_comment : (sc : Scope) (r : ℕ) (m : M Scope) (z : ℕ → ℕ) (N : List KnownName) (ev : ℕ → Values W → CallsMade W → Ran W) → SoundS X sc m z N ev
      → SoundS X sc (emit (Comment r) >> m) z N ev
  good_comment sc r m z N ev H s x c t q =
      let i = inv_emit q in
      good_s_as X refl i.code refl (comment_made r sc (H s x i.c2 t i.rest))
