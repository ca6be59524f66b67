-- Converted expressions do what the tree's run says.
-- Each conversion is taken apart into its steps; then by induction on the expression.
use mathlib.Core.Path.{◌≡◌, refl, sym, ◌∙◌, ap, subst}
use mathlib.Core.List.{List, [], ◌∷◌, ◌++◌, append_assoc, append-nil}
use mathlib.Core.Option.{Option, none, some}
use mathlib.Core.Bool.{Bool, true, false, not, ◌&&◌}
use Prim.Native.Nat.{ℕ, suc, ◌+◌, ◌≤◌, ◌<◌}
use native.Mathlib.Nat.{le_refl}
use native.Mathlib.Omega.{arith}
use lib.Dec.{eqb}
use lib.IntN.{ℤ, pos}
use lib.ListN.{length, get_or}
use Rattle.laws.proofs.Prefixes.{prefix_refl, prefix_trans}
use Rattle.syntax.specs.Syntax.{Text, Ty, TInt, TFloat, TBool, TChar, TByte, TAddress, TArray, TCustom, TNull, UnaryOp, BinaryOp, Or, And, BitOr, BitXor, BitAnd, Eq, NotEq, Lt, Le, Gt, Ge, Shl, Shr, Add, Sub, Mul, Div, Rem, Expr, EInt, EFloat, EStr, EBool, EName, ENull, ESizeOf, EUnary, EBinary, ECall, Args, no_args, Value, ToType, Function, Program, place, bool_type}
use Rattle.laws.specs.Fix.{pick}
use Rattle.conversion.specs.ConvertError as C
use Rattle.conversion.specs.ConvertError.{Result, ok, err, LiteralOutOfRange, WrongOperands}
use Rattle.conversion.specs.Types.{on_int, on_float, is_float, range_error, size}
use Rattle.conversion.specs.Ir.{pure, VarId, Operand, OVar, OInt, OFloat, OBool, ODataAddress, ONull, Copy, Unary, Binary, Cast, Call, Label, Jump, JumpIfNot, logic_rhs, logic_end, FloatEntry, State, made, M}
use Rattle.conversion.specs.Scope.{Variable, Scope, find_in}
use Rattle.conversion.specs.Expressions.{Callee, CallFunction, CallCast, Functions, gives_bool, accepted, binary_error, binary_type, filter_option, accepts_class, operand_class, common_of, name_type, unwrap_or, get_type, resolve_call, common_type}
use Rattle.conversion.specs.Statements.{cast_operand, refloat, fit_operand, expected_type, fit_from, emit_args, convert_unary, convert_and, convert_or, cast_first, convert_other, convert_binary_by, call_function, call_value, convert_expr, convert_args, name_operand, size_operand}
use Rattle.runs.specs.Rule.{CallsMade, Literal, IntLiteral, FloatLiteral, BoolLiteral, StringLiteral, NullLiteral, Datum, constant, computed, read}
use Rattle.runs.specs.TreeRun.{Values, Got, value, bind_g, answered, typed, fit_literal, fit_computed, fit, fit_arguments, to_bool, eval_and, eval_or, eval_other, eval_binary, call_with, eval_expr, eval_args, scope_of, size_datum}
use Rattle.runs.specs.TreeRun as Tree
use Rattle.runs.specs.BodyRun.{Vars, datum, is_label, operand}
use Rattle.runs.proofs.Opens.{bit, opens_e, opens_a, logic_opens}
use Rattle.runs.proofs.Machine.{Code, at, count, count-append, goto, placed-drop, exec, step, dat, dats, arg_code, push}
use Rattle.runs.proofs.Invert.{Grow, grow_refl, grow_trans, inv, inv_then, inv_pure, inv_emit, inv_lift, inv_last, inv_new, inv_label, join_e, join_s, AskedLabel, no_float, inv_bits, prefix_get_d, position-holds, found_in, next_var, with_var, with_var-length, with_var_grow, ask_string, ask_float}
use Rattle.runs.proofs.Texts.{kinds-once, float_refl}
use Rattle.runs.proofs.Names.{known, typing, resolving, commoning, scoped_mono, agree_frame}
use Rattle.conversion.proofs.Steps.{cast_steps-is, refloat_steps-is, fit_steps-is, arg_steps-is, unary_steps-is, and_steps-is, or_steps-is, cast_first_steps-is, other_steps-is, binary_steps-is, unary_expr_steps-is, float_steps, string_steps, call_steps-is, value_steps-is, function_steps-is, fits-is, call_value-is, cast_value_is}
use Rattle.runs.proofs.Sim.{Ctx, body, Low, Lows, low_mono, lows_mono, Within, within_back, num_same, num_of, name_of, num_count, float_at, string_at, stay, go1, goes, go_label, holding, holdings, hold_frame, holds_frame, SimE, gets, sim_before, sim_after, sim_bind, sim_put, sim_reply, sim_test, GoodE, Sound, Sounds, good_as}

none_emitted : (s : State) (u : Unit {0}) (c : Code) (t : State) → emit_args [] s ≡ made u c t → (c ≡ []) × (t ≡ s)
unfolding emit_args
none_emitted s u c t q = let i = inv_pure q in (i.code, i.st)

-- Arg for each operand
pub args-code : (os : List Operand) (s : State) (u : Unit {0}) (c : Code) (t : State) → emit_args os s ≡ made u c t → (c ≡ arg_code os) × (t ≡ s)
unfolding arg_code
args-code [] s u c t q = none_emitted s u c t q
args-code (o ∷ os) s u c t q =
    let i = inv_emit (sym (arg_steps-is o os s) ∙ q) in
    let h = args-code os s u i.c2 t i.rest in
    (join_e i.code h.0, h.1)

pub args_clear : (n : ℕ) (os : List Operand) → count n (arg_code os) ≡ 0
unfolding arg_code count is_label
args_clear n [] = refl
args_clear n (o ∷ os) = omega (arith, args_clear n os)

-- the call itself, taken apart
pub record Called (P : Program) (dest : Option VarId) (g : Function) (l : Args) (os : List Operand) (s : State) (c : Code) (t : State) : Type 0 where
  pub args : List Operand
  pub fits : Code
  pub fitted : fit_from P 0 os l g s ≡ made args fits t
  pub code : c ≡ fits ++ (arg_code args ++ (Call dest g.rec_of ∷ []))

pub called : (P : Program) (F : Functions) (dest : Option VarId) (g : Function) (l : Args) (os : List Operand) (s : State) (u : Unit {0}) (c : Code) (t : State)
    → call_function P F dest g l os s ≡ made u c t → Called P dest g l os s c t
called P F dest g l os s u c t q =
    let i1 = inv (sym (function_steps-is P F dest g l os s) ∙ q) in
    let i2 = inv_then i1.rest in
    let i3 = inv_last i2.rest in
    let a = args-code i1.got i1.st i2.got i2.c1 i2.st i2.first in
    record {
      args = i1.got;
      fits = i1.c1;
      fitted = subst (λ x. fit_from P 0 os l g s ≡ made i1.got i1.c1 x) (sym (i3.st ∙ a.1)) (sym (fits-is P os l g s) ∙ i1.first);
      code = join_s i1 (i2.code ∙ (ap (λ x. x ++ i2.c2) a.0 ∙ ap (λ x. arg_code i1.got ++ x) i3.code));
    }

-- And and Or are Bools
accepted-bool : (P : Program) (F : Functions) (o : BinaryOp) (u : Option ℕ) (e : Result ℕ) (y : ℕ) → ((z : ℕ) → e ≡ ok z → ⊥) → gives_bool o ≡ true → accepted P F o u e ≡ ok y → y ≡ bool_type
unfolding accepted pick
accepted-bool P F o none e y n g q = absurd (n y q)
accepted-bool P F o (some x) e y n g q = let z : ok (pick (gives_bool o) bool_type x) ≡ ok y = q in let w : pick (gives_bool o) bool_type x ≡ bool_type = rw g refl in cc

never_fits : (P : Program) (F : Functions) (r : ℕ) (a : Expr) (l : ℕ) (b : Expr) (m z : ℕ) → binary_error P F r a l b m ≡ ok z → ⊥
unfolding binary_error pick
never_fits P F r a l b m z q = go (range_error P.type_of b m l) (range_error P.type_of a l m) q
  where
    go : (u v : Bool) → pick u (err LiteralOutOfRange (place b)) (pick v (err LiteralOutOfRange (place a)) (err WrongOperands r)) ≡ ok z → ⊥
    go true v e = let w : ◌≡◌ {A = ℕ} 0 1 = cc in omega arith
    go false true e = let w : ◌≡◌ {A = ℕ} 0 1 = cc in omega arith
    go false false e = let w : ◌≡◌ {A = ℕ} 0 1 = cc in omega arith

binary_bool : (P : Program) (F : Functions) (r : ℕ) (o : BinaryOp) (a b : Expr) (sc : Scope) (y : ℕ) → get_type P F (EBinary r o a b) sc ≡ ok y → gives_bool o ≡ true → y ≡ bool_type
unfolding get_type
binary_bool P F r o a b sc y q g = go (get_type P F a sc) (get_type P F b sc) q
  where
    go : (u v : Result ℕ) → C.◌>>=◌ u (λ l. C.◌>>=◌ v (λ m. binary_type P F r o a l b m)) ≡ ok y → y ≡ bool_type
    go (ok l) (ok m) e = accepted-bool P F o (filter_option (accepts_class P F (operand_class o)) (common_of P F a l b m)) (binary_error P F r a l b m) y (λ z. never_fits P F r a l b m z) g e
    go (ok l) (err k n) e = let w : ◌≡◌ {A = ℕ} 0 1 = cc in absurd (omega arith)
    go (err k n) v e = let w : ◌≡◌ {A = ℕ} 0 1 = cc in absurd (omega arith)

module _ {W : Type 0} (X : Ctx W) where
  unary-made : {vs : List Variable} {z : ℕ → ℕ} {ev : Values W → CallsMade W → Got W (Datum W)} {s s1 : State} {a : Operand} {c : Code} (o : UnaryOp) (y : ℕ)
      → GoodE X Low (holding X) vs z ev s a c s1
      → GoodE X Low (holding X) vs z (λ σ h. bind_g (ev σ h) λ u h1. answered y (X.rule.unary o y (read X.rule u)) h1)
      s (OVar (next_var y s1)) (c ++ (Unary (next_var y s1) o a ∷ [])) (with_var y s1)
  unfolding next_var count is_label step exec operand dat
  unary-made {s = s} {s1 = s1} {c = c} o y G =
      let gv = with_var_grow y s1 in
      record {
        grow = grow_trans G.grow gv;
        low = λ g. omega (arith, with_var-length y s1);
        once = λ w n. simp count-append (omega (arith, G.once (within_back X gv w) n));
        sim = λ w g k ρ σ h ag. rw (append_assoc c _ k) λ pl.
            sim_bind X _ (le_refl _) (G.sim (within_back X gv w) g _ ρ σ h ag pl) λ ρ1 h1 f1. sim_put X (next_var y s1) _ h1 G.grow.vars refl;
      }

  good-unary : (vs : List Variable) (o : UnaryOp) (y : ℕ) (m : M Operand) (z : ℕ → ℕ) (ev : Values W → CallsMade W → Got W (Datum W)) → Sound X vs m z ev
      → Sound X vs (convert_unary o y m) z (λ σ h. bind_g (ev σ h) λ u h1. answered y (X.rule.unary o y (read X.rule u)) h1)
  good-unary vs o y m z ev H s x c t q =
      let i1 = inv (sym (unary_steps-is o y m s) ∙ q) in
      let i2 = inv_new i1.rest in
      let i3 = inv_emit i2.rest in
      let i4 = inv_pure i3.rest in
      good_as X i4.got (join_s i1 (join_e i3.code i4.code)) i4.st (unary-made o y (H _ _ _ _ i1.first))

  -- And: the left side is copied and tested; the right one is reached where the test holds
  and-made : {vs : List Variable} {zl zr : ℕ → ℕ} {evl evr : Values W → CallsMade W → Got W (Datum W)} {s3 s4 s6 s8 t : State} {a b : Operand} {ca cb : Code} {m n : ℕ} (r : ℕ) (s : State)
      → Grow (with_var bool_type s) s3 → GoodE X Low (holding X) vs zl evl s3 a ca s4 → AskedLabel (logic_end r) s4 m s6
      → GoodE X Low (holding X) vs zr evr s6 b cb s8 → AskedLabel (logic_end r) s8 n t
      → GoodE X Low (holding X) vs (λ x. bit (eqb x r) + (zl x + zr x)) (λ σ h. eval_and X.prog X.funs X.fun X.rule X.answers (evl σ) (evr σ) h)
      s (OVar (next_var bool_type s)) (ca ++ (Copy (next_var bool_type s) a ∷ JumpIfNot (OVar (next_var bool_type s)) m
      ∷ (cb ++ (Copy (next_var bool_type s) b ∷ Label n ∷ [])))) t
  unfolding next_var count is_label step exec operand dat eval_and to_bool
  and-made {s3 = s3} {s6 = s6} {ca = ca} {cb = cb} {m = m} {n = n} r s g3 L l6 M l10 =
      let d = next_var bool_type s in
      let gv = with_var_grow bool_type s in
      let g6 = grow_trans L.grow l6.grow in
      let g10 = grow_trans M.grow l10.grow in
      let n3 : length s.vars ≤ length s3.vars = omega (arith, gv.vars, g3.vars) in
      let n6 : length s.vars ≤ length s6.vars = omega (arith, n3, g6.vars) in
      record {
        grow = grow_trans gv (grow_trans g3 (grow_trans g6 g10));
        low = λ g. omega (arith, with_var-length bool_type s, g3.vars, g6.vars, g10.vars);
        once = λ w x. simp count-append (omega (
          arith,
          L.once (within_back X l6.grow (within_back X g10 w)) x,
          M.once (within_back X l10.grow w) x,
          num_count X (logic_end r) n x (num_of X l10 w),
          kinds-once 7 6 5 (name_of X x) r (λ e. omega arith) (λ e. omega arith) (λ e. omega arith),
        ));
        sim = λ w g k ρ σ h ag. rw (append_assoc ca _ k, append_assoc cb _ k) λ pl.
            let w8 = within_back X l10.grow w in
            let w6 = within_back X M.grow w8 in
            let en : m ≡ n = num_same X (num_of X l6 w6) (num_of X l10 w) in
            let pr = (placed-drop X.code ca _ pl).1.1 in
            sim_bind X _ n3 (L.sim (within_back X l6.grow w6) (scoped_mono n3 g) _ ρ σ h ag pl) λ ρ1 h1 f1.
            sim_bind X _ (le_refl _) (sim_put X d _ h1 (le_refl _) refl) λ ρ2 h2 f2.
            sim_test X _ (goto X.code m) refl
            (sim_bind X _ n6 (M.sim w8 (scoped_mono n6 g) _ ρ2 σ h2 (agree_frame g (λ x b. f2 x b ∙ f1 x (omega (arith, n3))) ag) pr) λ ρ3 h3 f3.
            sim_after X (λ ρ4 h4. go1 X refl) (sim_put X d _ h3 (le_refl _) refl))
            (gets ρ2 (rw en (go_label X (placed-drop X.code cb _ pr).1.0)) (λ x b. refl) refl);
      }

  good-and : (vs : List Variable) (r : ℕ) (left right : M Operand) (zl zr : ℕ → ℕ) (evl evr : Values W → CallsMade W → Got W (Datum W))
      → Sound X vs left zl evl → Sound X vs right zr evr
      → Sound X vs (convert_and r bool_type left right) (λ x. bit (eqb x r) + (zl x + zr x))
      (λ σ h. eval_and X.prog X.funs X.fun X.rule X.answers (evl σ) (evr σ) h)
  good-and vs r left right zl zr evl evr Hl Hr s x c t q =
      let i1 = inv_new (sym (and_steps-is r bool_type left right s) ∙ q) in
      let i2 = inv_label i1.rest in
      let i3 = inv_label i2.rest in
      let i4 = inv i3.rest in
      let i5 = inv_emit i4.rest in
      let i6 = inv_label i5.rest in
      let i7 = inv_emit i6.rest in
      let i8 = inv i7.rest in
      let i9 = inv_emit i8.rest in
      let i10 = inv_label i9.rest in
      let i11 = inv_emit i10.rest in
      let i12 = inv_pure i11.rest in
      good_as X i12.got (join_s i4 (join_e i5.code (join_e i7.code (join_s i8 (join_e i9.code (join_e i11.code i12.code)))))) i12.st
      (and-made r s (grow_trans i2.asked.grow i3.asked.grow) (Hl _ _ _ _ i4.first) i6.asked (Hr _ _ _ _ i8.first) i10.asked)

  -- Or: the right one is reached where the test fails
  or-made : {vs : List Variable} {zl zr : ℕ → ℕ} {evl evr : Values W → CallsMade W → Got W (Datum W)} {s3 s4 s6 s7 s9 s11 t : State} {a b : Operand} {ca cb : Code} {m n m1 n1 : ℕ} (r : ℕ) (s : State)
      → Grow (with_var bool_type s) s3 → GoodE X Low (holding X) vs zl evl s3 a ca s4 → AskedLabel (logic_rhs r) s4 m s6 → AskedLabel (logic_end r) s6 n s7 → AskedLabel (logic_rhs r) s7 m1 s9
      → GoodE X Low (holding X) vs zr evr s9 b cb s11 → AskedLabel (logic_end r) s11 n1 t
      → GoodE X Low (holding X) vs (λ x. bit (eqb x r) + (zl x + zr x)) (λ σ h. eval_or X.prog X.funs X.fun X.rule X.answers (evl σ) (evr σ) h)
      s (OVar (next_var bool_type s)) (ca ++ (Copy (next_var bool_type s) a ∷ JumpIfNot (OVar (next_var bool_type s)) m ∷ Jump n ∷ Label m1
      ∷ (cb ++ (Copy (next_var bool_type s) b ∷ Label n1 ∷ [])))) t
  unfolding next_var count is_label step exec operand dat eval_or to_bool
  or-made {s3 = s3} {s9 = s9} {ca = ca} {cb = cb} {m = m} {n = n} {m1 = m1} {n1 = n1} r s g3 L l6 l7 l9 M l12 =
      let d = next_var bool_type s in
      let gv = with_var_grow bool_type s in
      let g7 = grow_trans l6.grow l7.grow in
      let g9 = grow_trans g7 l9.grow in
      let g12 = grow_trans M.grow l12.grow in
      let n3 : length s.vars ≤ length s3.vars = omega (arith, gv.vars, g3.vars) in
      let n9 : length s.vars ≤ length s9.vars = omega (arith, n3, L.grow.vars, g9.vars) in
      record {
        grow = grow_trans gv (grow_trans g3 (grow_trans L.grow (grow_trans g9 g12)));
        low = λ g. omega (arith, with_var-length bool_type s, g3.vars, L.grow.vars, g9.vars, g12.vars);
        once = λ w x. let w9 = within_back X g12 w in
            simp count-append (omega (
              arith,
              L.once (within_back X g9 w9) x,
              M.once (within_back X l12.grow w) x,
              num_count X (logic_end r) n1 x (num_of X l12 w),
              num_count X (logic_rhs r) m1 x (num_of X l9 w9),
              kinds-once 7 6 5 (name_of X x) r (λ e. omega arith) (λ e. omega arith) (λ e. omega arith),
            ));
        sim = λ w g k ρ σ h ag. rw (append_assoc ca _ k, append_assoc cb _ k) λ pl.
            let w11 = within_back X l12.grow w in
            let w9 = within_back X M.grow w11 in
            let w7 = within_back X l9.grow w9 in
            let w6 = within_back X l7.grow w7 in
            let em : m ≡ m1 = num_same X (num_of X l6 w6) (num_of X l9 w9) in
            let en : n ≡ n1 = num_same X (num_of X l7 w7) (num_of X l12 w) in
            let pr = (placed-drop X.code ca _ pl).1.1.1 in
            sim_bind X _ n3 (L.sim (within_back X l6.grow w6) (scoped_mono n3 g) _ ρ σ h ag pl) λ ρ1 h1 f1.
            sim_bind X _ (le_refl _) (sim_put X d _ h1 (le_refl _) refl) λ ρ2 h2 f2.
            sim_test X _ (goto X.code m) refl
            (gets ρ2 (goes X (go1 X refl) (rw en (go_label X (placed-drop X.code cb _ pr.1).1.0))) (λ x b. refl) refl)
            (sim_before X (rw em (go_label X pr.0))
            (sim_bind X _ n9 (M.sim w11 (scoped_mono n9 g) _ ρ2 σ h2 (agree_frame g (λ x b. f2 x b ∙ f1 x (omega (arith, n3))) ag) pr.1) λ ρ3 h3 f3.
            sim_after X (λ ρ4 h4. go1 X refl) (sim_put X d _ h3 (le_refl _) refl)));
      }

  good-or : (vs : List Variable) (r : ℕ) (left right : M Operand) (zl zr : ℕ → ℕ) (evl evr : Values W → CallsMade W → Got W (Datum W))
      → Sound X vs left zl evl → Sound X vs right zr evr
      → Sound X vs (convert_or r bool_type left right) (λ x. bit (eqb x r) + (zl x + zr x))
      (λ σ h. eval_or X.prog X.funs X.fun X.rule X.answers (evl σ) (evr σ) h)
  good-or vs r left right zl zr evl evr Hl Hr s x c t q =
      let i1 = inv_new (sym (or_steps-is r bool_type left right s) ∙ q) in
      let i2 = inv_label i1.rest in
      let i3 = inv_label i2.rest in
      let i4 = inv i3.rest in
      let i5 = inv_emit i4.rest in
      let i6 = inv_label i5.rest in
      let i7 = inv_emit i6.rest in
      let i8 = inv_label i7.rest in
      let i9 = inv_emit i8.rest in
      let i10 = inv_label i9.rest in
      let i11 = inv_emit i10.rest in
      let i12 = inv i11.rest in
      let i13 = inv_emit i12.rest in
      let i14 = inv_label i13.rest in
      let i15 = inv_emit i14.rest in
      let i16 = inv_pure i15.rest in
      good_as X i16.got
      (join_s i4 (join_e i5.code (join_e i7.code (join_e i9.code (join_e i11.code (join_s i12 (join_e i13.code (join_e i15.code i16.code)))))))) i16.st
      (or-made r s (grow_trans i2.asked.grow i3.asked.grow) (Hl _ _ _ _ i4.first) i6.asked i8.asked i10.asked (Hr _ _ _ _ i12.first) i14.asked)

  -- ---- fitting

  -- from s fitting came to x, the code c, without labels, and t; and, given L, this does what ev says of the variables
  pub record Fitted {Y Z : Type 0} (L : Type 0) (lows : State → Y → Type 0) (get : Vars W → Y → Z) (ev : Vars W → CallsMade W → Got W Z) (s : State) (x : Y) (c : Code) (t : State) : Type 0 where
    pub grow : Grow s t
    pub low : L → lows t x
    pub clear : (n : ℕ) → count n c ≡ 0
    pub sim : L → Within X t → (k : Code) (ρ : Vars W) (h : CallsMade W) → SimE X (at (c ++ k) [] ρ h) k (length s.vars) ρ (λ ρ'. get ρ' x) (ev ρ h)

  fitted_as : {Y Z : Type 0} {L : Type 0} {lows : State → Y → Type 0} {get : Vars W → Y → Z} {ev : Vars W → CallsMade W → Got W Z} {s : State} {x x₁ : Y} {c c₁ : Code} {t t₁ : State}
      → x ≡ x₁ → c ≡ c₁ → t ≡ t₁ → Fitted L lows get ev s x₁ c₁ t₁ → Fitted L lows get ev s x c t
  fitted_as p q r g = rw (p, q, r) g

  -- kept
  fitted-pure : {s : State} {x : Operand} {c : Code} {t : State} (o : Operand) {L : Type 0} → (L → Low s o) → pure o s ≡ made x c t → Fitted L Low (holding X) (λ ρ h. value (holding X ρ o) h) s x c t
  unfolding count
  fitted-pure o l q =
      let i = inv_pure q in
      fitted_as i.got i.code i.st (record { grow = grow_refl; low = l; clear = λ n. refl; sim = λ l w k ρ h. gets ρ (stay X) (λ x b. refl) refl })

  -- cast
  fitted-cast : {s : State} {x : Operand} {c : Code} {t : State} (v : VarId) (y : ℕ) {L : Type 0} → cast_operand true v y s ≡ made x c t
      → Fitted L Low (holding X) (λ ρ h. answered y (X.rule.cast y (v.ty, ρ v.id)) h) s x c t
  unfolding next_var count is_label step exec operand dat datum read
  fitted-cast {s} v y q =
      let i1 = inv_new (sym (cast_steps-is v y s) ∙ q) in
      let i2 = inv_emit i1.rest in
      let i3 = inv_pure i2.rest in
      fitted_as i3.got (join_e i2.code i3.code) i3.st (record {
        grow = with_var_grow y s;
        low = λ l. omega (arith, with_var-length y s);
        clear = λ n. refl;
        sim = λ l w k ρ h. sim_put X (next_var y s) _ h (le_refl _) refl;
      })

  -- a float's other entry
  fitted_float : {s : State} {x : Operand} {c : Code} {t : State} (i : ℕ) (short : Bool) → refloat i short s ≡ made x c t
      → Fitted (i < length s.floats) Low (holding X) (λ ρ h. value (constant (FloatLiteral (get_or X.floats i no_float).bits short)) h) s x c t
  unfolding count dat datum
  fitted_float {s} {x} {c} {t} i short q =
      let i1 = inv_bits (sym (refloat_steps-is i short s) ∙ q) in
      let i2 = inv i1.rest in
      let i3 = inv_pure i2.rest in
      let a = ask_float i2.first in
      fitted_as i3.got (i2.code ∙ (ap (λ z. z ++ i2.c2) a.code ∙ i3.code)) i3.st (record {
        grow = a.grow;
        low = λ l. (position-holds _ i2.st.floats i2.got no_float (found_in (float_refl _) a.found prefix_refl)).1;
        clear = λ n. refl;
        sim = λ l w k ρ h. gets ρ (stay X) (λ z b. refl)
            (ap (λ (e : FloatEntry). constant (FloatLiteral e.bits e.short)) (sym (float_at X a w))
            ∙ ap (λ (e : FloatEntry). constant (FloatLiteral e.bits short)) (sym (prefix_get_d i no_float l (prefix_trans a.grow.floats w.floats))));
      })

  pub good-fit : (o : Operand) (y : ℕ) (s : State) (x : Operand) (c : Code) (t : State) → fit_operand X.prog o y s ≡ made x c t
      → Fitted (Low s o) Low (holding X) (λ ρ h. fit X.prog X.rule y (holding X ρ o) h) s x c t
  unfolding fit_operand fit fit_literal fit_computed dat datum
  good-fit (OBool b) y s x c t q = fitted-pure (OBool b) (λ l. tt) q
  good-fit (ODataAddress i) y s x c t q = fitted-pure (ODataAddress i) (λ l. tt) q
  good-fit ONull y s x c t q = fitted-pure ONull (λ l. tt) q
  good-fit (OInt v a b) y s x c t q = go (X.prog.type_of y) q
    where
      go : (u : Ty) → on_int u (pure (OInt v a b)) (λ short unsigned. pure (OInt v short unsigned)) s ≡ made x c t
          → Fitted (Unit {0}) Low (holding X) (λ ρ h. value (constant (on_int u (IntLiteral v a b) (λ short unsigned. IntLiteral v short unsigned))) h) s x c t
      go (TInt d e) z = fitted-pure (OInt v d e) (λ l. tt) z
      go (TFloat d) z = fitted-pure (OInt v a b) (λ l. tt) z
      go TBool z = fitted-pure (OInt v a b) (λ l. tt) z
      go TChar z = fitted-pure (OInt v a b) (λ l. tt) z
      go TByte z = fitted-pure (OInt v a b) (λ l. tt) z
      go (TAddress d) z = fitted-pure (OInt v a b) (λ l. tt) z
      go (TArray d e) z = fitted-pure (OInt v a b) (λ l. tt) z
      go (TCustom d) z = fitted-pure (OInt v a b) (λ l. tt) z
      go TNull z = fitted-pure (OInt v a b) (λ l. tt) z
  good-fit (OFloat i) y s x c t q = go (X.prog.type_of y) q
    where
      e : FloatEntry
      e = get_or X.floats i no_float

      go : (u : Ty) → on_float u (pure (OFloat i)) (λ short. refloat i short) s ≡ made x c t
          → Fitted (i < length s.floats) Low (holding X) (λ ρ h. value (constant (on_float u (FloatLiteral e.bits e.short) (λ short. FloatLiteral e.bits short))) h) s x c t
      go (TFloat d) z = fitted_float i d z
      go (TInt d g) z = fitted-pure (OFloat i) (λ l. l) z
      go TBool z = fitted-pure (OFloat i) (λ l. l) z
      go TChar z = fitted-pure (OFloat i) (λ l. l) z
      go TByte z = fitted-pure (OFloat i) (λ l. l) z
      go (TAddress d) z = fitted-pure (OFloat i) (λ l. l) z
      go (TArray d g) z = fitted-pure (OFloat i) (λ l. l) z
      go (TCustom d) z = fitted-pure (OFloat i) (λ l. l) z
      go TNull z = fitted-pure (OFloat i) (λ l. l) z
  good-fit (OVar v) y s x c t q = go (X.prog.type_of y) q
    where
      b0 : Bool
      b0 = is_float (X.prog.type_of v.ty) && not (eqb v.ty y)

      cast : (b : Bool) → cast_operand b v y s ≡ made x c t
          → Fitted (v.id < length s.vars) Low (holding X) (λ ρ h. fit_computed X.prog X.rule b y v.ty (ρ v.id) h) s x c t
      cast true z = fitted-cast v y z
      cast false z = fitted-pure (OVar v) (λ l. l) z

      go : (u : Ty) → on_float u (pure (OVar v)) (λ short. cast_operand b0 v y) s ≡ made x c t
          → Fitted (v.id < length s.vars) Low (holding X) (λ ρ h. fit_computed X.prog X.rule (is_float u && b0) y v.ty (ρ v.id) h) s x c t
      go (TFloat d) z = cast b0 z
      go (TInt d g) z = fitted-pure (OVar v) (λ l. l) z
      go TBool z = fitted-pure (OVar v) (λ l. l) z
      go TChar z = fitted-pure (OVar v) (λ l. l) z
      go TByte z = fitted-pure (OVar v) (λ l. l) z
      go (TAddress d) z = fitted-pure (OVar v) (λ l. l) z
      go (TArray d g) z = fitted-pure (OVar v) (λ l. l) z
      go (TCustom d) z = fitted-pure (OVar v) (λ l. l) z
      go TNull z = fitted-pure (OVar v) (λ l. l) z

  fits-none : (k : ℕ) (l : Args) (g : Function) (s : State) (x : List Operand) (c : Code) (t : State) → fit_from X.prog k [] l g s ≡ made x c t
      → Fitted (Unit {0}) Lows (holdings X) (λ ρ h. value [] h) s x c t
  unfolding fit_from dats count
  fits-none k l g s x c t q = let i = inv_pure q in
      fitted_as i.got i.code i.st (record { grow = grow_refl; low = λ l. tt; clear = λ n. refl; sim = λ l w k ρ h. gets ρ (stay X) (λ x b. refl) refl })

  fits-made : {s s1 t : State} {a : Operand} {b : List Operand} {ca cb : Code} (o : Operand) (os : List Operand)
      (ev : Datum W → CallsMade W → Got W (Datum W)) (evs : List (Datum W) → CallsMade W → Got W (List (Datum W)))
      → Fitted (Low s o) Low (holding X) (λ ρ h. ev (holding X ρ o) h) s a ca s1 → Fitted (Lows s1 os) Lows (holdings X) (λ ρ h. evs (holdings X ρ os) h) s1 b cb t
      → Fitted (Low s o × Lows s os) Lows (holdings X)
      (λ ρ h. bind_g (ev (holding X ρ o) h) λ u h1. bind_g (evs (holdings X ρ os) h1) λ us h2. value (u ∷ us) h2) s (a ∷ b) (ca ++ cb) t
  unfolding dats
  fits-made {s} {s1} {t} {a} {b} {ca} {cb} o os ev evs G H = record {
    grow = grow_trans G.grow H.grow;
    low = λ l. (low_mono s1 t a H.grow (G.low l.0), H.low (lows_mono s s1 os G.grow l.1));
    clear = λ n. simp count-append (omega (arith, G.clear n, H.clear n));
    sim = λ l w k ρ h. rw (append_assoc ca cb k)
        (sim_bind X _ (le_refl _) (G.sim l.0 (within_back X H.grow w) _ ρ h) λ ρ1 h1 f1.
        rw (sym (holds_frame X s os ρ ρ1 l.1 f1))
        (sim_bind X _ G.grow.vars (H.sim (lows_mono s s1 os G.grow l.1) w _ ρ1 h1) λ ρ2 h2 f2.
        gets ρ2 (stay X) (λ x z. refl) (ap (λ u. u ∷ holdings X ρ2 b) (hold_frame X s1 a ρ1 ρ2 (G.low l.0) f2))));
  }

  pub good-fits : (k : ℕ) (os : List Operand) (l : Args) (g : Function) (s : State) (x : List Operand) (c : Code) (t : State) → fit_from X.prog k os l g s ≡ made x c t
      → Fitted (Lows s os) Lows (holdings X) (λ ρ h. fit_arguments X.prog X.rule k (holdings X ρ os) l g h) s x c t
  unfolding dats fit_arguments
  good-fits k [] l g s x c t q = fits-none k l g s x c t q
  good-fits k (o ∷ os) l g s x c t q =
      let i1 = inv (sym (fit_steps-is X.prog k o os l g s) ∙ q) in
      let i2 = inv i1.rest in
      let i3 = inv_pure i2.rest in
      fitted_as i3.got (join_s i1 (i2.code ∙ (ap (λ z. i2.c1 ++ z) i3.code ∙ append-nil i2.c1))) i3.st
      (fits-made o os (λ d h. fit X.prog X.rule (expected_type g.params l k) d h) (λ ds h. fit_arguments X.prog X.rule (suc k) ds l g h)
      (good-fit o _ s _ _ _ i1.first) (good-fits (suc k) os l g _ _ _ _ i2.first))

  -- ---- binaries other than And and Or

  other-made : {vs : List Variable} {zl zr : ℕ → ℕ} {evl evr : Values W → CallsMade W → Got W (Datum W)} {s s1 s2 s3 s4 : State} {a b a1 b1 : Operand} {ca cb fa fb : Code} (o : BinaryOp) (y p : ℕ)
      → GoodE X Low (holding X) vs zl evl s a ca s1 → GoodE X Low (holding X) vs zr evr s1 b cb s2
      → Fitted (Low s2 a) Low (holding X) (λ ρ h. fit X.prog X.rule p (holding X ρ a) h) s2 a1 fa s3
      → Fitted (Low s3 b) Low (holding X) (λ ρ h. fit X.prog X.rule p (holding X ρ b) h) s3 b1 fb s4
      → GoodE X Low (holding X) vs (λ x. zl x + zr x) (λ σ h. eval_other X.prog X.funs X.fun X.rule X.answers o y p (evl σ) (evr σ) h)
      s (OVar (next_var y s4)) (ca ++ (cb ++ (fa ++ (fb ++ (Binary (next_var y s4) o a1 b1 ∷ []))))) (with_var y s4)
  unfolding next_var count is_label step exec operand dat eval_other
  other-made {s = s} {s1} {s2} {s3} {s4} {a} {b} {a1} {b1} {ca} {cb} {fa} {fb} o y p L M A B =
      let gv = with_var_grow y s4 in
      let gb = grow_trans B.grow gv in
      let ga = grow_trans A.grow gb in
      let gm = grow_trans M.grow ga in
      let n2 : length s.vars ≤ length s2.vars = omega (arith, L.grow.vars, M.grow.vars) in
      let n3 : length s.vars ≤ length s3.vars = omega (arith, n2, A.grow.vars) in
      record {
        grow = grow_trans L.grow gm;
        low = λ g. omega (arith, with_var-length y s4);
        once = λ w x. simp count-append (omega (arith, L.once (within_back X gm w) x, M.once (within_back X ga w) x, A.clear x, B.clear x));
        sim = λ w g k ρ σ h ag. rw (append_assoc ca _ k, append_assoc cb _ k, append_assoc fa _ k, append_assoc fb _ k) λ pl.
            let g1 = scoped_mono L.grow.vars g in
            let la = low_mono s1 s2 a M.grow (L.low g) in
            let lb = low_mono s2 s3 b A.grow (M.low g1) in
            sim_bind X _ (le_refl _) (L.sim (within_back X gm w) g _ ρ σ h ag pl) λ ρ1 h1 f1.
            sim_bind X _ L.grow.vars (M.sim (within_back X ga w) g1 _ ρ1 σ h1 (agree_frame g f1 ag) (placed-drop X.code ca _ pl)) λ ρ2 h2 f2.
            rw (sym (hold_frame X s1 a ρ1 ρ2 (L.low g) f2))
            (sim_bind X _ n2 (A.sim la (within_back X gb w) _ ρ2 h2) λ ρ3 h3 f3.
            rw (sym (hold_frame X s2 b ρ2 ρ3 (M.low g1) f3))
            (sim_bind X _ n3 (B.sim lb (within_back X gv w) _ ρ3 h3) λ ρ4 h4 f4.
            rw (sym (hold_frame X s3 a1 ρ3 ρ4 (A.low la) f4))
            (sim_put X (next_var y s4) _ h4 (omega (arith, n3, B.grow.vars)) refl)));
      }

  good-other : (vs : List Variable) (o : BinaryOp) (y p : ℕ) (left right : M Operand) (zl zr : ℕ → ℕ) (evl evr : Values W → CallsMade W → Got W (Datum W))
      → Sound X vs left zl evl → Sound X vs right zr evr
      → Sound X vs (convert_other X.prog X.funs o y p left right) (λ x. zl x + zr x)
      (λ σ h. eval_other X.prog X.funs X.fun X.rule X.answers o y p (evl σ) (evr σ) h)
  good-other vs o y p left right zl zr evl evr Hl Hr s x c t q =
      let i1 = inv (sym (other_steps-is X.prog X.funs o y p left right s) ∙ q) in
      let i2 = inv i1.rest in
      let i3 = inv i2.rest in
      let i4 = inv i3.rest in
      let i5 = inv_new i4.rest in
      let i6 = inv_emit i5.rest in
      let i7 = inv_pure i6.rest in
      good_as X i7.got (join_s i1 (join_s i2 (join_s i3 (join_s i4 (join_e i6.code i7.code))))) i7.st
      (other-made o y p (Hl _ _ _ _ i1.first) (Hr _ _ _ _ i2.first) (good-fit _ p _ _ _ _ i3.first) (good-fit _ p _ _ _ _ i4.first))

  plus_none : {vs : List Variable} {m : M Operand} {z : ℕ → ℕ} {ev : Values W → CallsMade W → Got W (Datum W)} → Sound X vs m z ev → Sound X vs m (λ x. 0 + z x) ev
  plus_none H s x c t q = let g = H s x c t q in record { grow = g.grow; low = g.low; once = λ w n. omega (arith, g.once w n); sim = g.sim }

  good-binary : (vs : List Variable) (o : BinaryOp) (r y p : ℕ) (left right : M Operand) (zl zr : ℕ → ℕ) (evl evr : Values W → CallsMade W → Got W (Datum W))
      → (gives_bool o ≡ true → y ≡ bool_type) → Sound X vs left zl evl → Sound X vs right zr evr
      → Sound X vs (convert_binary_by X.prog X.funs o r y p left right) (λ x. logic_opens o r x + (zl x + zr x))
      (λ σ h. eval_binary X.prog X.funs X.fun X.rule X.answers o y p (evl σ) (evr σ) h)
  unfolding convert_binary_by eval_binary logic_opens gives_bool
  good-binary vs And r y p left right zl zr evl evr e Hl Hr = rw (e refl) (good-and vs r left right zl zr evl evr Hl Hr)
  good-binary vs Or r y p left right zl zr evl evr e Hl Hr = rw (e refl) (good-or vs r left right zl zr evl evr Hl Hr)
  good-binary vs BitOr r y p left right zl zr evl evr e Hl Hr = plus_none (good-other vs BitOr y p left right zl zr evl evr Hl Hr)
  good-binary vs BitXor r y p left right zl zr evl evr e Hl Hr = plus_none (good-other vs BitXor y p left right zl zr evl evr Hl Hr)
  good-binary vs BitAnd r y p left right zl zr evl evr e Hl Hr = plus_none (good-other vs BitAnd y p left right zl zr evl evr Hl Hr)
  good-binary vs Eq r y p left right zl zr evl evr e Hl Hr = plus_none (good-other vs Eq y p left right zl zr evl evr Hl Hr)
  good-binary vs NotEq r y p left right zl zr evl evr e Hl Hr = plus_none (good-other vs NotEq y p left right zl zr evl evr Hl Hr)
  good-binary vs Lt r y p left right zl zr evl evr e Hl Hr = plus_none (good-other vs Lt y p left right zl zr evl evr Hl Hr)
  good-binary vs Le r y p left right zl zr evl evr e Hl Hr = plus_none (good-other vs Le y p left right zl zr evl evr Hl Hr)
  good-binary vs Gt r y p left right zl zr evl evr e Hl Hr = plus_none (good-other vs Gt y p left right zl zr evl evr Hl Hr)
  good-binary vs Ge r y p left right zl zr evl evr e Hl Hr = plus_none (good-other vs Ge y p left right zl zr evl evr Hl Hr)
  good-binary vs Shl r y p left right zl zr evl evr e Hl Hr = plus_none (good-other vs Shl y p left right zl zr evl evr Hl Hr)
  good-binary vs Shr r y p left right zl zr evl evr e Hl Hr = plus_none (good-other vs Shr y p left right zl zr evl evr Hl Hr)
  good-binary vs Add r y p left right zl zr evl evr e Hl Hr = plus_none (good-other vs Add y p left right zl zr evl evr Hl Hr)
  good-binary vs Sub r y p left right zl zr evl evr e Hl Hr = plus_none (good-other vs Sub y p left right zl zr evl evr Hl Hr)
  good-binary vs Mul r y p left right zl zr evl evr e Hl Hr = plus_none (good-other vs Mul y p left right zl zr evl evr Hl Hr)
  good-binary vs Div r y p left right zl zr evl evr e Hl Hr = plus_none (good-other vs Div y p left right zl zr evl evr Hl Hr)
  good-binary vs Rem r y p left right zl zr evl evr e Hl Hr = plus_none (good-other vs Rem y p left right zl zr evl evr Hl Hr)

  -- ---- calls

  ask_made : {vs : List Variable} {z : ℕ → ℕ} {ev : Values W → CallsMade W → Got W (List (Datum W))} {s s1 t : State} {os us : List Operand} {ca fs : Code} (y : ℕ) (l : Args) (g : Function)
      → GoodE X Lows (holdings X) vs z ev s os ca s1
      → Fitted (Lows (with_var y s1) os) Lows (holdings X) (λ ρ h. fit_arguments X.prog X.rule 0 (holdings X ρ os) l g h) (with_var y s1) us fs t
      → GoodE X Low (holding X) vs z (λ σ h. bind_g (ev σ h) λ vs h1. call_with X.prog X.funs X.fun X.rule X.answers y (CallFunction g) l vs h1)
      s (OVar (next_var y s1)) (ca ++ (fs ++ (arg_code us ++ (Call (some (next_var y s1)) g.rec_of ∷ [])))) t
  unfolding next_var count is_label step exec call_with
  ask_made {s = s} {s1} {t} {os} {us} {ca} {fs} y l g G H =
      let gv = with_var_grow y s1 in
      let n1 : length s.vars ≤ length (with_var y s1).vars = omega (arith, G.grow.vars, gv.vars) in
      record {
        grow = grow_trans G.grow (grow_trans gv H.grow);
        low = λ g. omega (arith, with_var-length y s1, H.grow.vars);
        once = λ w n. simp (count-append, args_clear) (omega (arith, G.once (within_back X (grow_trans gv H.grow) w) n, H.clear n));
        sim = λ w g1 k ρ σ h ag. rw (append_assoc ca _ k, append_assoc fs _ k, append_assoc (arg_code us) _ k) λ pl.
            sim_bind X _ (le_refl _) (G.sim (within_back X (grow_trans gv H.grow) w) g1 _ ρ σ h ag pl) λ ρ1 h1 f1.
            sim_bind X _ n1 (H.sim (lows_mono s1 (with_var y s1) os gv (G.low g1)) w _ ρ1 h1) λ ρ2 h2 f2.
            sim_before X (push X.rule X.answers (body X) us _ [] ρ2 h2) (sim_reply X (next_var y s1) _ _ G.grow.vars refl);
      }

  cast-made : {vs : List Variable} {z : ℕ → ℕ} {ev : Values W → CallsMade W → Got W (List (Datum W))} {s s1 : State} {o : Operand} {os : List Operand} {ca : Code} (y u : ℕ) (l : Args)
      → GoodE X Lows (holdings X) vs z ev s (o ∷ os) ca s1
      → GoodE X Low (holding X) vs z (λ σ h. bind_g (ev σ h) λ vs h1. call_with X.prog X.funs X.fun X.rule X.answers y (CallCast u) l vs h1)
      s (OVar (next_var y s1)) (ca ++ (Cast (next_var y s1) o ∷ [])) (with_var y s1)
  unfolding next_var count is_label step exec operand dat dats call_with Tree.eval_cast
  cast-made {s = s} {s1} {o} {os} {ca} y u l G =
      let gv = with_var_grow y s1 in
      record {
        grow = grow_trans G.grow gv;
        low = λ g. omega (arith, with_var-length y s1);
        once = λ w n. simp count-append (omega (arith, G.once (within_back X gv w) n));
        sim = λ w g k ρ σ h ag. rw (append_assoc ca _ k) λ pl.
            sim_bind X _ (le_refl _) (G.sim (within_back X gv w) g _ ρ σ h ag pl) λ ρ1 h1 f1. sim_put X (next_var y s1) _ h1 G.grow.vars refl;
      }

  no-cast : (r : ℕ) (d : VarId) (s : State) (x : Operand) (c : Code) (t : State) → cast_first r d [] s ≡ made x c t → ⊥
  unfolding cast_first
  no-cast r d s x c t q = let w : ◌≡◌ {A = ℕ} 0 1 = cc in omega arith

  good-call : {vs : List Variable} {z : ℕ → ℕ} {ev : Values W → CallsMade W → Got W (List (Datum W))} {s s1 : State} {os : List Operand} {ca : Code} (r y : ℕ) (l : Args) (callee : Callee)
      → GoodE X Lows (holdings X) vs z ev s os ca s1
      → (x : Operand) (c : Code) (t : State) → call_value X.prog X.funs r (next_var y s1) l os callee (with_var y s1) ≡ made x c t
      → GoodE X Low (holding X) vs z (λ σ h. bind_g (ev σ h) λ vs h1. call_with X.prog X.funs X.fun X.rule X.answers y callee l vs h1) s x (ca ++ c) t
  good-call {s1 = s1} {os = os} {ca = ca} r y l (CallFunction g) G x c t q =
      let i = inv_then (sym (call_value-is X.prog X.funs r (next_var y s1) l os g (with_var y s1)) ∙ q) in
      let k = called X.prog X.funs (some (next_var y s1)) g l os (with_var y s1) i.got i.c1 i.st i.first in
      let p = inv_pure i.rest in
      good_as X p.got (ap (λ z. ca ++ z) (i.code ∙ (ap (λ z. i.c1 ++ z) p.code ∙ (append-nil i.c1 ∙ k.code)))) p.st
      (ask_made y l g G (good-fits 0 os l g (with_var y s1) _ _ _ k.fitted))
  good-call {s1 = s1} {os = []} r y l (CallCast u) G x c t q =
      absurd (no-cast r (next_var y s1) (with_var y s1) x c t (sym (cast_value_is X.prog X.funs r (next_var y s1) l [] u (with_var y s1)) ∙ q))
  good-call {s1 = s1} {os = o ∷ os} {ca = ca} r y l (CallCast u) G x c t q =
      let i = inv_emit (sym (cast_first_steps-is r (next_var y s1) o os (with_var y s1)) ∙ (sym (cast_value_is X.prog X.funs r (next_var y s1) l (o ∷ os) u (with_var y s1)) ∙ q)) in
      let p = inv_pure i.rest in
      good_as X p.got (ap (λ z. ca ++ z) (join_e i.code p.code)) p.st (cast-made y u l G)

  -- ---- leaves

  good_leaf : {vs : List Variable} {s : State} {x : Operand} {c : Code} {t : State} (o : Operand) (l : Literal) → Low s o → ((ρ : Vars W) → holding X ρ o ≡ constant l) → pure o s ≡ made x c t
      → GoodE X Low (holding X) vs (λ n. 0) (λ σ h. value (constant l) h) s x c t
  unfolding count
  good_leaf o l lo e q =
      let i = inv_pure q in
      good_as X i.got i.code i.st (record { grow = grow_refl; low = λ g. lo; once = λ w n. le_refl 0; sim = λ w g k ρ σ h ag pl. gets ρ (stay X) (λ x b. refl) (e ρ) })

  good_float : {vs : List Variable} (b : ℕ) (short : Bool) (s : State) (x : Operand) (c : Code) (t : State) → float_steps b short s ≡ made x c t
      → GoodE X Low (holding X) vs (λ n. 0) (λ σ h. value (constant (FloatLiteral b short)) h) s x c t
  unfolding count dat datum
  good_float b short s x c t q =
      let i = inv q in
      let p = inv_pure i.rest in
      let a = ask_float i.first in
      good_as X p.got (i.code ∙ (ap (λ z. z ++ i.c2) a.code ∙ p.code)) p.st (record {
        grow = a.grow;
        low = λ g. (position-holds _ i.st.floats i.got no_float (found_in (float_refl _) a.found prefix_refl)).1;
        once = λ w n. le_refl 0;
        sim = λ w g k ρ σ h ag pl. gets ρ (stay X) (λ x b. refl) (ap (λ (e : FloatEntry). constant (FloatLiteral e.bits e.short)) (sym (float_at X a w)));
      })

  good_string : {vs : List Variable} (o n : ℕ) (u : Text) (s : State) (x : Operand) (c : Code) (t : State) → string_steps o n u s ≡ made x c t
      → GoodE X Low (holding X) vs (λ n. 0) (λ σ h. value (constant (StringLiteral u)) h) s x c t
  unfolding count dat datum
  good_string o n u s x c t q =
      let i = inv q in
      let p = inv_pure i.rest in
      let a = ask_string i.first in
      good_as X p.got (i.code ∙ (ap (λ z. z ++ i.c2) a.code ∙ p.code)) p.st (record {
        grow = a.grow;
        low = λ g. tt;
        once = λ w n. le_refl 0;
        sim = λ w g k ρ σ h ag pl. gets ρ (stay X) (λ x b. refl) (ap (λ e. constant (StringLiteral e)) (string_at X a w));
      })

  good-size : {vs : List Variable} (r : ℕ) (u : Option ℕ) (s : State) (x : Operand) (c : Code) (t : State) → size_operand r u s ≡ made x c t
      → GoodE X Low (holding X) vs (λ n. 0) (λ σ h. size_datum u h) s x c t
  unfolding size_operand size_datum dat datum
  good-size r none s x c t q = let w : ◌≡◌ {A = ℕ} 0 1 = cc in absurd (omega arith)
  good-size r (some n) s x c t q = good_leaf (OInt (pos n) false false) (IntLiteral (pos n) false false) tt (λ ρ. refl) q

  good-name : (sc : Scope) (r : ℕ) (n : Text) (s : State) (x : Operand) (c : Code) (t : State) → name_operand r (find_in n sc.variables) s ≡ made x c t
      → GoodE X Low (holding X) sc.variables (λ n. 0)
      (λ σ h. typed (get_type X.prog X.funs (EName r n) (scope_of X.fun (known sc.variables))) h λ y. value (computed y (σ n)) h) s x c t
  unfolding name_operand count dat datum typed name_type get_type find_in
  good-name sc r n s x c t q = rw (typing X.prog X.funs X.fun sc (EName r n)) (go (find_in n sc.variables) refl q)
    where
      go : (o : Option Variable) → find_in n sc.variables ≡ o → name_operand r o s ≡ made x c t
          → GoodE X Low (holding X) sc.variables (λ n. 0) (λ σ h. typed (name_type r (find_in n sc.variables)) h λ y. value (computed y (σ n)) h) s x c t
      go none e z = let w : ◌≡◌ {A = ℕ} 0 1 = cc in absurd (omega arith)
      go (some v) e z =
          let i = inv_pure z in
          good_as X i.got i.code i.st (rw e (record {
            grow = grow_refl;
            low = λ g. g.low n v e;
            once = λ w m. le_refl 0;
            sim = λ w g k ρ σ h ag pl. gets ρ (stay X) (λ x b. refl) (ap (computed v.var_id.ty) (ag.same n v e));
          }))

  good-typed : {vs : List Variable} {z : ℕ → ℕ} {s : State} {x : Operand} {c : Code} {t : State} {Q : Type 0} (u : Result Q) (y : Q) (ev : Q → Values W → CallsMade W → Got W (Datum W))
      → u ≡ ok y → GoodE X Low (holding X) vs z (ev y) s x c t → GoodE X Low (holding X) vs z (λ σ h. typed u h (λ a. ev a σ h)) s x c t
  unfolding typed
  good-typed u y ev e g = rw e g

  more-made : {vs : List Variable} {z zs : ℕ → ℕ} {ev : Values W → CallsMade W → Got W (Datum W)} {evs : Values W → CallsMade W → Got W (List (Datum W))} {s s1 t : State} {a : Operand} {b : List Operand} {ca cb : Code}
      → GoodE X Low (holding X) vs z ev s a ca s1 → GoodE X Lows (holdings X) vs zs evs s1 b cb t
      → GoodE X Lows (holdings X) vs (λ x. z x + zs x) (λ σ h. bind_g (ev σ h) λ u h1. bind_g (evs σ h1) λ us h2. value (u ∷ us) h2) s (a ∷ b) (ca ++ cb) t
  unfolding dats
  more-made {s = s} {s1} {t} {a} {b} {ca} {cb} G H = record {
    grow = grow_trans G.grow H.grow;
    low = λ g. (low_mono s1 t a H.grow (G.low g), H.low (scoped_mono G.grow.vars g));
    once = λ w n. simp count-append (omega (arith, G.once (within_back X H.grow w) n, H.once w n));
    sim = λ w g k ρ σ h ag. rw (append_assoc ca cb k) λ pl.
        sim_bind X _ (le_refl _) (G.sim (within_back X H.grow w) g _ ρ σ h ag pl) λ ρ1 h1 f1.
        sim_bind X _ G.grow.vars (H.sim w (scoped_mono G.grow.vars g) _ ρ1 σ h1 (agree_frame g f1 ag) (placed-drop X.code ca _ pl)) λ ρ2 h2 f2.
        gets ρ2 (stay X) (λ x b1. refl) (ap (λ u. u ∷ holdings X ρ2 b) (hold_frame X s1 a ρ1 ρ2 (G.low g) f2));
  }

  none_made : {vs : List Variable} (s : State) (x : List Operand) (c : Code) (t : State) → pure [] s ≡ made x c t → GoodE X Lows (holdings X) vs (λ n. 0) (λ σ h. value [] h) s x c t
  unfolding dats count
  none_made s x c t q = let i = inv_pure q in
      good_as X i.got i.code i.st (record { grow = grow_refl; low = λ g. tt; once = λ w n. le_refl 0; sim = λ w g k ρ σ h ag pl. gets ρ (stay X) (λ x b. refl) refl })

  holds_int : (ρ : Vars W) (v : ℤ) (a b : Bool) → holding X ρ (OInt v a b) ≡ constant (IntLiteral v a b)
  unfolding dat datum
  holds_int ρ v a b = refl

  holds-bool : (ρ : Vars W) (b : Bool) → holding X ρ (OBool b) ≡ constant (BoolLiteral b)
  unfolding dat datum
  holds-bool ρ b = refl

  holds_null : (ρ : Vars W) → holding X ρ ONull ≡ constant NullLiteral
  unfolding dat datum
  holds_null ρ = refl

  module _ (sc : Scope) where
    -- the compound expressions, from what is known of their parts
    expr-unary : (r : ℕ) (o : UnaryOp) (a : Expr) (z : ℕ → ℕ) (ev : Values W → CallsMade W → Got W (Datum W))
        → Sound X sc.variables (λ s. convert_expr X.prog X.funs a sc s) z ev
        → Sound X sc.variables (λ s. convert_expr X.prog X.funs (EUnary r o a) sc s) z
        (λ σ h. typed (get_type X.prog X.funs (EUnary r o a) (scope_of X.fun (known sc.variables))) h λ y.
        bind_g (ev σ h) λ u h1. answered y (X.rule.unary o y (read X.rule u)) h1)
    expr-unary r o a z ev H s x c t q =
        let i = inv_lift (sym (unary_expr_steps-is X.prog X.funs r o a sc s) ∙ q) in
        good-typed _ i.got (λ y σ h. bind_g (ev σ h) λ u h1. answered y (X.rule.unary o y (read X.rule u)) h1)
        (typing X.prog X.funs X.fun sc (EUnary r o a) ∙ i.known)
        (good-unary sc.variables o i.got (λ s1. convert_expr X.prog X.funs a sc s1) z ev H s x c t i.rest)

    expr-binary : (r : ℕ) (o : BinaryOp) (a b : Expr) (zl zr : ℕ → ℕ) (evl evr : Values W → CallsMade W → Got W (Datum W))
        → Sound X sc.variables (λ s. convert_expr X.prog X.funs a sc s) zl evl → Sound X sc.variables (λ s. convert_expr X.prog X.funs b sc s) zr evr
        → Sound X sc.variables (λ s. convert_expr X.prog X.funs (EBinary r o a b) sc s) (λ x. logic_opens o r x + (zl x + zr x))
        (λ σ h. typed (get_type X.prog X.funs (EBinary r o a b) (scope_of X.fun (known sc.variables))) h λ y.
        typed (common_type X.prog X.funs a b (scope_of X.fun (known sc.variables))) h λ u.
        eval_binary X.prog X.funs X.fun X.rule X.answers o y (unwrap_or y u) (evl σ) (evr σ) h)
    expr-binary r o a b zl zr evl evr Hl Hr s x c t q =
        let i = inv_lift (sym (binary_steps-is X.prog X.funs r o a b sc s) ∙ q) in
        let j = inv_lift i.rest in
        good-typed _ i.got
        (λ y σ h. typed (common_type X.prog X.funs a b (scope_of X.fun (known sc.variables))) h λ u.
        eval_binary X.prog X.funs X.fun X.rule X.answers o y (unwrap_or y u) (evl σ) (evr σ) h)
        (typing X.prog X.funs X.fun sc (EBinary r o a b) ∙ i.known)
        (good-typed _ j.got
        (λ u σ h. eval_binary X.prog X.funs X.fun X.rule X.answers o i.got (unwrap_or i.got u) (evl σ) (evr σ) h)
        (commoning X.prog X.funs X.fun sc a b ∙ j.known)
        (good-binary sc.variables o r i.got (unwrap_or i.got j.got) (λ s1. convert_expr X.prog X.funs a sc s1) (λ s1. convert_expr X.prog X.funs b sc s1)
        zl zr evl evr (binary_bool X.prog X.funs r o a b sc i.got i.known) Hl Hr s x c t j.rest))

    expr-call : (r : ℕ) (verb : Text) (l : Args) (z : ℕ → ℕ) (ev : Values W → CallsMade W → Got W (List (Datum W)))
        → Sounds X sc.variables (λ s. convert_args X.prog X.funs l sc s) z ev
        → Sound X sc.variables (λ s. convert_expr X.prog X.funs (ECall r verb l) sc s) z
        (λ σ h. typed (get_type X.prog X.funs (ECall r verb l) (scope_of X.fun (known sc.variables))) h λ y.
        typed (resolve_call X.prog X.funs verb l (scope_of X.fun (known sc.variables)) r) h λ u.
        bind_g (ev σ h) λ vs h1. call_with X.prog X.funs X.fun X.rule X.answers y u l vs h1)
    expr-call r verb l z ev H s x c t q =
        let i = inv_lift (sym (call_steps-is X.prog X.funs r verb l sc s) ∙ q) in
        let j = inv_lift i.rest in
        let k = inv j.rest in
        let n = inv_new k.rest in
        good-typed _ i.got
        (λ y σ h. typed (resolve_call X.prog X.funs verb l (scope_of X.fun (known sc.variables)) r) h λ u.
        bind_g (ev σ h) λ vs h1. call_with X.prog X.funs X.fun X.rule X.answers y u l vs h1)
        (typing X.prog X.funs X.fun sc (ECall r verb l) ∙ i.known)
        (good-typed _ j.got (λ u σ h. bind_g (ev σ h) λ vs h1. call_with X.prog X.funs X.fun X.rule X.answers i.got u l vs h1)
        (resolving X.prog X.funs X.fun sc verb l r ∙ j.known)
        (good_as X refl k.code refl (good-call r i.got l j.got (H s k.got k.c1 k.st k.first) x k.c2 t n.rest)))

    args-value : (r : ℕ) (e : Expr) (l : Args) (z zs : ℕ → ℕ) (ev : Values W → CallsMade W → Got W (Datum W)) (evs : Values W → CallsMade W → Got W (List (Datum W)))
        → Sound X sc.variables (λ s. convert_expr X.prog X.funs e sc s) z ev → Sounds X sc.variables (λ s. convert_args X.prog X.funs l sc s) zs evs
        → Sounds X sc.variables (λ s. convert_args X.prog X.funs (Value r e l) sc s) (λ x. z x + zs x)
        (λ σ h. bind_g (ev σ h) λ u h1. bind_g (evs σ h1) λ us h2. value (u ∷ us) h2)
    args-value r e l z zs ev evs G H s x c t q =
        let i = inv (sym (value_steps-is X.prog X.funs r e l sc s) ∙ q) in
        let j = inv i.rest in
        let p = inv_pure j.rest in
        good_as X p.got (join_s i (j.code ∙ (ap (λ z. j.c1 ++ z) p.code ∙ append-nil j.c1))) p.st
        (more-made (G s i.got i.c1 i.st i.first) (H i.st j.got j.c1 j.st j.first))

    mutual
      unfolding convert_expr eval_expr opens_e

      pub good_e : (e : Expr) → Sound X sc.variables (λ s. convert_expr X.prog X.funs e sc s) (opens_e e)
          (λ σ h. eval_expr X.prog X.funs X.fun X.rule X.answers e (known sc.variables) σ h)
      good_e (EInt r v a b) s x c t q = good_leaf (OInt v a b) (IntLiteral v a b) tt (λ ρ. holds_int ρ v a b) q
      good_e (EFloat r b short) s x c t q = good_float b short s x c t q
      good_e (EStr r o n u) s x c t q = good_string o n u s x c t q
      good_e (EBool r b) s x c t q = good_leaf (OBool b) (BoolLiteral b) tt (λ ρ. holds-bool ρ b) q
      good_e (EName r n) s x c t q = good-name sc r n s x c t q
      good_e (ENull r) s x c t q = good_leaf ONull NullLiteral tt (λ ρ. holds_null ρ) q
      good_e (ESizeOf r y) s x c t q = good-size r (size X.prog.type_of y) s x c t q
      good_e (EUnary r o a) s x c t q = expr-unary r o a (opens_e a)
          (λ σ h. eval_expr X.prog X.funs X.fun X.rule X.answers a (known sc.variables) σ h) (λ s1 x1 c1 t1 q1. good_e a s1 x1 c1 t1 q1) s x c t q
      good_e (EBinary r o a b) s x c t q = expr-binary r o a b (opens_e a) (opens_e b)
          (λ σ h. eval_expr X.prog X.funs X.fun X.rule X.answers a (known sc.variables) σ h)
          (λ σ h. eval_expr X.prog X.funs X.fun X.rule X.answers b (known sc.variables) σ h) (λ s1 x1 c1 t1 q1. good_e a s1 x1 c1 t1 q1) (λ s1 x1 c1 t1 q1. good_e b s1 x1 c1 t1 q1) s x c t q
      good_e (ECall r verb l) s x c t q = expr-call r verb l (opens_a l)
          (λ σ h. eval_args X.prog X.funs X.fun X.rule X.answers l (known sc.variables) σ h) (λ s1 x1 c1 t1 q1. good_a l s1 x1 c1 t1 q1) s x c t q

      pub good_a : (l : Args) → Sounds X sc.variables (λ s. convert_args X.prog X.funs l sc s) (opens_a l)
          (λ σ h. eval_args X.prog X.funs X.fun X.rule X.answers l (known sc.variables) σ h)
      good_a no_args s x c t q = none_made s x c t q
      good_a (Value r e l) s x c t q = args-value r e l (opens_e e) (opens_a l)
          (λ σ h. eval_expr X.prog X.funs X.fun X.rule X.answers e (known sc.variables) σ h)
          (λ σ h. eval_args X.prog X.funs X.fun X.rule X.answers l (known sc.variables) σ h) (λ s1 x1 c1 t1 q1. good_e e s1 x1 c1 t1 q1) (λ s1 x1 c1 t1 q1. good_a l s1 x1 c1 t1 q1) s x c t q
      good_a (ToType r y l) s x c t q = good_a l s x c t q
