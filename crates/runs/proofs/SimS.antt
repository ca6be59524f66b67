-- What it means that converted statements do what the tree's run says, endless runs included, and how such facts chain.
-- By cases on what the tree's run came to.
use mathlib.Core.Path.{◌≡◌}
use mathlib.Core.List.{List, [], ◌++◌}
use mathlib.Core.Option.{Option, none, some}
use mathlib.Core.Bool.{Bool, true, false}
use Prim.Native.Nat.{ℕ, ◌+◌, ◌≤◌}
use native.Mathlib.Omega.{arith}
use lib.Dec.{T}
use lib.ListN.{length}
use Rattle.conversion.specs.Ir.{loop_start, loop_end, State, made, M}
use Rattle.conversion.specs.Scope.{Variable, Scope}
use Rattle.runs.specs.Rule.{ValueOrStop, gives, halt, Truth, holds, fails, halts, CallsMade, Rule, Reply, comes, pending, returns}
use Rattle.runs.specs.Rule as Rule
use Rattle.runs.specs.TreeRun.{KnownName, Values, Got, bare, handed, Ran, normal, broke, continued, returned, stopped, held, unfinished, bind_o, bind_s, bind_t, test_o}
use Rattle.runs.specs.BodyRun.{Vars, write}
use Rattle.runs.proofs.Machine.{Code, Queue, Cfg, at, ended, waiting, count, goto, Placed, put, pass, pass_r, aim, branch, finish, step, to_trans}
use Rattle.runs.proofs.Invert.{Grow}
use Rattle.runs.proofs.Names.{known, Scoped, Sub, Frame, Agree, agree_sub}
use Rattle.runs.proofs.Sim.{Ctx, body, Within, Num, name_of, Goes, go1, goes, SimE, gets, stops, hangs}

module _ {W : Type 0} (X : Ctx W) where
  -- from c the body does what the tree's run came to; if that is unfinished, then in n steps or more the same calls
  -- (lp: in a loop; lvs: its names; ls, le: its labels; vs: the names behind)
  pub data SimS (n : ℕ) (lp : Bool) (lvs : List Variable) (ls le : ℕ) (c : Cfg W) (k : Code) (vs : List Variable) : Ran W → Type 0 where
    runs : {σ : Values W} {h : CallsMade W} (ρ : Vars W) → Goes X c (at k [] ρ h) → Agree vs σ ρ → SimS n lp lvs ls le c k vs (normal σ h)
    breaks : {σ : Values W} {h : CallsMade W} (ρ : Vars W) → T lp → Goes X c (aim (goto X.code le) [] ρ h) → Agree lvs σ ρ → SimS n lp lvs ls le c k vs (broke σ h)
    continues : {σ : Values W} {h : CallsMade W} (ρ : Vars W) → T lp → Goes X c (aim (goto X.code ls) [] ρ h) → Agree lvs σ ρ → SimS n lp lvs ls le c k vs (continued σ h)
    gives_back : {v : W} {h : CallsMade W} → Goes X c (ended (returns v) h) → SimS n lp lvs ls le c k vs (returned v h)
    halting : {h : CallsMade W} → Goes X c (ended Rule.halted h) → SimS n lp lvs ls le c k vs (stopped h)
    hanging : {h : CallsMade W} → Goes X c (waiting h) → SimS n lp lvs ls le c k vs (held h)
    long : {h : CallsMade W} (j : Code) (q : Queue W) (ρ : Vars W) (p : Goes X c (at j q ρ h)) → n ≤ p.many → SimS n lp lvs ls le c k vs (unfinished h)

  module _ {lp : Bool} {lvs : List Variable} {ls le : ℕ} where
    pub s_later : {n m : ℕ} {c d : Cfg W} {k : Code} {vs : List Variable} {r : Ran W} (p : Goes X c d) → m ≤ n + p.many → SimS n lp lvs ls le d k vs r → SimS m lp lvs ls le c k vs r
    unfolding goes to_trans
    s_later p g (runs ρ q a) = runs ρ (goes X p q) a
    s_later p g (breaks ρ i q a) = breaks ρ i (goes X p q) a
    s_later p g (continues ρ i q a) = continues ρ i (goes X p q) a
    s_later p g (gives_back q) = gives_back (goes X p q)
    s_later p g (halting q) = halting (goes X p q)
    s_later p g (long j z ρ q u) = long j z ρ (goes X p q) (omega arith)
    s_later p g (hanging q) = hanging (goes X p q)

    pub s_before : {n : ℕ} {c d : Cfg W} {k : Code} {vs : List Variable} {r : Ran W} → Goes X c d → SimS n lp lvs ls le d k vs r → SimS n lp lvs ls le c k vs r
    s_before p s = s_later p (omega arith) s

    pub s_after : {n : ℕ} {c : Cfg W} {j k : Code} {vs ws : List Variable} {r : Ran W} → ((ρ : Vars W) (h : CallsMade W) → Goes X (at j [] ρ h) (at k [] ρ h)) → Sub ws vs
        → SimS n lp lvs ls le c j vs r → SimS n lp lvs ls le c k ws r
    s_after p s (runs {h = h} ρ q a) = runs ρ (goes X q (p ρ h)) (agree_sub s a)
    s_after p s (breaks ρ i q a) = breaks ρ i q a
    s_after p s (continues ρ i q a) = continues ρ i q a
    s_after p s (gives_back q) = gives_back q
    s_after p s (halting q) = halting q
    s_after p s (long j z ρ q u) = long j z ρ q u
    s_after p s (hanging q) = hanging q

    pub s_bind_o : {n : ℕ} {Y : Type 0} {c : Cfg W} {j k : Code} {vs : List Variable} {t : ℕ} {ρ : Vars W} {get : Vars W → Y} {r : Got W Y} (f : Y → CallsMade W → Ran W)
        → SimE X c j t ρ get r
        → ((ρ₁ : Vars W) (h₁ : CallsMade W) → Frame t ρ ρ₁ → SimS n lp lvs ls le (at j [] ρ₁ h₁) k vs (f (get ρ₁) h₁))
        → SimS n lp lvs ls le c k vs (bind_o r f)
    unfolding bind_o
    s_bind_o f (gets {h = h} ρ' q fr e) H = s_before q (rw e at (H ρ' h fr))
    s_bind_o f (stops q) H = halting q
    s_bind_o f (hangs q) H = hanging q

    pub s_bare : {n : ℕ} {c : Cfg W} {j k : Code} {vs : List Variable} (f : W → CallsMade W → Ran W) (ρ : Vars W) (d : ℕ) (u : ValueOrStop W) (h : CallsMade W)
        → step X.rule X.answers (body X) c ≡ put u d j [] ρ h
        → ((w : W) → SimS n lp lvs ls le (at j [] (write ρ d w) h) k vs (f w h))
        → SimS n lp lvs ls le c k vs (bind_o (bare u h) f)
    unfolding bind_o bare put
    s_bare f ρ d (gives w) h e H = s_before (go1 X e) (H w)
    s_bare f ρ d halt h e H = halting (go1 X e)

    pub s_pass : {n : ℕ} {c : Cfg W} {k : Code} {vs : List Variable} {ρ : Vars W} {σ : Values W} (h : CallsMade W) (u : Reply W) → Agree vs σ ρ
        → step X.rule X.answers (body X) c ≡ pass_r u k [] ρ h → SimS n lp lvs ls le c k vs (bind_o (handed u h) λ q h2. normal σ h2)
    unfolding bare handed pass pass_r bind_o
    s_pass {ρ = ρ} {σ = σ} h (comes (gives v)) a e = runs ρ (go1 X e) a
    s_pass h (comes halt) a e = halting (go1 X e)
    s_pass h pending a e = hanging (go1 X e)

    pub s_finish : {n : ℕ} {c : Cfg W} {k : Code} {vs : List Variable} (h : CallsMade W) (u : ValueOrStop W) → step X.rule X.answers (body X) c ≡ finish u h
        → SimS n lp lvs ls le c k vs (bind_o (bare u h) λ q h2. returned q h2)
    unfolding bare finish bind_o
    s_finish h (gives v) e = gives_back (go1 X e)
    s_finish h halt e = halting (go1 X e)

    pub s_bind_s : {n : ℕ} {c : Cfg W} {j k : Code} {vs ws : List Variable} {r : Ran W} (f : Values W → CallsMade W → Ran W)
        → SimS n lp lvs ls le c j vs r
        → ((σ₁ : Values W) (ρ₁ : Vars W) (h₁ : CallsMade W) → Agree vs σ₁ ρ₁ → SimS n lp lvs ls le (at j [] ρ₁ h₁) k ws (f σ₁ h₁))
        → SimS n lp lvs ls le c k ws (bind_s r f)
    unfolding bind_s
    s_bind_s f (runs {σ = σ} {h = h} ρ q a) H = s_before q (H σ ρ h a)
    s_bind_s f (breaks ρ i q a) H = breaks ρ i q a
    s_bind_s f (continues ρ i q a) H = continues ρ i q a
    s_bind_s f (gives_back q) H = gives_back q
    s_bind_s f (halting q) H = halting q
    s_bind_s f (long j z ρ q u) H = long j z ρ q u
    s_bind_s f (hanging q) H = hanging q

    pub s_test : {n : ℕ} {c : Cfg W} {k p : Code} {vs : List Variable} {ρ : Vars W} {h : CallsMade W} {a b : Ran W} (u : Truth) (q : Option Code)
        → step X.rule X.answers (body X) c ≡ branch u p q [] ρ h → SimS n lp lvs ls le (at p [] ρ h) k vs a → SimS n lp lvs ls le (aim q [] ρ h) k vs b
        → SimS n lp lvs ls le c k vs (test_o u h a b)
    unfolding test_o branch
    s_test holds q e x y = s_before (go1 X e) x
    s_test fails q e x y = s_before (go1 X e) y
    s_test halts q e x y = halting (go1 X e)

    -- after the body of a loop with the names ws and the labels s and e, which leaves at j with the names us
    pub s_bind_t : {n m s e : ℕ} {c : Cfg W} {j k : Code} {vs ws us : List Variable} {r : Ran W} (f : Values W → CallsMade W → Ran W)
        → m ≤ n → Sub ws us → Sub vs ws → SimS n true ws s e c j us r
        → ((ρ₁ : Vars W) (h₁ : CallsMade W) → Goes X (at j [] ρ₁ h₁) (aim (goto X.code s) [] ρ₁ h₁))
        → ((ρ₁ : Vars W) (h₁ : CallsMade W) → Goes X (aim (goto X.code e) [] ρ₁ h₁) (at k [] ρ₁ h₁))
        → ((σ₁ : Values W) (ρ₁ : Vars W) (h₁ : CallsMade W) → Agree ws σ₁ ρ₁ → SimS m lp lvs ls le (aim (goto X.code s) [] ρ₁ h₁) k vs (f σ₁ h₁))
        → SimS m lp lvs ls le c k vs (bind_t r f)
    unfolding bind_t
    s_bind_t f g s1 s2 (runs {σ = σ} {h = h} ρ q a) S E H = s_before (goes X q (S ρ h)) (H σ ρ h (agree_sub s1 a))
    s_bind_t f g s1 s2 (breaks {h = h} ρ i q a) S E H = runs ρ (goes X q (E ρ h)) (agree_sub s2 a)
    s_bind_t f g s1 s2 (continues {σ = σ} {h = h} ρ i q a) S E H = s_before q (H σ ρ h a)
    s_bind_t f g s1 s2 (gives_back q) S E H = gives_back q
    s_bind_t f g s1 s2 (halting q) S E H = halting q
    s_bind_t f g s1 s2 (long j z ρ q u) S E H = long j z ρ q (omega arith)
    s_bind_t f g s1 s2 (hanging q) S E H = hanging q

  -- the labels of the loop around, if there is one
  pub data InLoop : Option ℕ → Bool → ℕ → ℕ → Type 0 where
    outside : {ls le : ℕ} → InLoop none false ls le
    inside : {r ls le : ℕ} → Num X (loop_start r) ls → Num X (loop_end r) le → InLoop (some r) true ls le

  -- converting in the scope sc came to the scope sc1, the code c and t, and this does what ev says; N: the names known after
  pub record GoodS (sc : Scope) (z : ℕ → ℕ) (N : List KnownName) (ev : ℕ → Values W → CallsMade W → Ran W) (s : State) (sc1 : Scope) (c : Code) (t : State) : Type 0 where
    pub grow : Grow s t
    pub sub : Sub sc.variables sc1.variables
    pub loop : sc1.in_loop ≡ sc.in_loop
    pub func : sc1.function ≡ sc.function
    pub knows : known sc1.variables ≡ N
    pub scoped : Scoped sc.variables (length s.vars) → Scoped sc1.variables (length t.vars)
    pub once : Within X t → (n : ℕ) → count n c ≤ z (name_of X n).opener
    pub sim : Within X t → Scoped sc.variables (length s.vars) → {lp : Bool} {ls le : ℕ} (lvs : List Variable) → InLoop sc.in_loop lp ls le → Sub lvs sc.variables
        → (n : ℕ) (k : Code) (ρ : Vars W) (σ : Values W) (h : CallsMade W) → Agree sc.variables σ ρ → Placed X.code (c ++ k)
        → SimS n lp lvs ls le (at (c ++ k) [] ρ h) k sc1.variables (ev n σ h)

  abbrev pub SoundS : Scope → M Scope → (ℕ → ℕ) → List KnownName → (ℕ → Values W → CallsMade W → Ran W) → Type 0
  SoundS sc m z N ev = (s : State) (sc1 : Scope) (c : Code) (t : State) → m s ≡ made sc1 c t → GoodS sc z N ev s sc1 c t

  pub good_s_as : {sc : Scope} {z : ℕ → ℕ} {N : List KnownName} {ev : ℕ → Values W → CallsMade W → Ran W} {s : State} {x x₁ : Scope} {c c₁ : Code} {t t₁ : State}
      → x ≡ x₁ → c ≡ c₁ → t ≡ t₁ → GoodS sc z N ev s x₁ c₁ t₁ → GoodS sc z N ev s x c t
  good_s_as p q r g = rw (p, q, r) g
