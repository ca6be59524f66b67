-- A simulation of whole runs gives the claim: the same calls, endless runs included, and the same ends.
-- The tree's run with n turns tells of n steps of the body's run or more, and the body's run is a function: so one direction gives both.
use mathlib.Core.Path.{◌≡◌, refl, sym, ◌∙◌, ap, subst}
use mathlib.Core.List.{List, [], ◌∷◌}
use mathlib.Core.Option.{Option, none, some}
use Prim.Native.Nat.{ℕ, zero, suc, ◌-◌, ◌≤◌}
use native.Mathlib.Decide.{dec_le}
use native.Mathlib.Omega.{arith}
use mathlib.Core.Bool.{false}
use lib.ListN.{get_elem?}
use Rattle.laws.proofs.Prefixes.{get-append}
use Rattle.conversion.specs.Ir.{Instr, Copy, Unary, Binary, Cast, Zero, Arg, Call, Label, Jump, JumpIfNot, Return, Comment}
use Rattle.conversion.specs.Scope.{Variable}
use Rattle.runs.specs.Rule.{ValueOrStop, gives, halt, Truth, holds, fails, halts, TypedValue, CallsMade, Reply, comes, pending, Ending, passed, returns, halted}
use Rattle.runs.specs.TreeRun.{Ran, held, unfinished}
use Rattle.runs.specs.BodyRun.{Vars, Spot, spot, over, waits, lost, body_run}
use Rattle.runs.specs.Shared.{calls_t, end_t, calls_b, end_b, Shared, SameRuns}
use Rattle.runs.proofs.Machine.{Code, Queue, Cfg, at, ended, waiting, astray, put, pass, put_r, pass_r, aim, branch, finish, exec, step, steps, steps-add}
use Rattle.runs.proofs.Place.{seen, steps_seen}
use Rattle.runs.proofs.Sim.{Ctx, body, Goes, go1, goes}
use Rattle.runs.proofs.SimS.{SimS, runs, breaks, continues, gives_back, halting, hanging, long}

-- what is seen of the machine whose place is the rest of the code
unfoldable calls_m : {W : Type 0} → Cfg W → CallsMade W
calls_m (at r q ρ h) = h
calls_m (ended e h) = h
calls_m (waiting h) = h
calls_m (astray h) = h

unfoldable end_m : {W : Type 0} → Cfg W → Option (Ending W)
end_m (at r q ρ h) = none
end_m (ended e h) = some e
end_m (waiting h) = none
end_m (astray h) = none

calls_seen : {W : Type 0} (C : Code) (c : Spot W) → calls_m (seen C c) ≡ calls_b c
unfolding calls_m calls_b seen
calls_seen C (spot p q ρ h) = refl
calls_seen C (over e h) = refl
calls_seen C (waits h) = refl
calls_seen C (lost h) = refl

end_seen : {W : Type 0} (C : Code) (c : Spot W) → end_m (seen C c) ≡ end_b c
unfolding end_m end_b seen
end_seen C (spot p q ρ h) = refl
end_seen C (over e h) = refl
end_seen C (waits h) = refl
end_seen C (lost h) = refl

none_some : {A : Type 0} {a : A} → none ≡ some a → ⊥
none_some e = let z : ◌≡◌ {A = ℕ} 0 1 = cc in omega arith

-- a call once made stays
put_calls : {W : Type 0} (u : ValueOrStop W) (d : ℕ) (r : Code) (q : Queue W) (ρ : Vars W) (h : CallsMade W) → calls_m (put u d r q ρ h) ≡ h
unfolding put calls_m
put_calls (gives v) d r q ρ h = refl
put_calls halt d r q ρ h = refl

pass_calls : {W : Type 0} (u : ValueOrStop W) (r : Code) (q : Queue W) (ρ : Vars W) (h : CallsMade W) → calls_m (pass u r q ρ h) ≡ h
unfolding pass calls_m
pass_calls (gives v) r q ρ h = refl
pass_calls halt r q ρ h = refl

put_r_calls : {W : Type 0} (u : Reply W) (d : ℕ) (r : Code) (q : Queue W) (ρ : Vars W) (h : CallsMade W) → calls_m (put_r u d r q ρ h) ≡ h
unfolding put_r calls_m
put_r_calls (comes u) d r q ρ h = put_calls u d r q ρ h
put_r_calls pending d r q ρ h = refl

pass_r-calls : {W : Type 0} (u : Reply W) (r : Code) (q : Queue W) (ρ : Vars W) (h : CallsMade W) → calls_m (pass_r u r q ρ h) ≡ h
unfolding pass_r calls_m
pass_r-calls (comes u) r q ρ h = pass_calls u r q ρ h
pass_r-calls pending r q ρ h = refl

aim_calls : {W : Type 0} (s : Option Code) (q : Queue W) (ρ : Vars W) (h : CallsMade W) → calls_m (aim s q ρ h) ≡ h
unfolding aim calls_m
aim_calls (some r) q ρ h = refl
aim_calls none q ρ h = refl

branch_calls : {W : Type 0} (u : Truth) (r : Code) (s : Option Code) (q : Queue W) (ρ : Vars W) (h : CallsMade W) → calls_m (branch u r s q ρ h) ≡ h
unfolding branch calls_m
branch_calls holds r s q ρ h = refl
branch_calls fails r s q ρ h = aim_calls s q ρ h
branch_calls halts r s q ρ h = refl

finish-calls : {W : Type 0} (u : ValueOrStop W) (h : CallsMade W) → calls_m (finish u h) ≡ h
unfolding finish calls_m
finish-calls (gives v) h = refl
finish-calls halt h = refl

module _ {W : Type 0} (X : Ctx W) where
  exec_keeps : (j : Instr) (r : Code) (z : Queue W) (ρ : Vars W) (h : CallsMade W) (i : ℕ) (q : ℕ × List (TypedValue W)) → get_elem? h i ≡ some q
      → get_elem? (calls_m (exec X.rule X.answers (body X) j r z ρ h)) i ≡ some q
  unfolding exec calls_m
  exec_keeps (Copy d a) r z ρ h i q e = rw put_calls e
  exec_keeps (Unary d o a) r z ρ h i q e = rw put_calls e
  exec_keeps (Binary d o a b) r z ρ h i q e = rw put_calls e
  exec_keeps (Cast d a) r z ρ h i q e = rw put_calls e
  exec_keeps (Zero d) r z ρ h i q e = rw put_calls e
  exec_keeps (Arg o) r z ρ h i q e = e
  exec_keeps (Call (some d) f) r z ρ h i q e = rw put_r_calls (get-append h _ i q e)
  exec_keeps (Call none f) r z ρ h i q e = rw pass_r-calls (get-append h _ i q e)
  exec_keeps (Label l) r z ρ h i q e = e
  exec_keeps (Jump l) r z ρ h i q e = rw aim_calls e
  exec_keeps (JumpIfNot o l) r z ρ h i q e = rw branch_calls e
  exec_keeps (Return o) r z ρ h i q e = rw finish-calls e
  exec_keeps (Comment s) r z ρ h i q e = e

  step_keeps : (c : Cfg W) (i : ℕ) (q : ℕ × List (TypedValue W)) → get_elem? (calls_m c) i ≡ some q → get_elem? (calls_m (step X.rule X.answers (body X) c)) i ≡ some q
  unfolding step calls_m
  step_keeps (at [] z ρ h) i q e = e
  step_keeps (at (j ∷ r) z ρ h) i q e = exec_keeps j r z ρ h i q e
  step_keeps (ended x h) i q e = e
  step_keeps (waiting h) i q e = e
  step_keeps (astray h) i q e = e

  abbrev after : ℕ → Cfg W → Cfg W
  after n c = steps X.rule X.answers (body X) n c

  steps_keep : (n : ℕ) (c : Cfg W) (i : ℕ) (q : ℕ × List (TypedValue W)) → get_elem? (calls_m c) i ≡ some q → get_elem? (calls_m (after n c)) i ≡ some q
  unfolding steps
  steps_keep zero c i q e = e
  steps_keep (suc n) c i q e = steps_keep n (step X.rule X.answers (body X) c) i q (step_keeps c i q e)

  steps-ended : (n : ℕ) (e : Ending W) (h : CallsMade W) → after n (ended e h) ≡ ended e h
  unfolding steps step
  steps-ended zero e h = refl
  steps-ended (suc n) e h = steps-ended n e h

  steps-waiting : (n : ℕ) (h : CallsMade W) → after n (waiting h) ≡ waiting h
  unfolding steps step
  steps-waiting zero h = refl
  steps-waiting (suc n) h = steps-waiting n h

  -- of two counts of steps the larger goes on from the smaller
  steps_later : (m n : ℕ) (c : Cfg W) → m ≤ n → after n c ≡ after (n - m) (after m c)
  steps_later m n c g = ap (λ x. after x c) (omega arith) ∙ steps-add X.rule X.answers (body X) m (n - m) c

  -- an ended run stays so
  past : {c : Cfg W} {e : Ending W} {h : CallsMade W} (p : Goes X c (ended e h)) (n : ℕ) → p.many ≤ n → after n c ≡ ended e h
  past {c} {e} {h} p n g = steps_later p.many n c g ∙ (ap (after (n - p.many)) p.comes ∙ steps-ended (n - p.many) e h)

  -- and so does one that is held up
  past-waiting : {c : Cfg W} {h : CallsMade W} (p : Goes X c (waiting h)) (n : ℕ) → p.many ≤ n → after n c ≡ waiting h
  past-waiting {c} {h} p n g = steps_later p.many n c g ∙ (ap (after (n - p.many)) p.comes ∙ steps-waiting (n - p.many) h)

  is-ended : (c : Cfg W) (e : Ending W) → end_m c ≡ some e → c ≡ ended e (calls_m c)
  unfolding end_m calls_m
  is-ended (at r z1 ρ h) e q = let z : ◌≡◌ {A = ℕ} 0 1 = cc in absurd (omega arith)
  is-ended (ended x h) e q = cc
  is-ended (astray h) e q = let z : ◌≡◌ {A = ℕ} 0 1 = cc in absurd (omega arith)
  is-ended (waiting h) e q = let z : ◌≡◌ {A = ℕ} 0 1 = cc in absurd (omega arith)

  -- what the body's run from c has to do with what the tree's run o with n turns came to
  pub data Sum (n : ℕ) (c : Cfg W) (o : Ran W) : Type 0 where
    settled : (e : Ending W) → end_t o ≡ some e → Goes X c (ended e (calls_t o)) → Sum n c o
    going : (j : Code) (z : Queue W) (ρ : Vars W) → o ≡ unfinished (calls_t o) → (p : Goes X c (at j z ρ (calls_t o))) → n ≤ p.many → Sum n c o
    hung : o ≡ held (calls_t o) → Goes X c (waiting (calls_t o)) → Sum n c o

  pub sum : {n ls le : ℕ} {lvs vs : List Variable} {c : Cfg W} {o : Ran W} → SimS X n false lvs ls le c [] vs o → Sum n c o
  unfolding end_t calls_t step
  sum (runs ρ p a) = settled passed refl (goes X p (go1 X refl))
  sum (breaks ρ i p a) = absurd i
  sum (continues ρ i p a) = absurd i
  sum (gives_back {v = v} p) = settled (returns v) refl p
  sum (halting p) = settled halted refl p
  sum (long j z ρ p u) = going j z ρ refl p u
  sum (hanging p) = hung refl p

  module _ (o : Ran W) (c : Cfg W) (n : ℕ) where
    calls-there : Sum n c o → (k : ℕ) (q : ℕ × List (TypedValue W)) → get_elem? (calls_t o) k ≡ some q → (m : ℕ) × (get_elem? (calls_m (after m c)) k ≡ some q)
    unfolding calls_m
    calls-there (settled x e1 p) k q e = (p.many, rw p.comes e)
    calls-there (going j z1 ρ e1 p u) k q e = (p.many, rw p.comes e)
    calls-there (hung e1 p) k q e = (p.many, rw p.comes e)

    calls_back : Sum n c o → (k : ℕ) (q : ℕ × List (TypedValue W)) → get_elem? (calls_m (after n c)) k ≡ some q → get_elem? (calls_t o) k ≡ some q
    unfolding calls_m
    calls_back (settled x e1 p) k q e = go (dec_le n p.many)
      where
        go : Dec (n ≤ p.many) → get_elem? (calls_t o) k ≡ some q
        go (yes g) = subst (λ z. get_elem? (calls_m z) k ≡ some q) (sym (steps_later n p.many c g) ∙ p.comes) (steps_keep (p.many - n) (after n c) k q e)
        go (no g) = rw (past p n (omega arith)) at e
    calls_back (going j z1 ρ e1 p g) k q e =
        subst (λ z. get_elem? (calls_m z) k ≡ some q) (sym (steps_later n p.many c g) ∙ p.comes) (steps_keep (p.many - n) (after n c) k q e)
    calls_back (hung e1 p) k q e = go (dec_le n p.many)
      where
        go : Dec (n ≤ p.many) → get_elem? (calls_t o) k ≡ some q
        go (yes g) = subst (λ z. get_elem? (calls_m z) k ≡ some q) (sym (steps_later n p.many c g) ∙ p.comes) (steps_keep (p.many - n) (after n c) k q e)
        go (no g) = rw (past-waiting p n (omega arith)) at e

    ends_there : Sum n c o → (e : Ending W) → end_t o ≡ some e → (m : ℕ) × (end_m (after m c) ≡ some e) × (calls_m (after m c) ≡ calls_t o)
    unfolding end_m calls_m end_t
    ends_there (settled x e1 p) e q = (p.many, rw p.comes (sym e1 ∙ q), rw p.comes refl)
    ends_there (going j z1 ρ e1 p u) e q = absurd (none_some (sym (ap end_t e1) ∙ q))
    ends_there (hung e1 p) e q = absurd (none_some (sym (ap end_t e1) ∙ q))

    ends_back : Sum n c o → (e : Ending W) → end_m (after n c) ≡ some e → (end_t o ≡ some e) × (calls_t o ≡ calls_m (after n c))
    unfolding end_m calls_m
    ends_back (settled x e1 p) e q = go (dec_le n p.many)
      where
        go : Dec (n ≤ p.many) → (end_t o ≡ some e) × (calls_t o ≡ calls_m (after n c))
        go (yes g) =
            let z : after p.many c ≡ ended e (calls_m (after n c)) = past (record { many = n; comes = is-ended (after n c) e q }) p.many g in
            let y = p.comes in (cc, cc)
        go (no g) = let z = past p n (omega arith) in (e1 ∙ (sym (ap end_m z) ∙ q), sym (ap calls_m z))
    ends_back (going j z1 ρ e1 p g) e q =
        let z : after p.many c ≡ ended e (calls_m (after n c)) = past (record { many = n; comes = is-ended (after n c) e q }) p.many g in
        let y = p.comes in
        let x : ◌≡◌ {A = ℕ} 0 1 = cc in absurd (omega arith)
    ends_back (hung e1 p) e q = go (dec_le n p.many)
      where
        go : Dec (n ≤ p.many) → (end_t o ≡ some e) × (calls_t o ≡ calls_m (after n c))
        go (yes g) =
            let z : after p.many c ≡ ended e (calls_m (after n c)) = past (record { many = n; comes = is-ended (after n c) e q }) p.many g in
            let y = p.comes in
            let x : ◌≡◌ {A = ℕ} 0 1 = cc in absurd (omega arith)
        go (no g) = let z : some e ≡ none = sym q ∙ ap end_m (past-waiting p n (omega arith)) in let x : ◌≡◌ {A = ℕ} 0 1 = cc in absurd (omega arith)

    holds-there : Sum n c o → (h : CallsMade W) → o ≡ held h → (m : ℕ) × (after m c ≡ waiting h)
    unfolding end_t calls_t
    holds-there (settled x e1 p) h q = absurd (none_some (sym (ap end_t q) ∙ e1))
    holds-there (going j z1 ρ e1 p u) h q = let z : ◌≡◌ {A = ℕ} 0 1 = cc in absurd (omega arith)
    holds-there (hung e1 p) h q = (p.many, p.comes ∙ ap (λ x. waiting (calls_t x)) q)

    holds_back : Sum n c o → (h : CallsMade W) → after n c ≡ waiting h → o ≡ held h
    holds_back (settled x e1 p) h q = absurd (not-both (dec_le n p.many))
      where
        not-both : Dec (n ≤ p.many) → ⊥
        not-both (yes g) = let z = past-waiting (record { many = n; comes = q }) p.many g in let y = p.comes in let x : ◌≡◌ {A = ℕ} 0 1 = cc in omega arith
        not-both (no g) = let z = past p n (omega arith) in let x : ◌≡◌ {A = ℕ} 0 1 = cc in omega arith
    holds_back (going j z1 ρ e1 p g) h q =
        let z = past-waiting (record { many = n; comes = q }) p.many g in let y = p.comes in let x : ◌≡◌ {A = ℕ} 0 1 = cc in absurd (omega arith)
    holds_back (hung e1 p) h q = e1 ∙ ap held (one_list (dec_le n p.many))
      where
        one_list : Dec (n ≤ p.many) → calls_t o ≡ h
        one_list (yes g) = let z = past-waiting (record { many = n; comes = q }) p.many g in let y = p.comes in cc
        one_list (no g) = let z = past-waiting p n (omega arith) in cc

  -- the numbered machine shows what the other shows
  from_start : (ρ : Vars W) (n : ℕ) → seen X.code (body_run X.rule X.answers (body X) ρ n) ≡ after n (at X.code [] ρ [])
  unfolding body_run seen
  from_start ρ n = steps_seen X.rule X.answers (body X) n (spot 0 [] ρ [])

  calls-from : (ρ : Vars W) (n : ℕ) → calls_b (body_run X.rule X.answers (body X) ρ n) ≡ calls_m (after n (at X.code [] ρ []))
  calls-from ρ n = sym (calls_seen X.code _) ∙ ap calls_m (from_start ρ n)

  end_from : (ρ : Vars W) (n : ℕ) → end_b (body_run X.rule X.answers (body X) ρ n) ≡ end_m (after n (at X.code [] ρ []))
  end_from ρ n = sym (end_seen X.code _) ∙ ap end_m (from_start ρ n)

  -- a place that is seen as held up is held up
  waits_seen : (s : Spot W) (h : CallsMade W) → seen X.code s ≡ waiting h → s ≡ waits h
  unfolding seen
  waits_seen (spot p q ρ h1) h e = let z : ◌≡◌ {A = ℕ} 0 1 = cc in absurd (omega arith)
  waits_seen (over x h1) h e = let z : ◌≡◌ {A = ℕ} 0 1 = cc in absurd (omega arith)
  waits_seen (waits h1) h e = cc
  waits_seen (lost h1) h e = let z : ◌≡◌ {A = ℕ} 0 1 = cc in absurd (omega arith)

  held-from : (ρ : Vars W) (n : ℕ) (h : CallsMade W) → body_run X.rule X.answers (body X) ρ n ≡ waits h → after n (at X.code [] ρ []) ≡ waiting h
  unfolding seen
  held-from ρ n h e = sym (from_start ρ n) ∙ ap (seen X.code) e

  -- the claim, from the simulation and from a tree's run that with a return type does not pass
  pub share : (tree : ℕ → Ran W) (ρ : Vars W) (result : Option ℕ) → ((n : ℕ) → Sum n (at X.code [] ρ []) (tree n))
      → ((y n : ℕ) → result ≡ some y → end_t (tree n) ≡ some passed → ⊥)
      → Shared tree (body_run X.rule X.answers (body X) ρ) result
  share tree ρ result sums never = record {
    calls = λ k q. (
      (λ (n, e). let r = calls-there (tree n) c n (sums n) k q e in (r.0, rw (calls-from ρ r.0) r.1)),
      (λ (n, e). (n, calls_back (tree n) c n (sums n) k q (rw (calls-from ρ n) at e))),
    );
    ends = λ e h. (
      (λ (n, p, q). let r = ends_there (tree n) c n (sums n) e p in (r.0, end_from ρ r.0 ∙ r.1, calls-from ρ r.0 ∙ (r.2 ∙ q))),
      (λ (n, p, q). let r = ends_back (tree n) c n (sums n) e (sym (end_from ρ n) ∙ p) in (n, r.0, r.1 ∙ (sym (calls-from ρ n) ∙ q))),
    );
    held_up = λ h. (
      (λ (n, e). let r = holds-there (tree n) c n (sums n) h e in (r.0, waits_seen _ h (from_start ρ r.0 ∙ r.1))),
      (λ (n, e). (n, holds_back (tree n) c n (sums n) h (held-from ρ n h e))),
    );
    tree_returns = never;
    body_returns = λ y n e p. let r = ends_back (tree n) c n (sums n) passed (sym (end_from ρ n) ∙ p) in never y n e r.0;
  }
    where
      c : Cfg W
      c = at X.code [] ρ []

-- what is shared contains document 01's claim
pub same_runs : {W : Type 0} {tree : ℕ → Ran W} {body : ℕ → Spot W} {result : Option ℕ} → Shared tree body result → SameRuns tree body result
same_runs s = record {
  calls = λ k g us. s.calls k (g, us);
  ends = λ e. (
    (λ (n, p). let r = (s.ends e _).0 (n, p, refl) in (r.0, r.1)),
    (λ (n, p). let r = (s.ends e _).1 (n, p, refl) in (r.0, r.1)),
  );
  tree_returns = s.tree_returns;
  body_returns = s.body_returns;
}
