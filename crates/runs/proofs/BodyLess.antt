-- The body's run only adds calls, with more steps and with one who answers more; what it came to stays.
-- By induction on the steps; the two runs stand at one place until the one is held up.
use mathlib.Core.Path.{◌≡◌, refl, sym, ◌∙◌, ap}
use mathlib.Core.List.{List, [], ◌++◌}
use mathlib.Core.Option.{Option, none, some}
use Prim.Native.Nat.{ℕ, zero, suc, ◌+◌, ◌-◌, ◌≤◌}
use native.Mathlib.Nat.{zero-add, suc-add}
use native.Mathlib.Omega.{arith}
use lib.ListN.{get_elem?}
use Rattle.laws.proofs.Prefixes.{Prefix, prefix_refl, prefix_trans, prefix_append}
use Rattle.conversion.specs.Ir.{VarId, Instr, Copy, Unary, Binary, Cast, Zero, Arg, Call, Label, Jump, JumpIfNot, Return, Comment}
use Rattle.runs.specs.Rule.{ValueOrStop, gives, halt, Truth, holds, fails, halts, TypedValue, CallsMade, Rule, Reply, comes, pending, Answers, Ending}
use Rattle.runs.specs.BodyRun.{FlatBody, Vars, Spot, spot, over, waits, lost, put_to, drop_to, put_reply, drop_reply, jump_to, branch_to, finish_with, operand, execute, fetch, step, steps, body_run}
use Rattle.runs.specs.Shared.{calls_b, end_b}
use Rattle.runs.proofs.Less.{AsReply, Extends, prefix_under}

-- an instruction of the body calls the function of this record
pub record CallIn (B : FlatBody) (g : ℕ) : Type 0 where
  pub place : ℕ
  pub destination : Option VarId
  pub there : get_elem? B.instrs place ≡ some (Call destination g)

abbrev pub BelowB : {W : Type 0} → Spot W → Spot W → Type 0
BelowB (spot p q ρ h) s = s ≡ spot p q ρ h
BelowB (over e h) s = s ≡ over e h
BelowB (lost h) s = s ≡ lost h
BelowB (waits h) s = Prefix h (calls_b s)

self_B : {W : Type 0} (s : Spot W) → BelowB s s
unfolding calls_b
self_B (spot p q ρ h) = refl
self_B (over e h) = refl
self_B (lost h) = refl
self_B (waits h) = prefix_refl

-- ---- the calls behind a step

put_calls : {W : Type 0} (u : ValueOrStop W) (d p : ℕ) (q : List (TypedValue W)) (ρ : Vars W) (h : CallsMade W) → calls_b (put_to u d p q ρ h) ≡ h
unfolding put_to calls_b
put_calls (gives v) d p q ρ h = refl
put_calls halt d p q ρ h = refl

drop-calls : {W : Type 0} (u : ValueOrStop W) (p : ℕ) (q : List (TypedValue W)) (ρ : Vars W) (h : CallsMade W) → calls_b (drop_to u p q ρ h) ≡ h
unfolding drop_to calls_b
drop-calls (gives v) p q ρ h = refl
drop-calls halt p q ρ h = refl

reply_calls : {W : Type 0} (r : Reply W) (d p : ℕ) (q : List (TypedValue W)) (ρ : Vars W) (h : CallsMade W) → calls_b (put_reply r d p q ρ h) ≡ h
unfolding put_reply calls_b
reply_calls (comes u) d p q ρ h = put_calls u d p q ρ h
reply_calls pending d p q ρ h = refl

dropped_calls : {W : Type 0} (r : Reply W) (p : ℕ) (q : List (TypedValue W)) (ρ : Vars W) (h : CallsMade W) → calls_b (drop_reply r p q ρ h) ≡ h
unfolding drop_reply calls_b
dropped_calls (comes u) p q ρ h = drop-calls u p q ρ h
dropped_calls pending p q ρ h = refl

jump_calls : {W : Type 0} (o : Option ℕ) (q : List (TypedValue W)) (ρ : Vars W) (h : CallsMade W) → calls_b (jump_to o q ρ h) ≡ h
unfolding jump_to calls_b
jump_calls (some p) q ρ h = refl
jump_calls none q ρ h = refl

branch_calls : {W : Type 0} (t : Truth) (p : ℕ) (o : Option ℕ) (q : List (TypedValue W)) (ρ : Vars W) (h : CallsMade W) → calls_b (branch_to t p o q ρ h) ≡ h
unfolding branch_to calls_b
branch_calls holds p o q ρ h = refl
branch_calls fails p o q ρ h = jump_calls o q ρ h
branch_calls halts p o q ρ h = refl

finish-calls : {W : Type 0} (u : ValueOrStop W) (h : CallsMade W) → calls_b (finish_with u h) ≡ h
unfolding finish_with calls_b
finish-calls (gives v) h = refl
finish-calls halt h = refl

-- ---- a reply

put_less : {W : Type 0} (r : Reply W) (c : CallsMade W) (s : Reply W) (d : CallsMade W) (x p : ℕ) (q : List (TypedValue W)) (ρ : Vars W) (h : CallsMade W) → AsReply r c s d
    → BelowB (put_reply r x p q ρ (h ++ c)) (put_reply s x p q ρ (h ++ d))
unfolding put_reply
put_less (comes u) c s d x p q ρ h e = rw (e.0, e.1) (self_B (put_to u x p q ρ (h ++ c)))
put_less pending c s d x p q ρ h e = rw (reply_calls s x p q ρ (h ++ d)) (prefix_under h c d e)

drop-less : {W : Type 0} (r : Reply W) (c : CallsMade W) (s : Reply W) (d : CallsMade W) (p : ℕ) (q : List (TypedValue W)) (ρ : Vars W) (h : CallsMade W) → AsReply r c s d
    → BelowB (drop_reply r p q ρ (h ++ c)) (drop_reply s p q ρ (h ++ d))
unfolding drop_reply
drop-less (comes u) c s d p q ρ h e = rw (e.0, e.1) (self_B (drop_to u p q ρ (h ++ c)))
drop-less pending c s d p q ρ h e = rw (dropped_calls s p q ρ (h ++ d)) (prefix_under h c d e)

module _ {W : Type 0} (R : Rule W) (B : FlatBody) where
  exec_grows : (A : Answers W) (i : Instr) (p : ℕ) (q : List (TypedValue W)) (ρ : Vars W) (h : CallsMade W) → Prefix h (calls_b (execute R A B i p q ρ h))
  unfolding execute calls_b
  exec_grows A (Copy d a) p q ρ h = rw put_calls prefix_refl
  exec_grows A (Unary d o a) p q ρ h = rw put_calls prefix_refl
  exec_grows A (Binary d o a b) p q ρ h = rw put_calls prefix_refl
  exec_grows A (Cast d a) p q ρ h = rw put_calls prefix_refl
  exec_grows A (Zero d) p q ρ h = rw put_calls prefix_refl
  exec_grows A (Arg a) p q ρ h = prefix_refl
  exec_grows A (Call (some d) g) p q ρ h = rw reply_calls (prefix_append h _)
  exec_grows A (Call none g) p q ρ h = rw dropped_calls (prefix_append h _)
  exec_grows A (Label l) p q ρ h = prefix_refl
  exec_grows A (Jump l) p q ρ h = rw jump_calls prefix_refl
  exec_grows A (JumpIfNot a l) p q ρ h = rw branch_calls prefix_refl
  exec_grows A (Return a) p q ρ h = rw finish-calls prefix_refl
  exec_grows A (Comment r) p q ρ h = prefix_refl

  step_grows : (A : Answers W) (c : Spot W) → Prefix (calls_b c) (calls_b (step R A B c))
  unfolding step fetch calls_b
  step_grows A (spot p q ρ h) = go (get_elem? B.instrs p)
    where
      go : (o : Option Instr) → Prefix h (calls_b (fetch R A B o p q ρ h))
      go none = prefix_refl
      go (some i) = exec_grows A i (suc p) q ρ h
  step_grows A (over e h) = prefix_refl
  step_grows A (waits h) = prefix_refl
  step_grows A (lost h) = prefix_refl

  steps_grow : (A : Answers W) (n : ℕ) (c : Spot W) → Prefix (calls_b c) (calls_b (steps R A B n c))
  unfolding steps
  steps_grow A zero c = prefix_refl
  steps_grow A (suc n) c = prefix_trans (step_grows A c) (steps_grow A n (step R A B c))

  module _ (A C : Answers W) (more : Extends (CallIn B) A C) where
    exec_less : (i : Instr) (p k : ℕ) (q : List (TypedValue W)) (ρ : Vars W) (h : CallsMade W) → get_elem? B.instrs k ≡ some i → BelowB (execute R A B i p q ρ h) (execute R C B i p q ρ h)
    unfolding execute operand
    exec_less (Copy d a) p k q ρ h e = self_B (execute R C B (Copy d a) p q ρ h)
    exec_less (Unary d o a) p k q ρ h e = self_B (execute R C B (Unary d o a) p q ρ h)
    exec_less (Binary d o a b) p k q ρ h e = self_B (execute R C B (Binary d o a b) p q ρ h)
    exec_less (Cast d a) p k q ρ h e = self_B (execute R C B (Cast d a) p q ρ h)
    exec_less (Zero d) p k q ρ h e = self_B (execute R C B (Zero d) p q ρ h)
    exec_less (Arg a) p k q ρ h e = refl
    exec_less (Call (some d) g) p k q ρ h e = put_less _ _ _ _ d.id p [] ρ h (more h g (some d.ty) q (record { place = k; destination = some d; there = e }))
    exec_less (Call none g) p k q ρ h e = drop-less _ _ _ _ p [] ρ h (more h g none q (record { place = k; destination = none; there = e }))
    exec_less (Label l) p k q ρ h e = refl
    exec_less (Jump l) p k q ρ h e = self_B (execute R C B (Jump l) p q ρ h)
    exec_less (JumpIfNot a l) p k q ρ h e = self_B (execute R C B (JumpIfNot a l) p q ρ h)
    exec_less (Return a) p k q ρ h e = self_B (execute R C B (Return a) p q ρ h)
    exec_less (Comment r) p k q ρ h e = refl

    step_less : (c d : Spot W) → BelowB c d → BelowB (step R A B c) (step R C B d)
    unfolding step fetch
    step_less (spot p q ρ h) d e = rw e (go (get_elem? B.instrs p) refl)
      where
        go : (o : Option Instr) → get_elem? B.instrs p ≡ o → BelowB (fetch R A B o p q ρ h) (fetch R C B o p q ρ h)
        go none z = refl
        go (some i) z = exec_less i (suc p) p q ρ h z
    step_less (over x h) d e = rw e refl
    step_less (lost h) d e = rw e refl
    step_less (waits h) d e = prefix_trans e (step_grows C d)

    steps-less : (n : ℕ) (c d : Spot W) → BelowB c d → BelowB (steps R A B n c) (steps R C B n d)
    unfolding steps
    steps-less zero c d e = e
    steps-less (suc n) c d e = steps-less n (step R A B c) (step R C B d) (step_less c d e)

    -- after as many steps the two runs stand at one place, or the one is held up and its calls are the beginning of the other's
    pub body_below : (ρ : Vars W) (n : ℕ) → BelowB (body_run R A B ρ n) (body_run R C B ρ n)
    unfolding body_run
    body_below ρ n = steps-less n (spot 0 [] ρ []) (spot 0 [] ρ []) refl

  -- ---- more steps

  steps-add : (A : Answers W) (n k : ℕ) (c : Spot W) → steps R A B (n + k) c ≡ steps R A B k (steps R A B n c)
  unfolding steps
  steps-add A zero k c = rw (zero-add k) refl
  steps-add A (suc n) k c = rw (suc-add n k) (steps-add A n k (step R A B c))

  later : (A : Answers W) (ρ : Vars W) (n m : ℕ) → n ≤ m → body_run R A B ρ m ≡ steps R A B (m - n) (body_run R A B ρ n)
  unfolding body_run
  later A ρ n m g = ap (λ k. steps R A B k (spot 0 [] ρ [])) (omega arith) ∙ steps-add A n (m - n) (spot 0 [] ρ [])

  over-stays : (A : Answers W) (n : ℕ) (e : Ending W) (h : CallsMade W) → steps R A B n (over e h) ≡ over e h
  unfolding steps step
  over-stays A zero e h = refl
  over-stays A (suc n) e h = over-stays A n e h

  below-calls : (r s : Spot W) → BelowB r s → Prefix (calls_b r) (calls_b s)
  unfolding calls_b
  below-calls (spot p q ρ h) s e = rw e prefix_refl
  below-calls (over x h) s e = rw e prefix_refl
  below-calls (lost h) s e = rw e prefix_refl
  below-calls (waits h) s e = e

  below-over : (r s : Spot W) (x : Ending W) → end_b r ≡ some x → BelowB r s → (s ≡ r) × (r ≡ over x (calls_b r))
  unfolding end_b calls_b
  below-over (spot p q ρ h) s x z e = let w : ◌≡◌ {A = ℕ} 0 1 = cc in absurd (omega arith)
  below-over (over y h) s x z e = (e, cc)
  below-over (lost h) s x z e = let w : ◌≡◌ {A = ℕ} 0 1 = cc in absurd (omega arith)
  below-over (waits h) s x z e = let w : ◌≡◌ {A = ℕ} 0 1 = cc in absurd (omega arith)

  module _ (A C : Answers W) (more : Extends (CallIn B) A C) (ρ : Vars W) (n m : ℕ) (i : n ≤ m) where
    -- calls only grow
    pub body-calls_grow : Prefix (calls_b (body_run R A B ρ n)) (calls_b (body_run R C B ρ m))
    body-calls_grow = rw (later C ρ n m i) (prefix_trans (below-calls _ _ (body_below A C more ρ n)) (steps_grow C (m - n) (body_run R C B ρ n)))

    -- a run that ended is what every further one comes to
    pub body_end_stays : (x : Ending W) → end_b (body_run R A B ρ n) ≡ some x → body_run R C B ρ m ≡ body_run R A B ρ n
    body_end_stays x e =
        let p = below-over (body_run R A B ρ n) (body_run R C B ρ n) x e (body_below A C more ρ n) in
        later C ρ n m i ∙ (ap (λ s. steps R C B (m - n) s) (p.0 ∙ p.1) ∙ (over-stays C (m - n) x (calls_b (body_run R A B ρ n)) ∙ sym p.1))
