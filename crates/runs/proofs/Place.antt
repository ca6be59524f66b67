-- The machine with a number for its place, seen as the rest of the code from there on, does the same steps.
-- By cases on the instruction at a place; a label's place is where the code from that label on begins.
use mathlib.Core.Path.{◌≡◌, refl, ◌∙◌, ap}
use mathlib.Core.List.{[], ◌∷◌}
use mathlib.Core.Option.{Option, none, some}
use Prim.Native.Nat.{ℕ, zero, suc}
use mathlib.Core.Bool.{Bool, true, false}
use lib.ListN.{get_elem?, drop}
use Rattle.conversion.specs.Ir.{Instr, Copy, Unary, Binary, Cast, Zero, Arg, Call, Label, Jump, JumpIfNot, Return, Comment}
use Rattle.runs.specs.Rule.{ValueOrStop, gives, halt, Truth, holds, fails, halts, CallsMade, Rule, Reply, comes, pending, Answers}
use Rattle.runs.specs.BodyRun as P
use Rattle.runs.specs.BodyRun.{FlatBody, Vars, is_label, one_on, label_place, Spot, spot, over, waits, lost, put_to, drop_to, put_reply, drop_reply, jump_to, branch_to, finish_with, execute, fetch}
use Rattle.runs.proofs.Machine.{Code, Queue, Cfg, at, ended, waiting, astray, goto, put, pass, put_r, pass_r, aim, branch, finish, exec, step, steps}

-- a place as the rest from there on
unfoldable pub seen : {W : Type 0} → Code → Spot W → Cfg W
seen C (spot p q ρ h) = at (drop p C) q ρ h
seen C (over e h) = ended e h
seen C (waits h) = waiting h
seen C (lost h) = astray h

-- the rest from a place on, if there is one
unfoldable rest_from : Code → Option ℕ → Option Code
rest_from C none = none
rest_from C (some p) = some (drop p C)

rest-on : (i : Instr) (r : Code) (o : Option ℕ) → rest_from (i ∷ r) (one_on o) ≡ rest_from r o
unfolding rest_from one_on
rest-on i r none = refl
rest-on i r (some p) = refl

label_rest : (C : Code) (l : ℕ) → rest_from C (label_place C l) ≡ goto C l
unfolding label_place goto rest_from
label_rest [] l = refl
label_rest (i ∷ r) l = go (is_label l i) (label_rest r l)
  where
    go : (b : Bool) → rest_from r (label_place r l) ≡ goto r l
        → rest_from (i ∷ r) (elim b as (λ x. Option ℕ) [ true ↦ some 0 | false ↦ one_on (label_place r l) ]) ≡ elim b as (λ x. Option Code) [ true ↦ some (i ∷ r) | false ↦ goto r l ]
    go true e = refl
    go false e = rest-on i r (label_place r l) ∙ e

-- what stands at a place
data View (C : Code) (p : ℕ) : Type 0 where
  off : get_elem? C p ≡ none → drop p C ≡ [] → View C p
  on : (i : Instr) → get_elem? C p ≡ some i → drop p C ≡ i ∷ drop (suc p) C → View C p

view : (C : Code) (p : ℕ) → View C p
view [] zero = off refl refl
view [] (suc p) = off refl refl
view (i ∷ r) zero = on i refl refl
view (i ∷ r) (suc p) = go (view r p)
  where
    go : View r p → View (i ∷ r) (suc p)
    go (off e f) = off e f
    go (on j e f) = on j e f

module _ {W : Type 0} (R : Rule W) (A : Answers W) (B : FlatBody) where
  put_seen : (u : ValueOrStop W) (d p : ℕ) (q : Queue W) (ρ : Vars W) (h : CallsMade W) → seen B.instrs (put_to u d p q ρ h) ≡ put u d (drop p B.instrs) q ρ h
  unfolding seen put_to put
  put_seen (gives v) d p q ρ h = refl
  put_seen halt d p q ρ h = refl

  pass_seen : (u : ValueOrStop W) (p : ℕ) (q : Queue W) (ρ : Vars W) (h : CallsMade W) → seen B.instrs (drop_to u p q ρ h) ≡ pass u (drop p B.instrs) q ρ h
  unfolding seen drop_to pass
  pass_seen (gives v) p q ρ h = refl
  pass_seen halt p q ρ h = refl

  reply_seen : (u : Reply W) (d p : ℕ) (q : Queue W) (ρ : Vars W) (h : CallsMade W) → seen B.instrs (put_reply u d p q ρ h) ≡ put_r u d (drop p B.instrs) q ρ h
  unfolding seen put_reply put_r
  reply_seen (comes u) d p q ρ h = put_seen u d p q ρ h
  reply_seen pending d p q ρ h = refl

  drop_seen : (u : Reply W) (p : ℕ) (q : Queue W) (ρ : Vars W) (h : CallsMade W) → seen B.instrs (drop_reply u p q ρ h) ≡ pass_r u (drop p B.instrs) q ρ h
  unfolding seen drop_reply pass_r
  drop_seen (comes u) p q ρ h = pass_seen u p q ρ h
  drop_seen pending p q ρ h = refl

  jump_seen : (o : Option ℕ) (q : Queue W) (ρ : Vars W) (h : CallsMade W) → seen B.instrs (jump_to o q ρ h) ≡ aim (rest_from B.instrs o) q ρ h
  unfolding seen jump_to aim rest_from
  jump_seen (some p) q ρ h = refl
  jump_seen none q ρ h = refl

  label_seen : (l : ℕ) (q : Queue W) (ρ : Vars W) (h : CallsMade W) → seen B.instrs (jump_to (label_place B.instrs l) q ρ h) ≡ aim (goto B.instrs l) q ρ h
  label_seen l q ρ h = jump_seen (label_place B.instrs l) q ρ h ∙ ap (λ o. aim o q ρ h) (label_rest B.instrs l)

  branch_seen : (u : Truth) (p l : ℕ) (q : Queue W) (ρ : Vars W) (h : CallsMade W)
      → seen B.instrs (branch_to u p (label_place B.instrs l) q ρ h) ≡ branch u (drop p B.instrs) (goto B.instrs l) q ρ h
  unfolding seen branch_to branch
  branch_seen holds p l q ρ h = refl
  branch_seen fails p l q ρ h = label_seen l q ρ h
  branch_seen halts p l q ρ h = refl

  finish_seen : (u : ValueOrStop W) (h : CallsMade W) → seen B.instrs (finish_with u h) ≡ finish u h
  unfolding seen finish_with finish
  finish_seen (gives v) h = refl
  finish_seen halt h = refl

  exec_seen : (i : Instr) (p : ℕ) (q : Queue W) (ρ : Vars W) (h : CallsMade W) → seen B.instrs (execute R A B i p q ρ h) ≡ exec R A B i (drop p B.instrs) q ρ h
  unfolding seen execute exec
  exec_seen (Copy d a) p q ρ h = put_seen _ _ p q ρ h
  exec_seen (Unary d o a) p q ρ h = put_seen _ _ p q ρ h
  exec_seen (Binary d o a b) p q ρ h = put_seen _ _ p q ρ h
  exec_seen (Cast d a) p q ρ h = put_seen _ _ p q ρ h
  exec_seen (Zero d) p q ρ h = put_seen _ _ p q ρ h
  exec_seen (Arg a) p q ρ h = refl
  exec_seen (Call (some d) f) p q ρ h = reply_seen _ _ p [] ρ _
  exec_seen (Call none f) p q ρ h = drop_seen _ p [] ρ _
  exec_seen (Label l) p q ρ h = refl
  exec_seen (Jump l) p q ρ h = label_seen l q ρ h
  exec_seen (JumpIfNot a l) p q ρ h = branch_seen _ p l q ρ h
  exec_seen (Return a) p q ρ h = finish_seen _ h
  exec_seen (Comment s) p q ρ h = refl

  step_seen : (c : Spot W) → seen B.instrs (P.step R A B c) ≡ step R A B (seen B.instrs c)
  unfolding seen P.step step fetch
  step_seen (over e h) = refl
  step_seen (waits h) = refl
  step_seen (lost h) = refl
  step_seen (spot p q ρ h) = go (view B.instrs p)
    where
      go : View B.instrs p → seen B.instrs (fetch R A B (get_elem? B.instrs p) p q ρ h) ≡ step R A B (at (drop p B.instrs) q ρ h)
      go (off e f) = rw (e, f) refl
      go (on i e f) = rw (e, f) (exec_seen i (suc p) q ρ h)

  -- the numbered machine, seen, is the other
  pub steps_seen : (n : ℕ) (c : Spot W) → seen B.instrs (P.steps R A B n c) ≡ steps R A B n (seen B.instrs c)
  unfolding P.steps steps
  steps_seen zero c = refl
  steps_seen (suc n) c = steps_seen n (P.step R A B c) ∙ ap (steps R A B n) (step_seen c)
