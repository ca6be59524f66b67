-- The body's run with the rest of the code for its place, how its steps chain, and that labels which are placed once lead to their place.
-- By computation, and by counting how often a label is placed.
use mathlib.Core.Path.{◌≡◌, refl, sym, ◌∙◌, ap, subst, subst⁻¹}
use mathlib.Core.Logic.{◌≢◌}
use mathlib.Core.List.{List, [], ◌∷◌, ◌++◌, append_assoc, append-nil}
use mathlib.Core.Option.{Option, none, some}
use mathlib.Core.Bool.{Bool, true, false}
use Prim.Native.Nat.{ℕ, zero, suc, ◌+◌, ◌≤◌}
use native.Mathlib.Nat.{zero-add, suc-add}
use native.Mathlib.Omega.{arith}
use lib.Dec.{eqb, T, eqb→eq, eqb_refl}
use Rattle.laws.specs.Fix.{pick}
use Rattle.conversion.specs.Ir.{Operand, Instr, Copy, Unary, Binary, Cast, Zero, Arg, Call, Label, Jump, JumpIfNot, Return, Comment}
use Rattle.runs.specs.Rule.{ValueOrStop, gives, halt, Truth, holds, fails, halts, TypedValue, CallsMade, Rule, Reply, comes, pending, Answers, Datum, read, read_all, Ending, passed, returns, halted}
use Rattle.runs.specs.BodyRun.{FlatBody, Vars, write, datum, is_label, operand}
use Rattle.runs.proofs.Opens.{bit}

abbrev pub Code : Type 0
Code = List Instr

abbrev pub Queue : Type 0 → Type 0
Queue W = List (TypedValue W)

pub data Cfg (W : Type 0) : Type 0 where
  at : Code → Queue W → Vars W → CallsMade W → Cfg W
  ended : Ending W → CallsMade W → Cfg W
  waiting : CallsMade W → Cfg W
  astray : CallsMade W → Cfg W

-- ---- tests on numbers

pub T_true : (b : Bool) → T b → b ≡ true
T_true true t = refl
T_true false t = absurd t

pub true_T : {b : Bool} → b ≡ true → T b
true_T e = subst⁻¹ T e tt

pub data Same (x l : ℕ) : Type 0 where
  is : x ≡ l → eqb x l ≡ true → Same x l
  isnt : x ≢ l → eqb x l ≡ false → Same x l

pub same : (x l : ℕ) → Same x l
same x l = go (eqb x l) refl
  where
    go : (b : Bool) → eqb x l ≡ b → Same x l
    go true e = is (eqb→eq x l (true_T e)) e
    go false e = isnt (λ p. absurd (subst T (sym (ap (eqb x) (sym p)) ∙ e) (eqb_refl x))) e

pub eqb_same : (x : ℕ) → eqb x x ≡ true
eqb_same x = T_true (eqb x x) (eqb_refl x)

pub write_same : {W : Type 0} (ρ : Vars W) (d : ℕ) (v : W) → write ρ d v d ≡ v
unfolding write pick
write_same ρ d v = rw (eqb_same d) refl

pub write-other : {W : Type 0} (ρ : Vars W) (d x : ℕ) (v : W) → x ≢ d → write ρ d v x ≡ ρ x
unfolding write pick
write-other ρ d x v n = go (same x d)
  where
    go : Same x d → pick (eqb x d) v (ρ x) ≡ ρ x
    go (is p q) = absurd (n p)
    go (isnt p q) = rw q refl

-- ---- labels

-- how often the label l is placed
unfoldable pub count : ℕ → Code → ℕ
count l [] = 0
count l (i ∷ r) = bit (is_label l i) + count l r

pub count-append : (l : ℕ) (a b : Code) → count l (a ++ b) ≡ count l a + count l b
unfolding count
count-append l [] b = omega arith
count-append l (i ∷ r) b = let h = count-append l r b in omega arith

-- the code from a label on, if it is placed
unfoldable pub goto : Code → ℕ → Option Code
goto [] l = none
goto (i ∷ r) l = elim (is_label l i) [ true ↦ some (i ∷ r) | false ↦ goto r l ]

pub goto_skip : (l : ℕ) (a b : Code) → count l a ≡ 0 → goto (a ++ b) l ≡ goto b l
unfolding count goto
goto_skip l [] b h = refl
goto_skip l (i ∷ r) b h = go (is_label l i) refl (λ h1. goto_skip l r b h1)
  where
    go : (x : Bool) → is_label l i ≡ x → (count l r ≡ 0 → goto (r ++ b) l ≡ goto b l) → goto ((i ∷ r) ++ b) l ≡ goto b l
    go true e k = absurd (omega (arith, ap bit e))
    go false e k = rw (e, goto) (k (omega arith))

pub goto_here : (l : ℕ) (b : Code) → goto (Label l ∷ b) l ≡ some (Label l ∷ b)
unfolding goto is_label
goto_here l b = rw (eqb_same l, goto) refl

-- the labels of a last part of C lead to where they are placed
abbrev pub AtLabel : Code → Instr → Code → Type 0
AtLabel C (Copy d o) r = Unit {0}
AtLabel C (Unary d o a) r = Unit {0}
AtLabel C (Binary d o a b) r = Unit {0}
AtLabel C (Cast d o) r = Unit {0}
AtLabel C (Zero d) r = Unit {0}
AtLabel C (Arg o) r = Unit {0}
AtLabel C (Call d f) r = Unit {0}
AtLabel C (Label m) r = goto C m ≡ some (Label m ∷ r)
AtLabel C (Jump m) r = Unit {0}
AtLabel C (JumpIfNot o m) r = Unit {0}
AtLabel C (Return o) r = Unit {0}
AtLabel C (Comment s) r = Unit {0}

abbrev pub Placed : Code → Code → Type 0
Placed C [] = Unit {0}
Placed C (i ∷ r) = AtLabel C i r × Placed C r

pub placed-drop : (C a b : Code) → Placed C (a ++ b) → Placed C b
placed-drop C [] b p = p
placed-drop C (i ∷ r) b p = placed-drop C r b p.1

placed-from : (C a b : Code) → a ++ b ≡ C → ((l : ℕ) → count l C ≤ 1) → Placed C b
unfolding count is_label
placed-from C a [] e h = tt
placed-from C a (i ∷ r) e h = (go i e, placed-from C (a ++ (i ∷ [])) r (rw append_assoc e) h)
  where
    there : (l : ℕ) → a ++ (Label l ∷ r) ≡ C → goto C l ≡ some (Label l ∷ r)
    there l e1 = rw (← e1) (goto_skip l a (Label l ∷ r) (omega (arith, h l, ap (count l) e1, count-append l a (Label l ∷ r), ap bit (eqb_same l))) ∙ goto_here l r)

    go : (j : Instr) → a ++ (j ∷ r) ≡ C → AtLabel C j r
    go (Copy d o) e1 = tt
    go (Unary d o x) e1 = tt
    go (Binary d o x z) e1 = tt
    go (Cast d o) e1 = tt
    go (Zero d) e1 = tt
    go (Arg o) e1 = tt
    go (Call d f) e1 = tt
    go (Label m) e1 = there m e1
    go (Jump m) e1 = tt
    go (JumpIfNot o m) e1 = tt
    go (Return o) e1 = tt
    go (Comment s) e1 = tt

pub placed : (C : Code) → ((l : ℕ) → count l C ≤ 1) → Placed C C
placed C h = placed-from C [] C refl h

-- ---- the machine

unfoldable pub put : {W : Type 0} → ValueOrStop W → ℕ → Code → Queue W → Vars W → CallsMade W → Cfg W
put (gives v) d r q ρ h = at r q (write ρ d v) h
put halt d r q ρ h = ended halted h

unfoldable pub pass : {W : Type 0} → ValueOrStop W → Code → Queue W → Vars W → CallsMade W → Cfg W
pass (gives v) r q ρ h = at r q ρ h
pass halt r q ρ h = ended halted h

unfoldable pub put_r : {W : Type 0} → Reply W → ℕ → Code → Queue W → Vars W → CallsMade W → Cfg W
put_r (comes u) d r q ρ h = put u d r q ρ h
put_r pending d r q ρ h = waiting h

unfoldable pub pass_r : {W : Type 0} → Reply W → Code → Queue W → Vars W → CallsMade W → Cfg W
pass_r (comes u) r q ρ h = pass u r q ρ h
pass_r pending r q ρ h = waiting h

-- a jump to the code from a label on
unfoldable pub aim : {W : Type 0} → Option Code → Queue W → Vars W → CallsMade W → Cfg W
aim (some r) q ρ h = at r q ρ h
aim none q ρ h = astray h

pub aim_at : {W : Type 0} (o : Option Code) (r : Code) (q : Queue W) (ρ : Vars W) (h : CallsMade W) → o ≡ some r → aim o q ρ h ≡ at r q ρ h
unfolding aim
aim_at o r q ρ h e = rw e refl

unfoldable pub branch : {W : Type 0} → Truth → Code → Option Code → Queue W → Vars W → CallsMade W → Cfg W
branch holds r s q ρ h = at r q ρ h
branch fails r s q ρ h = aim s q ρ h
branch halts r s q ρ h = ended halted h

unfoldable pub finish : {W : Type 0} → ValueOrStop W → CallsMade W → Cfg W
finish (gives v) h = ended (returns v) h
finish halt h = ended halted h

unfoldable pub arg_code : List Operand → Code
arg_code [] = []
arg_code (o ∷ os) = Arg o ∷ arg_code os

module _ {W : Type 0} (R : Rule W) (A : Answers W) (B : FlatBody) where
  unfoldable pub exec : Instr → Code → Queue W → Vars W → CallsMade W → Cfg W
  exec (Copy d a) r q ρ h = put (R.copy d.ty (operand R A B ρ a)) d.id r q ρ h
  exec (Unary d o a) r q ρ h = put (R.unary o d.ty (operand R A B ρ a)) d.id r q ρ h
  exec (Binary d o a b) r q ρ h = put (R.binary o d.ty (operand R A B ρ a) (operand R A B ρ b)) d.id r q ρ h
  exec (Cast d a) r q ρ h = put (R.cast d.ty (operand R A B ρ a)) d.id r q ρ h
  exec (Zero d) r q ρ h = put (R.zero d.ty) d.id r q ρ h
  exec (Arg a) r q ρ h = at r (q ++ (operand R A B ρ a ∷ [])) ρ h
  exec (Call (some d) f) r q ρ h = put_r (A h f (some d.ty) q).0 d.id r [] ρ (h ++ (A h f (some d.ty) q).1)
  exec (Call none f) r q ρ h = pass_r (A h f none q).0 r [] ρ (h ++ (A h f none q).1)
  exec (Label l) r q ρ h = at r q ρ h
  exec (Jump l) r q ρ h = aim (goto B.instrs l) q ρ h
  exec (JumpIfNot a l) r q ρ h = branch (R.truth (operand R A B ρ a)) r (goto B.instrs l) q ρ h
  exec (Return a) r q ρ h = finish (R.return B.result (operand R A B ρ a)) h
  exec (Comment s) r q ρ h = at r q ρ h

  unfoldable pub step : Cfg W → Cfg W
  step (at [] q ρ h) = ended passed h
  step (at (i ∷ r) q ρ h) = exec i r q ρ h
  step (ended e h) = ended e h
  step (waiting h) = waiting h
  step (astray h) = astray h

  unfoldable pub steps : ℕ → Cfg W → Cfg W
  steps zero c = c
  steps (suc n) c = steps n (step c)

  pub steps-add : (m n : ℕ) (c : Cfg W) → steps (m + n) c ≡ steps n (steps m c)
  unfolding steps
  steps-add zero n c = rw (zero-add n) refl
  steps-add (suc m) n c = rw (suc-add m n) (steps-add m n (step c))

  -- the body's run comes from c to d
  pub record To (c d : Cfg W) : Type 0 where
    pub many : ℕ
    pub comes : steps many c ≡ d

  unfoldable pub here : {c : Cfg W} → To c c
  unfolding steps
  here = record { many = 0; comes = refl }

  unfoldable pub to_trans : {c d e : Cfg W} → To c d → To d e → To c e
  to_trans {c} {d} {e} p q = record {
    many = p.many + q.many;
    comes = steps-add p.many q.many c ∙ (ap (steps q.many) p.comes ∙ q.comes);
  }

  unfoldable pub one : {c d : Cfg W} → step c ≡ d → To c d
  unfolding steps
  one p = record { many = 1; comes = p }

  pub to_label : {l : ℕ} {k : Code} {q : Queue W} {ρ : Vars W} {h : CallsMade W} → goto B.instrs l ≡ some (Label l ∷ k) → To (aim (goto B.instrs l) q ρ h) (at k q ρ h)
  unfolding step exec aim
  to_label e = rw e (one refl)

  -- what operands hold
  unfoldable pub dat : Vars W → Operand → Datum W
  dat ρ o = datum B.strings B.floats ρ o

  unfoldable pub dats : Vars W → List Operand → List (Datum W)
  dats ρ [] = []
  dats ρ (o ∷ os) = dat ρ o ∷ dats ρ os

  pub push : (os : List Operand) (k : Code) (q : Queue W) (ρ : Vars W) (h : CallsMade W)
      → To (at (arg_code os ++ k) q ρ h) (at k (q ++ read_all R (dats ρ os)) ρ h)
  unfolding arg_code dats dat read_all step exec operand
  push [] k q ρ h = rw append-nil here
  push (o ∷ os) k q ρ h = rw (← append_assoc q (read R (dat ρ o) ∷ []) (read_all R (dats ρ os)))
      (to_trans (one refl) (push os k (q ++ (read R (dat ρ o) ∷ [])) ρ h))
