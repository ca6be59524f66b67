-- What it means that converted code does what the tree's run says, for expressions, and how such facts chain.
-- By cases on what the tree's run came to.
use mathlib.Core.Path.{◌≡◌, refl, sym, ◌∙◌, ap}
use mathlib.Core.List.{List, [], ◌∷◌, ◌++◌}
use mathlib.Core.Option.{Option, some}
use mathlib.Core.Bool.{true}
use Prim.Native.Nat.{ℕ, zero, suc, ◌≤◌, ◌<◌}
use native.Mathlib.Nat.{le_refl}
use native.Mathlib.Omega.{arith}
use lib.Dec.{eqb}
use lib.ListN.{length, get_or}
use Rattle.laws.proofs.Prefixes.{Prefix, prefix_trans, prefix_length}
use Rattle.syntax.specs.Syntax.{Function, Program}
use Rattle.conversion.specs.Ir.{VarId, Operand, OVar, OInt, OFloat, OBool, ODataAddress, ONull, Instr, Label, LabelName, loop_start, StringEntry, texts, FloatEntry, State, made, M, position, same_label, same_text, same_float}
use Rattle.conversion.specs.Scope.{Variable}
use Rattle.conversion.specs.Expressions.{Functions}
use Rattle.runs.specs.Rule.{ValueOrStop, gives, halt, Truth, holds, fails, halts, CallsMade, Rule, Reply, comes, pending, Answers, Datum, computed, halted}
use Rattle.runs.specs.TreeRun.{Values, Got, value, stop, wait, bind_g, answered, replied, test}
use Rattle.runs.specs.BodyRun.{FlatBody, Vars, write, datum}
use Rattle.runs.proofs.Opens.{bit}
use Rattle.runs.proofs.Machine.{Code, Queue, Cfg, at, ended, waiting, Same, is, isnt, same, write_same, write-other, count, goto, Placed, put, put_r, aim, branch, step, To, here, one, to_trans, to_label, dat, dats}
use Rattle.runs.proofs.Invert.{Grow, Asked, position-holds, found_in, no_float}
use Rattle.runs.proofs.Texts.{label_eq, label_refl, text-eq, text_refl, float_eq, float_refl}
use Rattle.runs.proofs.Names.{Scoped, Frame, Agree}

-- a function of a program, a rule, and what conversion made in the end: the function's code and labels, the program's strings and floats
pub record Ctx (W : Type 0) : Type 0 where
  pub prog : Program
  pub funs : Functions
  pub fun : Function
  pub rule : Rule W
  pub answers : Answers W
  pub code : Code
  pub labels : List LabelName
  pub strings : List StringEntry
  pub floats : List FloatEntry

abbrev pub body : {W : Type 0} → Ctx W → FlatBody
body X = record { instrs = X.code; result = X.fun.return_type; strings = texts X.strings; floats = X.floats }

-- an operand's variable and float are there
abbrev pub Low : State → Operand → Type 0
Low s (OVar x) = x.id < length s.vars
Low s (OInt v a b) = Unit {0}
Low s (OFloat i) = i < length s.floats
Low s (OBool b) = Unit {0}
Low s (ODataAddress i) = Unit {0}
Low s ONull = Unit {0}

abbrev pub Lows : State → List Operand → Type 0
Lows s [] = Unit {0}
Lows s (o ∷ os) = Low s o × Lows s os

pub low_mono : (s t : State) (o : Operand) → Grow s t → Low s o → Low t o
low_mono s t (OVar x) g l = omega (arith, g.vars)
low_mono s t (OInt v a b) g l = tt
low_mono s t (OFloat i) g l = omega (arith, prefix_length g.floats)
low_mono s t (OBool b) g l = tt
low_mono s t (ODataAddress i) g l = tt
low_mono s t ONull g l = tt

pub lows_mono : (s t : State) (os : List Operand) → Grow s t → Lows s os → Lows t os
lows_mono s t [] g l = tt
lows_mono s t (o ∷ os) g l = (low_mono s t o g l.0, lows_mono s t os g l.1)

texts-at : (l : List StringEntry) (i : ℕ) (d : StringEntry) → i < length l → get_or (texts l) i [] ≡ (get_or l i d).text
unfolding texts
texts-at [] i d h = absurd (omega arith)
texts-at (e ∷ l) zero d h = refl
texts-at (e ∷ l) (suc i) d h = texts-at l i d (omega arith)

module _ {W : Type 0} (X : Ctx W) where
  -- the tables at the end grew out of those of s
  pub record Within (s : State) : Type 0 where
    pub labels : Prefix s.labels X.labels
    pub strings : Prefix s.strings X.strings
    pub floats : Prefix s.floats X.floats

  pub within_back : {s t : State} → Grow s t → Within t → Within s
  within_back g w = record { labels = prefix_trans g.labels w.labels; strings = prefix_trans g.strings w.strings; floats = prefix_trans g.floats w.floats }

  -- n is the number of the label l
  pub record Num (l : LabelName) (n : ℕ) : Type 0 where
    pub at_last : position (same_label l) X.labels ≡ some n

  pub num_same : {l : LabelName} {m n : ℕ} → Num l m → Num l n → m ≡ n
  num_same a b = let p = a.at_last in let q = b.at_last in cc

  pub num_of : {l : LabelName} {s : State} {n : ℕ} {c : List Instr} {t : State} → Asked (same_label l) l (λ u. u.labels) s n c t → Within t → Num l n
  num_of {l} q w = record { at_last = found_in (label_refl l) q.found w.labels }

  unfoldable pub name_of : ℕ → LabelName
  name_of n = get_or X.labels n (loop_start 0)

  pub num_count : (l : LabelName) (m n : ℕ) → Num l m → bit (eqb n m) ≤ bit (same_label (name_of n) l)
  unfolding name_of
  num_count l m n u = go (same n m)
    where
      go : Same n m → bit (eqb n m) ≤ bit (same_label (get_or X.labels n (loop_start 0)) l)
      go (is p e) =
          let q : l ≡ get_or X.labels m (loop_start 0) = label_eq l _ (position-holds (same_label l) X.labels m (loop_start 0) u.at_last).0 in
          let z : same_label (get_or X.labels n (loop_start 0)) l ≡ true = ap (λ x. same_label (get_or X.labels x (loop_start 0)) l) p ∙ (ap (λ x. same_label x l) (sym q) ∙ label_refl l) in
          rw z (rw e (le_refl 1))
      go (isnt p e) = rw e (omega arith)

  pub float_at : {e : FloatEntry} {s : State} {n : ℕ} {c : List Instr} {t : State} → Asked (same_float e) e (λ u. u.floats) s n c t → Within t → e ≡ get_or X.floats n no_float
  float_at {e} {n = n} q w = float_eq e _ (position-holds (same_float e) X.floats n no_float (found_in (float_refl e) q.found w.floats)).0

  pub string_at : {e : StringEntry} {s : State} {n : ℕ} {c : List Instr} {t : State} → Asked (λ x. same_text e.text x.text) e (λ u. u.strings) s n c t → Within t
      → get_or (texts X.strings) n [] ≡ e.text
  string_at {e} {n = n} q w =
      let p = found_in (text_refl e.text) q.found w.strings in
      let h = position-holds (λ x. same_text e.text x.text) X.strings n e p in
      texts-at X.strings n e h.1 ∙ sym (text-eq e.text _ h.0)

  abbrev pub Goes : Cfg W → Cfg W → Type 0
  Goes c d = To X.rule X.answers (body X) c d

  pub stay : {c : Cfg W} → Goes c c
  stay = here X.rule X.answers (body X)

  unfoldable pub go1 : {c d : Cfg W} → step X.rule X.answers (body X) c ≡ d → Goes c d
  go1 e = one X.rule X.answers (body X) e

  unfoldable pub goes : {c d e : Cfg W} → Goes c d → Goes d e → Goes c e
  goes p q = to_trans X.rule X.answers (body X) p q

  pub go_label : {l : ℕ} {k : Code} {q : Queue W} {ρ : Vars W} {h : CallsMade W} → goto X.code l ≡ some (Label l ∷ k) → Goes (aim (goto X.code l) q ρ h) (at k q ρ h)
  go_label e = to_label X.rule X.answers (body X) e

  abbrev pub holding : Vars W → Operand → Datum W
  holding ρ o = dat X.rule X.answers (body X) ρ o

  abbrev pub holdings : Vars W → List Operand → List (Datum W)
  holdings ρ os = dats X.rule X.answers (body X) ρ os

  pub hold_frame : (s : State) (o : Operand) (ρ ρ' : Vars W) → Low s o → Frame (length s.vars) ρ ρ' → holding ρ' o ≡ holding ρ o
  unfolding dat datum
  hold_frame s (OVar x) ρ ρ' b f = ap (computed x.ty) (f x.id b)
  hold_frame s (OInt v a c) ρ ρ' b f = refl
  hold_frame s (OFloat i) ρ ρ' b f = refl
  hold_frame s (OBool v) ρ ρ' b f = refl
  hold_frame s (ODataAddress i) ρ ρ' b f = refl
  hold_frame s ONull ρ ρ' b f = refl

  pub holds_frame : (s : State) (os : List Operand) (ρ ρ' : Vars W) → Lows s os → Frame (length s.vars) ρ ρ' → holdings ρ' os ≡ holdings ρ os
  unfolding dats
  holds_frame s [] ρ ρ' b f = refl
  holds_frame s (o ∷ os) ρ ρ' b f = rw (hold_frame s o ρ ρ' b.0 f, holds_frame s os ρ ρ' b.1 f) refl

  -- from c the body comes to k, with the variables below t as they were, and get the value; or it stops as the tree does
  pub data SimE {Y : Type 0} (c : Cfg W) (k : Code) (t : ℕ) (ρ : Vars W) (get : Vars W → Y) : Got W Y → Type 0 where
    gets : {v : Y} {h : CallsMade W} (ρ' : Vars W) → Goes c (at k [] ρ' h) → Frame t ρ ρ' → get ρ' ≡ v → SimE c k t ρ get (value v h)
    stops : {h : CallsMade W} → Goes c (ended halted h) → SimE c k t ρ get (stop h)
    hangs : {h : CallsMade W} → Goes c (waiting h) → SimE c k t ρ get (wait h)

  pub sim_before : {Y : Type 0} {c d : Cfg W} {k : Code} {t : ℕ} {ρ : Vars W} {get : Vars W → Y} {r : Got W Y}
      → Goes c d → SimE d k t ρ get r → SimE c k t ρ get r
  sim_before p (gets ρ' q f e) = gets ρ' (goes p q) f e
  sim_before p (stops q) = stops (goes p q)
  sim_before p (hangs q) = hangs (goes p q)

  pub sim_after : {Y : Type 0} {c : Cfg W} {j k : Code} {t : ℕ} {ρ : Vars W} {get : Vars W → Y} {r : Got W Y}
      → ((ρ' : Vars W) (h : CallsMade W) → Goes (at j [] ρ' h) (at k [] ρ' h)) → SimE c j t ρ get r → SimE c k t ρ get r
  sim_after p (gets {h = h} ρ' q f e) = gets ρ' (goes q (p ρ' h)) f e
  sim_after p (stops q) = stops q
  sim_after p (hangs q) = hangs q

  pub sim_frame : {Y : Type 0} {c : Cfg W} {k : Code} {s t : ℕ} {ρ ρ₁ : Vars W} {get : Vars W → Y} {r : Got W Y}
      → s ≤ t → Frame s ρ ρ₁ → SimE c k t ρ₁ get r → SimE c k s ρ get r
  sim_frame g f (gets ρ' q f' e) = gets ρ' q (λ x h. f' x (omega arith) ∙ f x h) e
  sim_frame g f (stops q) = stops q
  sim_frame g f (hangs q) = hangs q

  pub sim_bind : {Y Z : Type 0} {c : Cfg W} {j k : Code} {s t : ℕ} {ρ : Vars W} {get : Vars W → Y} {get' : Vars W → Z} {r : Got W Y} (f : Y → CallsMade W → Got W Z)
      → s ≤ t → SimE c j t ρ get r
      → ((ρ₁ : Vars W) (h₁ : CallsMade W) → Frame t ρ ρ₁ → SimE (at j [] ρ₁ h₁) k s ρ₁ get' (f (get ρ₁) h₁))
      → SimE c k s ρ get' (bind_g r f)
  unfolding bind_g
  sim_bind f g (gets {h = h} ρ' q fr e) H =
      sim_before q (sim_frame (le_refl _) (λ x b. fr x (omega arith)) (rw e at (H ρ' h fr)))
  sim_bind f g (stops q) H = stops q
  sim_bind f g (hangs q) H = hangs q

  pub sim_put : {c : Cfg W} {k : Code} {t : ℕ} {ρ : Vars W} (d : VarId) (a : ValueOrStop W) (h : CallsMade W)
      → t ≤ d.id → step X.rule X.answers (body X) c ≡ put a d.id k [] ρ h → SimE c k t ρ (λ ρ'. holding ρ' (OVar d)) (answered d.ty a h)
  unfolding answered put dat datum
  sim_put {ρ = ρ} d (gives v) h g e = gets (write ρ d.id v) (go1 e) (λ x b. write-other ρ d.id x v (omega arith)) (ap (computed d.ty) (write_same ρ d.id v))
  sim_put d halt h g e = stops (go1 e)

  pub sim_reply : {c : Cfg W} {k : Code} {t : ℕ} {ρ : Vars W} (d : VarId) (a : Reply W) (h : CallsMade W)
      → t ≤ d.id → step X.rule X.answers (body X) c ≡ put_r a d.id k [] ρ h → SimE c k t ρ (λ ρ'. holding ρ' (OVar d)) (replied d.ty a h)
  unfolding replied put_r
  sim_reply d (comes a) h g e = sim_put d a h g e
  sim_reply d pending h g e = hangs (go1 e)

  pub sim_test : {Y : Type 0} {c : Cfg W} {k p : Code} {t : ℕ} {ρ : Vars W} {h : CallsMade W} {get : Vars W → Y} {a b : Got W Y} (u : Truth) (q : Option Code)
      → step X.rule X.answers (body X) c ≡ branch u p q [] ρ h → SimE (at p [] ρ h) k t ρ get a → SimE (aim q [] ρ h) k t ρ get b → SimE c k t ρ get (test u h a b)
  unfolding test branch
  sim_test holds q e x y = sim_before (go1 e) x
  sim_test fails q e x y = sim_before (go1 e) y
  sim_test halts q e x y = stops (go1 e)

  -- converting from s came to x, the code c and t, and this does what ev says; z bounds how often c places a label that a record opens
  pub record GoodE {Y Z : Type 0} (lows : State → Y → Type 0) (get : Vars W → Y → Z) (vs : List Variable) (z : ℕ → ℕ) (ev : Values W → CallsMade W → Got W Z)
      (s : State) (x : Y) (c : Code) (t : State) : Type 0 where
    pub grow : Grow s t
    pub low : Scoped vs (length s.vars) → lows t x
    pub once : Within t → (n : ℕ) → count n c ≤ z (name_of n).opener
    pub sim : Within t → Scoped vs (length s.vars) → (k : Code) (ρ : Vars W) (σ : Values W) (h : CallsMade W) → Agree vs σ ρ → Placed X.code (c ++ k)
        → SimE (at (c ++ k) [] ρ h) k (length s.vars) ρ (λ ρ'. get ρ' x) (ev σ h)

  abbrev pub Sound : List Variable → M Operand → (ℕ → ℕ) → (Values W → CallsMade W → Got W (Datum W)) → Type 0
  Sound vs m z ev = (s : State) (o : Operand) (c : Code) (t : State) → m s ≡ made o c t → GoodE Low holding vs z ev s o c t

  abbrev pub Sounds : List Variable → M (List Operand) → (ℕ → ℕ) → (Values W → CallsMade W → Got W (List (Datum W))) → Type 0
  Sounds vs m z ev = (s : State) (o : List Operand) (c : Code) (t : State) → m s ≡ made o c t → GoodE Lows holdings vs z ev s o c t

  -- the same under other names for what was made
  pub good_as : {Y Z : Type 0} {lows : State → Y → Type 0} {get : Vars W → Y → Z} {vs : List Variable} {z : ℕ → ℕ} {ev : Values W → CallsMade W → Got W Z} {s : State} {x x₁ : Y} {c c₁ : Code} {t t₁ : State}
      → x ≡ x₁ → c ≡ c₁ → t ≡ t₁ → GoodE lows get vs z ev s x₁ c₁ t₁ → GoodE lows get vs z ev s x c t
  good_as p q r g = rw (p, q, r) g
