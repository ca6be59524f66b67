-- From 'this converted' back to the conversions that it was made of, and that the tables only grow.
-- By cases on what the first part came to.
use mathlib.Core.Path.{◌≡◌, refl, sym, ◌∙◌, ap}
use mathlib.Core.List.{List, [], ◌∷◌, ◌++◌}
use mathlib.Core.Option.{Option, none, some}
use mathlib.Core.Bool.{Bool, true, false}
use Prim.Native.Nat.{ℕ, suc, ◌≤◌, ◌<◌}
use native.Mathlib.Nat.{le_refl}
use native.Mathlib.Omega.{arith}
use lib.ListN.{length, length-append, get_or, get_or-append}
use Rattle.laws.proofs.Prefixes.{Prefix, prefix_refl, prefix_trans, prefix_append}
use Rattle.conversion.specs.ConvertError.{Result, ok, err}
use Rattle.conversion.specs.Ir.{VarId, Instr, LabelName, StringEntry, FloatEntry, State, Out, made, failed, M, after, bind, ◌>>=◌, ◌>>◌, pure, lift, emit, position, numbered, new_var, same_label, label_id, same_text, string_id, same_float, float_id, float_bits}

-- ---- the tables grow at their ends

pub prefix_end : {X : Type 0} {a : List X} (x : X) → Prefix a (a ++ (x ∷ []))
prefix_end x = prefix_append _ (x ∷ [])

pub record Grow (s t : State) : Type 0 where
  pub vars : length s.vars ≤ length t.vars
  pub labels : Prefix s.labels t.labels
  pub strings : Prefix s.strings t.strings
  pub floats : Prefix s.floats t.floats

pub grow_refl : {s : State} → Grow s s
grow_refl = record { vars = le_refl _; labels = prefix_refl; strings = prefix_refl; floats = prefix_refl }

pub grow_trans : {s t u : State} → Grow s t → Grow t u → Grow s u
grow_trans g k = record {
  vars = omega (arith, g.vars, k.vars);
  labels = prefix_trans g.labels k.labels;
  strings = prefix_trans g.strings k.strings;
  floats = prefix_trans g.floats k.floats;
}

-- ---- one step of a conversion

pub record Split {X Y : Type 0} (m : M X) (f : X → M Y) (s : State) (y : Y) (c : List Instr) (t : State) : Type 0 where
  pub got : X
  pub c1 : List Instr
  pub st : State
  pub c2 : List Instr
  pub first : m s ≡ made got c1 st
  pub rest : f got st ≡ made y c2 t
  pub code : c ≡ c1 ++ c2

pub inv : {X Y : Type 0} {m : M X} {f : X → M Y} {s : State} {y : Y} {c : List Instr} {t : State} → (m >>= f) s ≡ made y c t → Split m f s y c t
unfolding ◌>>=◌ bind after
inv {X} {Y} {m} {f} {s} {y} {c} {t} q = go (m s) refl q
  where
    next : (a : X) (c1 : List Instr) (s1 : State) → m s ≡ made a c1 s1 → (v : Out Y) → f a s1 ≡ v → after c1 v ≡ made y c t → Split m f s y c t
    next a c1 s1 e (made b c2 s2) e2 z = record { got = a; c1 = c1; st = s1; c2 = c2; first = e; rest = cc; code = cc }
    next a c1 s1 e (failed k r) e2 z = let w : ◌≡◌ {A = ℕ} 0 1 = cc in absurd (omega arith)

    go : (u : Out X) → m s ≡ u → bind u f ≡ made y c t → Split m f s y c t
    go (made a c1 s1) e z = next a c1 s1 e (f a s1) refl z
    go (failed k r) e z = let w : ◌≡◌ {A = ℕ} 0 1 = cc in absurd (omega arith)

pub inv_then : {X Y : Type 0} {m : M X} {f : M Y} {s : State} {y : Y} {c : List Instr} {t : State} → (m >> f) s ≡ made y c t → Split m (λ x. f) s y c t
unfolding ◌>>◌ ◌>>=◌
inv_then q = inv q

pub record Pure {X : Type 0} (x : X) (s : State) (y : X) (c : List Instr) (t : State) : Type 0 where
  pub got : y ≡ x
  pub code : c ≡ []
  pub st : t ≡ s

pub inv_pure : {X : Type 0} {x : X} {s : State} {y : X} {c : List Instr} {t : State} → pure x s ≡ made y c t → Pure x s y c t
unfolding pure
inv_pure q = record { got = cc; code = cc; st = cc }

-- emit, and then
pub record Emitted {Y : Type 0} (i : Instr) (f : M Y) (s : State) (y : Y) (c : List Instr) (t : State) : Type 0 where
  pub c2 : List Instr
  pub rest : f s ≡ made y c2 t
  pub code : c ≡ i ∷ c2

pub inv_emit : {Y : Type 0} {i : Instr} {f : M Y} {s : State} {y : Y} {c : List Instr} {t : State} → (emit i >> f) s ≡ made y c t → Emitted i f s y c t
unfolding emit ◌>>◌ bind after
inv_emit {Y} {i} {f} {s} {y} {c} {t} q = go (f s) refl q
  where
    go : (v : Out Y) → f s ≡ v → after (i ∷ []) v ≡ made y c t → Emitted i f s y c t
    go (made b c2 s2) e z = record { c2 = c2; rest = cc; code = cc }
    go (failed k r) e z = let w : ◌≡◌ {A = ℕ} 0 1 = cc in absurd (omega arith)

-- a part that emits nothing and keeps the tables, and then
pub record Known {X Y : Type 0} (u : Result X) (f : X → M Y) (s : State) (y : Y) (c : List Instr) (t : State) : Type 0 where
  pub got : X
  pub known : u ≡ ok got
  pub rest : f got s ≡ made y c t

pub inv_lift : {X Y : Type 0} {u : Result X} {f : X → M Y} {s : State} {y : Y} {c : List Instr} {t : State} → (lift u >>= f) s ≡ made y c t → Known u f s y c t
unfolding lift ◌>>=◌ bind after
inv_lift {X} {Y} {u} {f} {s} {y} {c} {t} q = go u refl q
  where
    next : (a : X) → u ≡ ok a → (v : Out Y) → f a s ≡ v → after [] v ≡ made y c t → Known u f s y c t
    next a e (made b c2 s2) e2 z = record { got = a; known = e; rest = cc }
    next a e (failed k r) e2 z = let w : ◌≡◌ {A = ℕ} 0 1 = cc in absurd (omega arith)

    go : (r : Result X) → u ≡ r → bind (lift r s) f ≡ made y c t → Known u f s y c t
    go (ok a) e z = next a e (f a s) refl z
    go (err k r) e z = let w : ◌≡◌ {A = ℕ} 0 1 = cc in absurd (omega arith)

-- ---- numbering

-- the variable that comes next, and the state with it
unfoldable pub next_var : ℕ → State → VarId
next_var y s = record { id = length s.vars; ty = y }

unfoldable pub with_var : ℕ → State → State
with_var y s = record { vars = s.vars ++ (y ∷ []); labels = s.labels; strings = s.strings; floats = s.floats }

pub record New {Y : Type 0} (x : ℕ) (f : VarId → M Y) (s : State) (y : Y) (c : List Instr) (t : State) : Type 0 where
  pub rest : f (next_var x s) (with_var x s) ≡ made y c t

pub inv_new : {Y : Type 0} {x : ℕ} {f : VarId → M Y} {s : State} {y : Y} {c : List Instr} {t : State}
    → (new_var x >>= f) s ≡ made y c t → New x f s y c t
unfolding new_var ◌>>=◌ bind after next_var with_var
inv_new {Y} {x} {f} {s} {y} {c} {t} q = record { rest = go (f (next_var x s) (with_var x s)) refl q }
  where
    go : (v : Out Y) → f (next_var x s) (with_var x s) ≡ v → after [] v ≡ made y c t → f (next_var x s) (with_var x s) ≡ made y c t
    go (made b c2 s2) e z = cc
    go (failed k r) e z = let w : ◌≡◌ {A = ℕ} 0 1 = cc in absurd (omega arith)

pub with_var-length : (y : ℕ) (s : State) → length (with_var y s).vars ≡ suc (length s.vars)
unfolding with_var
with_var-length y s = omega (arith, length-append s.vars (y ∷ []))

pub with_var_grow : (y : ℕ) (s : State) → Grow s (with_var y s)
unfolding with_var
with_var_grow y s = record { vars = omega (arith, with_var-length y s); labels = prefix_refl; strings = prefix_refl; floats = prefix_refl }

-- found, or new at the end
pub data Found {X : Type 0} (p : X → Bool) (x : X) (i : ℕ) (a b : List X) : Type 0 where
  old : position p a ≡ some i → b ≡ a → Found p x i a b
  new : position p a ≡ none → i ≡ length a → b ≡ a ++ (x ∷ []) → Found p x i a b

pub position-more : {X : Type 0} (p : X → Bool) (a b : List X) (i : ℕ) → position p a ≡ some i → position p (a ++ b) ≡ some i
unfolding position
position-more p [] b i e = let w : ◌≡◌ {A = ℕ} 0 1 = cc in absurd (omega arith)
position-more {X} p (x ∷ a) b i e = go (p x) (position p a) (position p (a ++ b)) (λ j e1. position-more p a b j e1) e
  where
    go : (t : Bool) (u v : Option ℕ) → ((j : ℕ) → u ≡ some j → v ≡ some j)
        → elim t as (λ x. Option ℕ) [ true ↦ some 0 | false ↦ elim u as (λ x. Option ℕ) [ none ↦ none | some i ↦ some (suc i) ] ] ≡ some i
        → elim t as (λ x. Option ℕ) [ true ↦ some 0 | false ↦ elim v as (λ x. Option ℕ) [ none ↦ none | some i ↦ some (suc i) ] ] ≡ some i
    go true u v h z = z
    go false none v h z = let w : ◌≡◌ {A = ℕ} 0 1 = cc in absurd (omega arith)
    go false (some j) v h z = rw (h j refl) z

pub position-new : {X : Type 0} (p : X → Bool) (a : List X) (x : X) → position p a ≡ none → p x ≡ true → position p (a ++ (x ∷ [])) ≡ some (length a)
unfolding position
position-new p [] x e q = rw q refl
position-new {X} p (y ∷ a) x e q = go (p y) (position p a) (position p (a ++ (x ∷ []))) (λ e1. position-new p a x e1 q) e
  where
    go : (t : Bool) (u v : Option ℕ) → (u ≡ none → v ≡ some (length a))
        → ◌≡◌ {A = Option ℕ} (elim t as (λ x. Option ℕ) [ true ↦ some 0 | false ↦ elim u as (λ x. Option ℕ) [ none ↦ none | some i ↦ some (suc i) ] ]) none
        → elim t as (λ x. Option ℕ) [ true ↦ some 0 | false ↦ elim v as (λ x. Option ℕ) [ none ↦ none | some i ↦ some (suc i) ] ] ≡ some (suc (length a))
    go true u v h z = let w : ◌≡◌ {A = ℕ} 0 1 = cc in absurd (omega arith)
    go false none v h z = rw (h refl) refl
    go false (some j) v h z = let w : ◌≡◌ {A = ℕ} 0 1 = cc in absurd (omega arith)

-- what is found is of the list and as asked
pub position-holds : {X : Type 0} (p : X → Bool) (a : List X) (i : ℕ) (d : X) → position p a ≡ some i → (p (get_or a i d) ≡ true) × (i < length a)
unfolding position
position-holds p [] i d e = let w : ◌≡◌ {A = ℕ} 0 1 = cc in absurd (omega arith)
position-holds {X} p (x ∷ a) i d e = go (p x) refl (position p a) (λ j r. position-holds p a j d r) e
  where
    go : (t : Bool) → p x ≡ t → (u : Option ℕ) → ((j : ℕ) → u ≡ some j → (p (get_or a j d) ≡ true) × (j < length a))
        → elim t as (λ x. Option ℕ) [ true ↦ some 0 | false ↦ elim u as (λ x. Option ℕ) [ none ↦ none | some i ↦ some (suc i) ] ] ≡ some i
        → (p (get_or (x ∷ a) i d) ≡ true) × (i < length (x ∷ a))
    go true q u r z = let w : i ≡ 0 = cc in rw w (q, omega arith)
    go false q none r z = let w : ◌≡◌ {A = ℕ} 0 1 = cc in absurd (omega arith)
    go false q (some j) r z = let w : i ≡ suc j = cc in let h = r j refl in rw w (h.0, omega (arith, h.1))

-- found in every list that grows out of this one
pub found_in : {X : Type 0} {p : X → Bool} {x : X} {i : ℕ} {a b l : List X} → p x ≡ true → Found p x i a b → Prefix b l → position p l ≡ some i
found_in {p = p} {i = i} {a = a} t (old e q) f = rw (← f.whole, q) (position-more p a f.more i e)
found_in {p = p} {x = x} {i = i} {a = a} t (new e j q) f =
    rw (← f.whole, q) (position-more p (a ++ (x ∷ [])) f.more i (rw j (position-new p a x e t)))

pub found_prefix : {X : Type 0} {p : X → Bool} {x : X} {i : ℕ} {a b : List X} → Found p x i a b → Prefix a b
found_prefix (old e q) = rw q prefix_refl
found_prefix {x = x} (new e j q) = rw q (prefix_end x)

-- `numbered`, taken apart
data Numbered (o : Option ℕ) (s t : State) (n i : ℕ) (c : List Instr) (u : State) : Type 0 where
  kept : o ≡ some i → c ≡ [] → u ≡ s → Numbered o s t n i c u
  added : o ≡ none → c ≡ [] → i ≡ n → u ≡ t → Numbered o s t n i c u

numbered_view : (o : Option ℕ) (s t : State) (n i : ℕ) (c : List Instr) (u : State) → numbered o s t n ≡ made i c u → Numbered o s t n i c u
unfolding numbered
numbered_view (some j) s t n i c u q = kept (cc) (cc) (cc)
numbered_view none s t n i c u q = added refl (cc) (cc) (cc)

-- what asking for a label, a string or a float did
pub record Asked {X : Type 0} (p : X → Bool) (x : X) (table : State → List X) (s : State) (i : ℕ) (c : List Instr) (t : State) : Type 0 where
  pub found : Found p x i (table s) (table t)
  pub code : c ≡ []
  pub grow : Grow s t

pub ask_label : {l : LabelName} {s : State} {i : ℕ} {c : List Instr} {t : State} → label_id l s ≡ made i c t → Asked (same_label l) l (λ u. u.labels) s i c t
unfolding label_id
ask_label {l} {s} {i} {c} {t} q = go (numbered_view _ _ _ _ i c t q)
  where
    go : Numbered (position (same_label l) s.labels) s (record { vars = s.vars; labels = s.labels ++ (l ∷ []); strings = s.strings; floats = s.floats }) (length s.labels) i c t
        → Asked (same_label l) l (λ u. u.labels) s i c t
    go (kept e z u) = record { found = old e (rw u refl); code = z; grow = rw u grow_refl }
    go (added e z j u) = record {
      found = new e j (rw u refl);
      code = z;
      grow = rw u (record { vars = le_refl _; labels = prefix_end l; strings = prefix_refl; floats = prefix_refl });
    }

pub ask_string : {e : StringEntry} {s : State} {i : ℕ} {c : List Instr} {t : State} → string_id e s ≡ made i c t
    → Asked (λ x. same_text e.text x.text) e (λ u. u.strings) s i c t
unfolding string_id
ask_string {e} {s} {i} {c} {t} q = go (numbered_view _ _ _ _ i c t q)
  where
    go : Numbered (position (λ x. same_text e.text x.text) s.strings) s (record { vars = s.vars; labels = s.labels; strings = s.strings ++ (e ∷ []); floats = s.floats }) (length s.strings) i c t
        → Asked (λ x. same_text e.text x.text) e (λ u. u.strings) s i c t
    go (kept f z u) = record { found = old f (rw u refl); code = z; grow = rw u grow_refl }
    go (added f z j u) = record {
      found = new f j (rw u refl);
      code = z;
      grow = rw u (record { vars = le_refl _; labels = prefix_refl; strings = prefix_end e; floats = prefix_refl });
    }

pub ask_float : {e : FloatEntry} {s : State} {i : ℕ} {c : List Instr} {t : State} → float_id e s ≡ made i c t
    → Asked (same_float e) e (λ u. u.floats) s i c t
unfolding float_id
ask_float {e} {s} {i} {c} {t} q = go (numbered_view _ _ _ _ i c t q)
  where
    go : Numbered (position (same_float e) s.floats) s (record { vars = s.vars; labels = s.labels; strings = s.strings; floats = s.floats ++ (e ∷ []) }) (length s.floats) i c t
        → Asked (same_float e) e (λ u. u.floats) s i c t
    go (kept f z u) = record { found = old f (rw u refl); code = z; grow = rw u grow_refl }
    go (added f z j u) = record {
      found = new f j (rw u refl);
      code = z;
      grow = rw u (record { vars = le_refl _; labels = prefix_refl; strings = prefix_refl; floats = prefix_end e });
    }

abbrev pub AskedLabel : LabelName → State → ℕ → State → Type 0
AskedLabel l s n t = Asked (same_label l) l (λ u. u.labels) s n [] t

-- asking for a label, and then
pub record Labelled {Y : Type 0} (l : LabelName) (f : ℕ → M Y) (s : State) (y : Y) (c : List Instr) (t : State) : Type 0 where
  pub num : ℕ
  pub st : State
  pub asked : Asked (same_label l) l (λ u. u.labels) s num [] st
  pub rest : f num st ≡ made y c t

pub inv_label : {Y : Type 0} {l : LabelName} {f : ℕ → M Y} {s : State} {y : Y} {c : List Instr} {t : State} → (label_id l >>= f) s ≡ made y c t → Labelled l f s y c t
inv_label {Y} {l} {f} {s} {y} {c} {t} q =
    let i = inv q in
    let a = ask_label i.first in
    record {
      num = i.got;
      st = i.st;
      asked = record { found = a.found; code = refl; grow = a.grow };
      rest = i.rest ∙ ap (λ x. made y x t) (sym (i.code ∙ ap (λ x. x ++ i.c2) a.code));
    }

-- the code of a chain, put together
pub join_e : {i : Instr} {c d e : List Instr} → c ≡ i ∷ d → d ≡ e → c ≡ i ∷ e
join_e {i} p q = p ∙ ap (λ x. i ∷ x) q

pub join_s : {X Y : Type 0} {m : M X} {f : X → M Y} {s : State} {y : Y} {c : List Instr} {t : State} {e : List Instr} (i : Split m f s y c t) → i.c2 ≡ e → c ≡ i.c1 ++ e
join_s i q = i.code ∙ ap (λ x. i.c1 ++ x) q

-- `float_bits`, and then
abbrev pub no_float : FloatEntry
no_float = record { bits = 0; short = false }

pub record Bits {Y : Type 0} (i : ℕ) (f : ℕ → M Y) (s : State) (y : Y) (c : List Instr) (t : State) : Type 0 where
  pub rest : f (get_or s.floats i no_float).bits s ≡ made y c t

pub inv_bits : {Y : Type 0} {i : ℕ} {f : ℕ → M Y} {s : State} {y : Y} {c : List Instr} {t : State} → (float_bits i >>= f) s ≡ made y c t → Bits i f s y c t
unfolding float_bits ◌>>=◌ bind after
inv_bits {Y} {i} {f} {s} {y} {c} {t} q = record { rest = go (f (get_or s.floats i no_float).bits s) refl q }
  where
    go : (v : Out Y) → f (get_or s.floats i no_float).bits s ≡ v → after [] v ≡ made y c t → f (get_or s.floats i no_float).bits s ≡ made y c t
    go (made b c2 s2) e z = cc
    go (failed k r) e z = let w : ◌≡◌ {A = ℕ} 0 1 = cc in absurd (omega arith)

pub prefix_get_d : {X : Type 0} {a b : List X} (i : ℕ) (d : X) → i < length a → Prefix a b → get_or b i d ≡ get_or a i d
prefix_get_d {a = a} i d l p = ap (λ x. get_or x i d) (sym p.whole) ∙ get_or-append a p.more d i l

-- the last emit of a chain
pub record Last (i : Instr) (s : State) (c : List Instr) (t : State) : Type 0 where
  pub code : c ≡ i ∷ []
  pub st : t ≡ s

pub inv_last : {i : Instr} {s : State} {u : Unit {0}} {c : List Instr} {t : State} → emit i s ≡ made u c t → Last i s c t
unfolding emit
inv_last q = record { code = cc; st = cc }

-- a part that emits nothing and keeps the state, and then
pub record Rest {Y : Type 0} (f : M Y) (s : State) (y : Y) (c : List Instr) (t : State) : Type 0 where
  pub rest : f s ≡ made y c t

abbrev pub Quiet : {X : Type 0} → M X → State → Type 0
Quiet {X} m s = (x : X) (c : List Instr) (t : State) → m s ≡ made x c t → (c ≡ []) × (t ≡ s)

pub quiet : {X Y : Type 0} {m : M X} {f : X → M Y} {s : State} {y : Y} {c : List Instr} {t : State} (i : Split m f s y c t) → (i.c1 ≡ []) × (i.st ≡ s) → Rest (f i.got) s y c t
quiet {f = f} {s} {y} {c} {t} i e =
    record { rest = ap (f i.got) (sym e.1) ∙ (i.rest ∙ ap (λ x. made y x t) (sym (i.code ∙ ap (λ x. x ++ i.c2) e.0))) }
