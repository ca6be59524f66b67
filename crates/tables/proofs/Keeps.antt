-- Converting keeps: what is named exists and numbers fit, now and in every later state. Laws of the parts that conversion is made of.
-- A fact that later states keep is an `Up`; a computation is judged by what holds before and what then holds of its result.
-- By cases on how it ends; the sequence of two adds the first's fact to the second's. Assumes nothing.
use mathlib.Core.Path.{◌≡◌, refl}
use Prim.Native.Nat.{ℕ, zero, suc, ◌<◌, ◌^◌}
use mathlib.Core.Bool.{Bool, true, false, ◌&&◌}
use mathlib.Core.List.{List, [], ◌∷◌, ◌++◌}
use mathlib.Core.Option.{Option, none as nothing, some}
use native.Mathlib.Omega.{arith}
use lib.Dec.{T, ltb, ltb→lt}
use lib.ListN.{length, get_or, get_elem?, length-append}
use mir.Facts.{and_yes}
use Rattle.laws.specs.All.{All}
use Rattle.laws.proofs.Prefixes.{Prefix, prefix_refl, prefix_trans, prefix_append, prefix_length, prefix_get}
use Rattle.laws.specs.Fix.{pick}
use Rattle.syntax.specs.Syntax.{Text}
use Rattle.conversion.specs.ConvertError.{ConvertErrorKind, Result, ok, err}
use Rattle.conversion.specs.Ir.{VarId, Operand, OVar, OInt, OFloat, OBool, ODataAddress, ONull, Instr, Copy, Unary, Binary, Cast, Zero, Arg, Call, Label, Jump, JumpIfNot, Return, Comment, LabelName, StringEntry, FloatEntry, State, Out, made, failed, M, after, bind, ◌>>=◌, ◌>>◌, pure, fail, lift, emit, position, new_var, numbered, label_id, string_id, float_id, float_bits, same_label, same_text, same_float}
use Rattle.tables.proofs.SyntaxFits.{OkIs, ok_is, err_is}
use Rattle.conversion.specs.Fits.{StringStands, FloatFits}
use Rattle.tables.proofs.Exists.{Word, VarIn, OperandIn, DestinationIn, LabelIn, InstrIn, KnownLabel}

-- ---- lists

prefix_below : {X : Type 0} {a b : List X} (n : ℕ) → Prefix a b → n < length a → n < length b
prefix_below n p h = omega (arith, prefix_length p)

found-last : {X : Type 0} (a : List X) (x : X) → get_elem? (a ++ (x ∷ [])) (length a) ≡ some x
found-last [] x = refl
found-last (y ∷ a) x = found-last a x

pub all_append : {X : Type 0} (P : X → Type 0) (a b : List X) → All P a → All P b → All P (a ++ b)
all_append P [] b h k = k
all_append P (x ∷ a) b h k = (h.0, all_append P a b h.1 k)

pub all_map : {X : Type 0} (P Q : X → Type 0) → ((x : X) → P x → Q x) → (l : List X) → All P l → All Q l
all_map P Q f [] h = tt
all_map P Q f (x ∷ l) h = (f x h.0, all_map P Q f l h.1)

position-by : (b : Bool) (o : Option ℕ) (n len : ℕ) → ((i : ℕ) → o ≡ some i → i < len)
    → (elim b [ true ↦ some 0 | false ↦ elim o [ nothing ↦ nothing | some i ↦ some (suc i) ] ]) ≡ some n → n < suc len
position-by true o n len h e = let z : 0 ≡ n = cc in omega arith
position-by false nothing n len h e = let z : ◌≡◌ {A = ℕ} 0 1 = cc in absurd (omega arith)
position-by false (some i) n len h e = let z : suc i ≡ n = cc in omega (arith, h i refl)

position-below : {X : Type 0} (p : X → Bool) (l : List X) (n : ℕ) → position p l ≡ some n → n < length l
unfolding position
position-below p [] n e = let z : ◌≡◌ {A = ℕ} 0 1 = cc in absurd (omega arith)
position-below p (a ∷ l) n e = position-by (p a) (position p l) n (length l) (λ i q. position-below p l i q) e

-- ---- states

-- t has all that s has, in the same places
pub record Extends (s t : State) : Type 0 where
  pub vars : Prefix s.vars t.vars
  pub labels : Prefix s.labels t.labels
  pub strings : Prefix s.strings t.strings
  pub floats : Prefix s.floats t.floats

pub extends_refl : (s : State) → Extends s s
extends_refl s = record {
  vars = prefix_refl;
  labels = prefix_refl;
  strings = prefix_refl;
  floats = prefix_refl;
}

pub extends_trans : {s t u : State} → Extends s t → Extends t u → Extends s u
extends_trans e f = record {
  vars = prefix_trans e.vars f.vars;
  labels = prefix_trans e.labels f.labels;
  strings = prefix_trans e.strings f.strings;
  floats = prefix_trans e.floats f.floats;
}

module _ (s t : State) (e : Extends s t) where
  pub var_up : (x : VarId) → VarIn s x → VarIn t x
  var_up x h = record { typed = prefix_get x.id x.ty e.vars h.typed }

  pub operand_up : (o : Operand) → OperandIn s o → OperandIn t o
  operand_up (OVar x) h = var_up x h
  operand_up (OInt v short unsigned) h = h
  operand_up (OFloat i) h = prefix_below i e.floats h
  operand_up (OBool b) h = h
  operand_up (ODataAddress i) h = prefix_below i e.strings h
  operand_up ONull h = h

  pub label_up : (l : ℕ) → LabelIn s l → LabelIn t l
  label_up l h = prefix_below l e.labels h

  destination_up : (x : Option VarId) → DestinationIn s x → DestinationIn t x
  destination_up nothing h = h
  destination_up (some x) h = var_up x h

  pub instr_up : (i : Instr) → InstrIn s i → InstrIn t i
  instr_up (Copy x o) h = (var_up x h.0, operand_up o h.1)
  instr_up (Unary x u o) h = (var_up x h.0, operand_up o h.1)
  instr_up (Binary x b o p) h = (var_up x h.0, operand_up o h.1, operand_up p h.2)
  instr_up (Cast x o) h = (var_up x h.0, operand_up o h.1)
  instr_up (Zero x) h = var_up x h
  instr_up (Arg o) h = operand_up o h
  instr_up (Call x f) h = (destination_up x h.0, h.1)
  instr_up (Label l) h = label_up l h
  instr_up (Jump l) h = label_up l h
  instr_up (JumpIfNot o l) h = (operand_up o h.0, label_up l h.1)
  instr_up (Return o) h = operand_up o h
  instr_up (Comment r) h = h

-- a label of one of the seven kinds
pub known_label : (k r : ℕ) → T (ltb 0 k && ltb k 8) → Word r → KnownLabel (record { kind = k; opener = r })
known_label k r h w =
    let t = and_yes (ltb 0 k) (ltb k 8) h in
    record { some_kind = ltb→lt 0 k t.0; known = ltb→lt k 8 t.1; opener = w }

-- ---- facts that later states keep

pub record Up : Type 1 where
  pub holds : State → Type 0
  pub up : (s t : State) → Extends s t → holds s → holds t

-- both
infixl 40 ◌&◌
abbrev pub ◌&◌ : Up → Up → Up
G & H = record { holds = λ s. G.holds s × H.holds s; up = λ s t e h. (G.up s t e h.0, H.up s t e h.1) }

-- what does not speak of the state
abbrev pub Always : Type 0 → Up
Always A = record { holds = λ s. A; up = λ s t e h. h }

-- a variable with its type, which is a word
abbrev pub Typed : VarId → Up
Typed x = record { holds = λ s. VarIn s x × Word x.ty; up = λ s t e h. (var_up s t e x h.0, h.1) }

abbrev pub Named : Operand → Up
Named o = record { holds = λ s. OperandIn s o; up = λ s t e h. operand_up s t e o h }

abbrev pub Labelled : ℕ → Up
Labelled l = record { holds = λ s. LabelIn s l; up = λ s t e h. label_up s t e l h }

module _ (text : Text) where
  pub record StateFits (s : State) : Type 0 where
    pub vars : All Word s.vars
    pub labels : All KnownLabel s.labels
    pub strings : All (StringStands text) s.strings
    pub floats : All FloatFits s.floats

  -- ---- computations

  abbrev pub Post : {A : Type 0} → (A → Up) → State → Out A → Type 0
  Post Q s (made a c t) = Extends s t × StateFits t × All (InstrIn t) c × (Q a).holds t
  Post Q s (failed k r) = Unit {0}

  -- from a state where G holds, m extends the state, emits what exists, and leaves a result of which Q holds
  pub record Keeps {A : Type 0} (G : Up) (Q : A → Up) (m : M A) : Type 0 where
    pub runs : (s : State) → G.holds s → StateFits s → Post Q s (m s)

  post_after : {B : Type 0} (R : B → Up) (s t : State) (c : List Instr) (o : Out B) → Extends s t → All (InstrIn t) c → Post R t o
      → Post R s (after c o)
  unfolding after
  post_after R s t c (made b d u) e h p =
      (extends_trans e p.0, p.1, all_append (InstrIn u) c d (all_map (InstrIn t) (InstrIn u) (instr_up t u p.0) c h) p.2, p.3)
  post_after R s t c (failed k r) e h p = tt

  pub then : {A B : Type 0} {G : Up} {Q : A → Up} {R : B → Up} {m : M A} {f : A → M B}
      → Keeps G Q m → ((a : A) → Keeps (G & Q a) R (f a)) → Keeps G R (m >>= f)
  unfolding ◌>>=◌ bind
  then {A} {B} {G} {Q} {R} {m} {f} h k = record { runs = λ s g w. by s g (m s) (h.runs s g w) }
    where
      by : (s : State) → G.holds s → (o : Out A) → Post Q s o → Post R s (bind o f)
      by s g (made a c t) p = post_after R s t c (f a t) p.0 p.2 ((k a).runs t (G.up s t p.0 g, p.3) p.1)
      by s g (failed j r) p = tt

  pub from : {A : Type 0} {G H : Up} {Q : A → Up} {m : M A} → ((s : State) → H.holds s → G.holds s) → Keeps G Q m → Keeps H Q m
  from f h = record { runs = λ s g w. h.runs s (f s g) w }

  pub into : {A : Type 0} {G : Up} {Q R : A → Up} {m : M A} → ((a : A) (s : State) → (Q a).holds s → (R a).holds s) → Keeps G Q m → Keeps G R m
  into {A} {G} {Q} {R} {m} f h = record { runs = λ s g w. by s (m s) (h.runs s g w) }
    where
      by : (s : State) (o : Out A) → Post Q s o → Post R s o
      by s (made a c t) p = (p.0, p.1, p.2, f a t p.3)
      by s (failed j r) p = tt

  pub and_then : {A B : Type 0} {G : Up} {Q : A → Up} {R : B → Up} {m : M A} {f : M B} → Keeps G Q m → Keeps G R f → Keeps G R (m >> f)
  unfolding ◌>>◌ bind
  and_then {A} {B} {G} {Q} {R} {m} {f} h k = record { runs = λ s g w. by s g (m s) (h.runs s g w) }
    where
      by : (s : State) → G.holds s → (o : Out A) → Post Q s o → Post R s (bind o (λ a. f))
      by s g (made a c t) p = post_after R s t c (f t) p.0 p.2 (k.runs t (G.up s t p.0 g) p.1)
      by s g (failed j r) p = tt

  -- ---- the parts

  pub gives : {A : Type 0} {G : Up} {Q : A → Up} (a : A) → ((s : State) → G.holds s → (Q a).holds s) → Keeps G Q (pure a)
  unfolding pure
  gives a h = record { runs = λ s g w. (extends_refl s, w, tt, h s g) }

  pub fails : {A : Type 0} {G : Up} {Q : A → Up} (k : ConvertErrorKind) (r : ℕ) → Keeps G Q (fail k r)
  unfolding fail
  fails k r = record { runs = λ s g w. tt }

  pub emits : {G : Up} (i : Instr) → ((s : State) → G.holds s → InstrIn s i) → Keeps G (λ u. Always (Unit {0})) (emit i)
  unfolding emit
  emits i h = record { runs = λ s g w. (extends_refl s, w, (h s g, tt), tt) }

  pub lifts : {A : Type 0} {G : Up} {Q : A → Up} (x : Result A) → ((s : State) → G.holds s → OkIs (λ a. (Q a).holds s) x) → Keeps G Q (lift x)
  unfolding lift
  lifts {A} {G} {Q} x h = record { runs = λ s g w. by s w x (h s g) }
    where
      by : (s : State) → StateFits s → (y : Result A) → OkIs (λ a. (Q a).holds s) y → Post Q s (lift y s)
      by s w y (ok_is k) = (extends_refl s, w, tt, k)
      by s w y err_is = tt

  pub picks : {A : Type 0} {G : Up} {Q : A → Up} {m n : M A} (b : Bool) → Keeps G Q m → Keeps G Q n → Keeps G Q (pick b m n)
  unfolding pick
  picks true h k = h
  picks false h k = k

  -- ---- numbering

  pub new-variable : {G : Up} {y : ℕ} → Word y → Keeps G Typed (new_var y)
  unfolding new_var
  new-variable {G} {y} h = record {
    runs = λ s g w. (
      record {
        vars = prefix_append s.vars (y ∷ []);
        labels = prefix_refl;
        strings = prefix_refl;
        floats = prefix_refl;
      },
      record {
        vars = all_append Word s.vars (y ∷ []) w.vars (h, tt);
        labels = w.labels;
        strings = w.strings;
        floats = w.floats;
      },
      tt,
      (record { typed = found-last s.vars y }, h),
    );
  }

  last-below : {X : Type 0} (l : List X) (x : X) → length l < length (l ++ (x ∷ []))
  last-below l x = omega (arith, length-append l (x ∷ []))

  -- the number of an entry that is there, or of one put at the end
  module _ {X : Type 0} (table : State → List X) (s t : State) (x : X) (more : Extends s t) (new : table t ≡ table s ++ (x ∷ []))
      (w : StateFits s) (v : StateFits t) (Q : ℕ → Up)
      (q : (u : State) (n : ℕ) → n < length (table u) → (Q n).holds u) where
    numbered_keeps : (o : Option ℕ) → ((n : ℕ) → o ≡ some n → n < length (table s)) → Post Q s (numbered o s t (length (table s)))
    unfolding numbered
    numbered_keeps nothing h = (more, v, tt, q t (length (table s)) (rw new (last-below (table s) x)))
    numbered_keeps (some n) h = (extends_refl s, w, tt, q s n (h n refl))

  pub label_number : {G : Up} {l : LabelName} → KnownLabel l → Keeps G Labelled (label_id l)
  unfolding label_id
  label_number {G} {l} h = record {
    runs = λ s g w.
        let t : State = record { vars = s.vars; labels = s.labels ++ (l ∷ []); strings = s.strings; floats = s.floats } in
        numbered_keeps (λ u. u.labels) s t l
        (record {
          vars = prefix_refl;
          labels = prefix_append s.labels (l ∷ []);
          strings = prefix_refl;
          floats = prefix_refl;
        }) refl w (record {
          vars = w.vars;
          labels = all_append KnownLabel s.labels (l ∷ []) w.labels (h, tt);
          strings = w.strings;
          floats = w.floats;
        }) Labelled (λ u n b. b) (position (same_label l) s.labels) (position-below (same_label l) s.labels);
  }

  pub string_number : {G : Up} {e : StringEntry} → StringStands text e → Keeps G (λ n. Named (ODataAddress n)) (string_id e)
  unfolding string_id
  string_number {G} {e} h = record {
    runs = λ s g w.
        let t : State = record { vars = s.vars; labels = s.labels; strings = s.strings ++ (e ∷ []); floats = s.floats } in
        numbered_keeps (λ u. u.strings) s t e
        (record {
          vars = prefix_refl;
          labels = prefix_refl;
          strings = prefix_append s.strings (e ∷ []);
          floats = prefix_refl;
        }) refl w (record {
          vars = w.vars;
          labels = w.labels;
          strings = all_append (StringStands text) s.strings (e ∷ []) w.strings (h, tt);
          floats = w.floats;
        }) (λ n. Named (ODataAddress n)) (λ u n b. b)
        (position (λ x. same_text e.text x.text) s.strings) (position-below (λ x. same_text e.text x.text) s.strings);
  }

  pub float_number : {G : Up} {e : FloatEntry} → FloatFits e → Keeps G (λ n. Named (OFloat n)) (float_id e)
  unfolding float_id
  float_number {G} {e} h = record {
    runs = λ s g w.
        let t : State = record { vars = s.vars; labels = s.labels; strings = s.strings; floats = s.floats ++ (e ∷ []) } in
        numbered_keeps (λ u. u.floats) s t e
        (record {
          vars = prefix_refl;
          labels = prefix_refl;
          strings = prefix_refl;
          floats = prefix_append s.floats (e ∷ []);
        }) refl w (record {
          vars = w.vars;
          labels = w.labels;
          strings = w.strings;
          floats = all_append FloatFits s.floats (e ∷ []) w.floats (h, tt);
        }) (λ n. Named (OFloat n)) (λ u n b. b) (position (same_float e) s.floats) (position-below (same_float e) s.floats);
  }

  bits_at : (l : List FloatEntry) (i : ℕ) → All FloatFits l → (get_or l i (record { bits = 0; short = false })).bits < 2 ^ 64
  bits_at [] i h = omega arith
  bits_at (e ∷ l) zero h = h.0.bits
  bits_at (e ∷ l) (suc i) h = bits_at l i h.1

  pub float_bits_lem : {G : Up} (i : ℕ) → Keeps G (λ b. Always (b < 2 ^ 64)) (float_bits i)
  unfolding float_bits
  float_bits_lem i = record { runs = λ s g w. (extends_refl s, w, tt, bits_at s.floats i w.floats) }

  -- ---- facts that do not speak of the state

  pub knowing : {A B : Type 0} {G : Up} {Q : A → Up} {m : M A} → ((s : State) → G.holds s → B) → (B → Keeps G Q m) → Keeps G Q m
  knowing f k = record { runs = λ s g w. (k (f s g)).runs s g w }

  -- what follows what changes nothing but may fail, with what is known of its result
  pub lift_then : {A B : Type 0} {G : Up} {Q : A → Type 0} {R : B → Up} {x : Result A} {f : A → M B}
      → ((s : State) → G.holds s → OkIs Q x) → ((a : A) → Q a → Keeps G R (f a)) → Keeps G R (lift x >>= f)
  lift_then {A} {B} {G} {Q} {R} {x} {f} h k = then (lifts {G = G} {Q = λ a. Always (Q a)} x h)
      (λ a. knowing (λ s g. g.1) (λ q. from (λ s g. g.0) (k a q)))

  -- nothing is known of the result
  pub lift_any : {A B : Type 0} {G : Up} {R : B → Up} {f : A → M B} (x : Result A) → ((a : A) → Keeps G R (f a)) → Keeps G R (lift x >>= f)
  lift_any {A} {B} {G} {R} {f} x k = lift_then {Q = λ a. Unit {0}} (λ s g. any x) (λ a q. k a)
    where
      any : (y : Result A) → OkIs (λ a. Unit {0}) y
      any (ok a) = ok_is tt
      any (err j r) = err_is
