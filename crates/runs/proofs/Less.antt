-- The tree's run only adds calls, with more turns and with one who answers more: what it came to stays, and what it was still at goes on from its calls.
-- By induction on the tree; each part of a run is compared with the same part of the other.
use mathlib.Core.Path.{◌≡◌, refl, ◌∙◌, ap}
use mathlib.Core.List.{List, [], ◌∷◌, ◌++◌, append_assoc}
use mathlib.Core.Option.{Option, none, some}
use mathlib.Core.Bool.{Bool, true, false, not, ◌&&◌}
use Prim.Native.Nat.{ℕ, zero, suc, ◌≤◌}
use native.Mathlib.Omega.{arith}
use lib.Dec.{eqb}
use lib.IntN.{pos}
use Rattle.laws.proofs.Prefixes.{Prefix, prefix_refl, prefix_trans, prefix_append}
use Rattle.syntax.specs.Syntax.{Text, Ty, TInt, TFloat, TBool, TChar, TByte, TAddress, TArray, TCustom, TNull, BinaryOp, Or, And, BitOr, BitXor, BitAnd, Eq, NotEq, Lt, Le, Gt, Ge, Shl, Shr, Add, Sub, Mul, Div, Rem, Expr, EInt, EFloat, EStr, EBool, EName, ENull, ESizeOf, EUnary, EBinary, ECall, Args, no_args, Value, ToType, Statement, SDeclare, SInit, SReturn, SCall, SIf, SIfElse, SWhile, SFor, SBreak, SContinue, Block, done, next, Function, Program}
use Rattle.conversion.specs.ConvertError.{Result, ok, err}
use Rattle.conversion.specs.Types.{on_int, is_float, size}
use Rattle.conversion.specs.Expressions.{Callee, CallFunction, CallCast, Functions, unwrap_or, get_type, resolve_call, common_type}
use Rattle.conversion.specs.Functions.{get_all_functions}
use Rattle.conversion.specs.Statements.{expected_type, as_call}
use Rattle.conversion.proofs.Called.{Among, called_among}
use Rattle.runs.specs.Rule.{ValueOrStop, gives, halt, Truth, holds, fails, halts, TypedValue, CallsMade, Rule, Reply, comes, pending, Answers, Literal, IntLiteral, Datum, constant, computed, read, read_all, Ending}
use Rattle.runs.specs.TreeRun.{KnownName, Values, set, known_type, scope_of, Got, value, stop, wait, Ran, normal, broke, continued, returned, stopped, held, unfinished, bind_g, bind_o, bind_s, bind_t, answered, bare, replied, handed, test, test_o, typed, typed_o, size_datum, fit_computed, fit, fit_arguments, to_bool, eval_and, eval_or, eval_other, eval_binary, eval_cast, call_with, eval_expr, eval_args, store, assign, new_type, introduce, initialise, give_back, call_only, run_call, run_while, rounds, run_for, run_for_int, for_over, with_new, known_init, known_after, run_statement, run_block, tree_run}
use Rattle.runs.specs.Shared.{calls_t, end_t}

-- ---- one who answers more: the same reply with the same calls where there is one, and where it is pending the calls only go on

abbrev pub AsReply : {W : Type 0} → Reply W → CallsMade W → Reply W → CallsMade W → Type 0
AsReply (comes u) c r d = (r ≡ comes u) × (d ≡ c)
AsReply pending c r d = Prefix c d

pub as_refl : {W : Type 0} (r : Reply W) (c : CallsMade W) → AsReply r c r c
as_refl (comes u) c = (refl, refl)
as_refl pending c = prefix_refl

-- of the functions g with Q
abbrev pub Extends : {W : Type 0} → (ℕ → Type 0) → Answers W → Answers W → Type 0
Extends {W} Q A B = (h : CallsMade W) (g : ℕ) (y : Option ℕ) (us : List (TypedValue W)) → Q g → AsReply (A h g y us).0 (A h g y us).1 (B h g y us).0 (B h g y us).1

pub extends_refl : {W : Type 0} (Q : ℕ → Type 0) (A : Answers W) → Extends Q A A
extends_refl Q A h g y us q = as_refl (A h g y us).0 (A h g y us).1

-- ---- what a part came to, from the calls h, and what the same part came to in the run that goes further

unfoldable pub calls_g : {W X : Type 0} → Got W X → CallsMade W
calls_g (value a h) = h
calls_g (stop h) = h
calls_g (wait h) = h

abbrev pub BelowG : {W X : Type 0} → Got W X → Got W X → Type 0
BelowG (value a h) s = s ≡ value a h
BelowG (stop h) s = s ≡ stop h
BelowG (wait h) s = Prefix h (calls_g s)

abbrev pub BelowO : {W : Type 0} → Ran W → Ran W → Type 0
BelowO (normal σ h) s = s ≡ normal σ h
BelowO (broke σ h) s = s ≡ broke σ h
BelowO (continued σ h) s = s ≡ continued σ h
BelowO (returned v h) s = s ≡ returned v h
BelowO (stopped h) s = s ≡ stopped h
BelowO (held h) s = Prefix h (calls_t s)
BelowO (unfinished h) s = Prefix h (calls_t s)

pub record LessG {W X : Type 0} (h : CallsMade W) (r s : Got W X) : Type 0 where
  pub grows : Prefix h (calls_g s)
  pub below : BelowG r s

pub record LessO {W : Type 0} (h : CallsMade W) (r s : Ran W) : Type 0 where
  pub grows : Prefix h (calls_t s)
  pub below : BelowO r s

self_G : {W X : Type 0} (s : Got W X) → BelowG s s
unfolding calls_g
self_G (value a h) = refl
self_G (stop h) = refl
self_G (wait h) = prefix_refl

self_O : {W : Type 0} (s : Ran W) → BelowO s s
unfolding calls_t
self_O (normal σ h) = refl
self_O (broke σ h) = refl
self_O (continued σ h) = refl
self_O (returned v h) = refl
self_O (stopped h) = refl
self_O (held h) = prefix_refl
self_O (unfinished h) = prefix_refl

later_G : {W X : Type 0} {h : CallsMade W} {r s : Got W X} → LessG h r s → LessG h s s
later_G {s = s} l = record { grows = l.grows; below = self_G s }

later_O : {W : Type 0} {h : CallsMade W} {r s : Ran W} → LessO h r s → LessO h s s
later_O {s = s} l = record { grows = l.grows; below = self_O s }

-- ---- parts that ask nobody

g_value : {W X : Type 0} {h : CallsMade W} (a : X) → LessG h (value a h) (value a h)
unfolding calls_g
g_value a = record { grows = prefix_refl; below = refl }

g_stop : {W X : Type 0} {h : CallsMade W} → LessG {W = W} {X = X} h (stop h) (stop h)
unfolding calls_g
g_stop = record { grows = prefix_refl; below = refl }

o_normal : {W : Type 0} {h : CallsMade W} (σ : Values W) → LessO h (normal σ h) (normal σ h)
unfolding calls_t
o_normal σ = record { grows = prefix_refl; below = refl }

o_stopped : {W : Type 0} {h : CallsMade W} → LessO h (stopped h) (stopped h)
unfolding calls_t
o_stopped = record { grows = prefix_refl; below = refl }

g_answered : {W : Type 0} (y : ℕ) (u : ValueOrStop W) (h : CallsMade W) → LessG h (answered y u h) (answered y u h)
unfolding answered
g_answered y (gives v) h = g_value (computed y v)
g_answered y halt h = g_stop

g_bare : {W : Type 0} (u : ValueOrStop W) (h : CallsMade W) → LessG h (bare u h) (bare u h)
unfolding bare
g_bare (gives v) h = g_value v
g_bare halt h = g_stop

-- ---- a reply

pub prefix_under : {X : Type 0} (a b c : List X) → Prefix b c → Prefix (a ++ b) (a ++ c)
prefix_under a b c p = record { more = p.more; whole = append_assoc a b p.more ∙ ap (λ z. a ++ z) p.whole }

from_G : {W X : Type 0} {g h : CallsMade W} {r s : Got W X} → Prefix g h → LessG h r s → LessG g r s
from_G p l = record { grows = prefix_trans p l.grows; below = l.below }

replied-calls : {W : Type 0} (y : ℕ) (r : Reply W) (h : CallsMade W) → calls_g (replied y r h) ≡ h
unfolding replied answered calls_g
replied-calls y (comes (gives v)) h = refl
replied-calls y (comes halt) h = refl
replied-calls y pending h = refl

handed-calls : {W : Type 0} (r : Reply W) (h : CallsMade W) → calls_g (handed r h) ≡ h
unfolding handed bare calls_g
handed-calls (comes (gives v)) h = refl
handed-calls (comes halt) h = refl
handed-calls pending h = refl

g_replied : {W : Type 0} (y : ℕ) (r : Reply W) (c : CallsMade W) (s : Reply W) (d h : CallsMade W) → AsReply r c s d → LessG h (replied y r (h ++ c)) (replied y s (h ++ d))
unfolding replied
g_replied y (comes u) c s d h e = rw (e.0, e.1) (from_G (prefix_append h c) (g_answered y u (h ++ c)))
g_replied y pending c s d h e = record {
  grows = rw (replied-calls y s (h ++ d)) (prefix_append h d);
  below = rw (replied-calls y s (h ++ d)) (prefix_under h c d e);
}

g_handed : {W : Type 0} (r : Reply W) (c : CallsMade W) (s : Reply W) (d h : CallsMade W) → AsReply r c s d → LessG h (handed r (h ++ c)) (handed s (h ++ d))
unfolding handed
g_handed (comes u) c s d h e = rw (e.0, e.1) (from_G (prefix_append h c) (g_bare u (h ++ c)))
g_handed pending c s d h e = record {
  grows = rw (handed-calls s (h ++ d)) (prefix_append h d);
  below = rw (handed-calls s (h ++ d)) (prefix_under h c d e);
}

-- ---- one part, then the next

module _ {W X Y : Type 0} (f g : X → CallsMade W → Got W Y) (next : (a : X) (h : CallsMade W) → LessG h (f a h) (g a h)) where
  after_G : (h : CallsMade W) (s : Got W X) → Prefix h (calls_g s) → Prefix h (calls_g (bind_g s g))
  unfolding bind_g calls_g
  after_G h (value a h1) p = prefix_trans p (next a h1).grows
  after_G h (stop h1) p = p
  after_G h (wait h1) p = p

  below-bind_g : (r s : Got W X) → BelowG r s → BelowG (bind_g r f) (bind_g s g)
  unfolding bind_g
  below-bind_g (value a h) s e = rw e (next a h).below
  below-bind_g (stop h) s e = rw e refl
  below-bind_g (wait h) s e = after_G h s e

  pub g_bind : {h : CallsMade W} {r s : Got W X} → LessG h r s → LessG h (bind_g r f) (bind_g s g)
  g_bind {h} {r} {s} l = record { grows = after_G h s l.grows; below = below-bind_g r s l.below }

module _ {W X : Type 0} (f g : X → CallsMade W → Ran W) (next : (a : X) (h : CallsMade W) → LessO h (f a h) (g a h)) where
  after_O : (h : CallsMade W) (s : Got W X) → Prefix h (calls_g s) → Prefix h (calls_t (bind_o s g))
  unfolding bind_o calls_g calls_t
  after_O h (value a h1) p = prefix_trans p (next a h1).grows
  after_O h (stop h1) p = p
  after_O h (wait h1) p = p

  below-bind_o : (r s : Got W X) → BelowG r s → BelowO (bind_o r f) (bind_o s g)
  unfolding bind_o
  below-bind_o (value a h) s e = rw e (next a h).below
  below-bind_o (stop h) s e = rw e refl
  below-bind_o (wait h) s e = after_O h s e

  pub o_bind : {h : CallsMade W} {r s : Got W X} → LessG h r s → LessO h (bind_o r f) (bind_o s g)
  o_bind {h} {r} {s} l = record { grows = after_O h s l.grows; below = below-bind_o r s l.below }

module _ {W : Type 0} (f g : Values W → CallsMade W → Ran W) (next : (σ : Values W) (h : CallsMade W) → LessO h (f σ h) (g σ h)) where
  after_S : (h : CallsMade W) (s : Ran W) → Prefix h (calls_t s) → Prefix h (calls_t (bind_s s g))
  unfolding bind_s calls_t
  after_S h (normal σ h1) p = prefix_trans p (next σ h1).grows
  after_S h (broke σ h1) p = p
  after_S h (continued σ h1) p = p
  after_S h (returned v h1) p = p
  after_S h (stopped h1) p = p
  after_S h (held h1) p = p
  after_S h (unfinished h1) p = p

  below-bind_s : (r s : Ran W) → BelowO r s → BelowO (bind_s r f) (bind_s s g)
  unfolding bind_s
  below-bind_s (normal σ h) s e = rw e (next σ h).below
  below-bind_s (broke σ h) s e = rw e refl
  below-bind_s (continued σ h) s e = rw e refl
  below-bind_s (returned v h) s e = rw e refl
  below-bind_s (stopped h) s e = rw e refl
  below-bind_s (held h) s e = after_S h s e
  below-bind_s (unfinished h) s e = after_S h s e

  pub s_bind : {h : CallsMade W} {r s : Ran W} → LessO h r s → LessO h (bind_s r f) (bind_s s g)
  s_bind {h} {r} {s} l = record { grows = after_S h s l.grows; below = below-bind_s r s l.below }

  after_T : (h : CallsMade W) (s : Ran W) → Prefix h (calls_t s) → Prefix h (calls_t (bind_t s g))
  unfolding bind_t calls_t
  after_T h (normal σ h1) p = prefix_trans p (next σ h1).grows
  after_T h (broke σ h1) p = p
  after_T h (continued σ h1) p = prefix_trans p (next σ h1).grows
  after_T h (returned v h1) p = p
  after_T h (stopped h1) p = p
  after_T h (held h1) p = p
  after_T h (unfinished h1) p = p

  below-bind_t : (r s : Ran W) → BelowO r s → BelowO (bind_t r f) (bind_t s g)
  unfolding bind_t
  below-bind_t (normal σ h) s e = rw e (next σ h).below
  below-bind_t (broke σ h) s e = rw e refl
  below-bind_t (continued σ h) s e = rw e (next σ h).below
  below-bind_t (returned v h) s e = rw e refl
  below-bind_t (stopped h) s e = rw e refl
  below-bind_t (held h) s e = after_T h s e
  below-bind_t (unfinished h) s e = after_T h s e

  pub t_bind : {h : CallsMade W} {r s : Ran W} → LessO h r s → LessO h (bind_t r f) (bind_t s g)
  t_bind {h} {r} {s} l = record { grows = after_T h s l.grows; below = below-bind_t r s l.below }

g_test : {W X : Type 0} (u : Truth) {h : CallsMade W} {a b c d : Got W X} → LessG h a c → LessG h b d → LessG h (test u h a b) (test u h c d)
unfolding test
g_test holds x y = x
g_test fails x y = y
g_test halts x y = g_stop

o_test : {W : Type 0} (u : Truth) {h : CallsMade W} {a b c d : Ran W} → LessO h a c → LessO h b d → LessO h (test_o u h a b) (test_o u h c d)
unfolding test_o
o_test holds x y = x
o_test fails x y = y
o_test halts x y = o_stopped

g_typed : {W Y : Type 0} (u : Result Y) {h : CallsMade W} {f g : Y → Got W (Datum W)} → ((a : Y) → u ≡ ok a → LessG h (f a) (g a)) → LessG h (typed u h f) (typed u h g)
unfolding typed
g_typed (ok a) l = l a refl
g_typed (err k r) l = g_stop

o_typed : {W Y : Type 0} (u : Result Y) {h : CallsMade W} {f g : Y → Ran W} → ((a : Y) → u ≡ ok a → LessO h (f a) (g a)) → LessO h (typed_o u h f) (typed_o u h g)
unfolding typed_o
o_typed (ok a) l = l a refl
o_typed (err k r) l = o_stopped

-- ---- fitting

module _ {W : Type 0} (P : Program) (R : Rule W) where
  fit_computed_lem : (b : Bool) (y u : ℕ) (v : W) (h : CallsMade W) → LessG h (fit_computed P R b y u v h) (fit_computed P R b y u v h)
  unfolding fit_computed
  fit_computed_lem true y u v h = g_answered y (R.cast y (u, v)) h
  fit_computed_lem false y u v h = g_value (computed u v)

  fit-less : (y : ℕ) (d : Datum W) (h : CallsMade W) → LessG h (fit P R y d h) (fit P R y d h)
  unfolding fit
  fit-less y (constant l) h = g_value _
  fit-less y (computed u v) h = fit_computed_lem (is_float (P.type_of y) && (is_float (P.type_of u) && not (eqb u y))) y u v h

  fits-less : (k : ℕ) (ds : List (Datum W)) (l : Args) (g : Function) (h : CallsMade W) → LessG h (fit_arguments P R k ds l g h) (fit_arguments P R k ds l g h)
  unfolding fit_arguments
  fits-less k [] l g h = g_value []
  fits-less k (d ∷ ds) l g h = g_bind _ _ (λ u h1. g_bind _ _ (λ us h2. g_value (u ∷ us)) (fits-less (suc k) ds l g h1)) (fit-less (expected_type g.params l k) d h)

-- ---- the tree

-- r is the record of a function of the program
pub record FunctionOf (P : Program) (r : ℕ) : Type 0 where
  pub func : Function
  pub among : Among P.functions func
  pub same : func.rec_of ≡ r

module _ {W : Type 0} (P : Program) (F : Functions) (f : Function) (R : Rule W) (A B : Answers W) (found : get_all_functions P.functions [] ≡ ok F) (more : Extends (FunctionOf P) A B) where
  and-less : (l l1 r r1 : CallsMade W → Got W (Datum W)) → ((h : CallsMade W) → LessG h (l h) (l1 h)) → ((h : CallsMade W) → LessG h (r h) (r1 h))
      → (h : CallsMade W) → LessG h (eval_and P F f R A l r h) (eval_and P F f R B l1 r1 h)
  unfolding eval_and to_bool
  and-less l l1 r r1 Hl Hr h = g_bind _ _ (λ u h1. g_bind _ _ (λ c h2. g_test (R.truth (read R c)) (g_bind _ _ (λ v h3. g_answered _ _ h3) (Hr h2)) (g_value c)) (g_answered _ _ h1)) (Hl h)

  or-less : (l l1 r r1 : CallsMade W → Got W (Datum W)) → ((h : CallsMade W) → LessG h (l h) (l1 h)) → ((h : CallsMade W) → LessG h (r h) (r1 h))
      → (h : CallsMade W) → LessG h (eval_or P F f R A l r h) (eval_or P F f R B l1 r1 h)
  unfolding eval_or to_bool
  or-less l l1 r r1 Hl Hr h = g_bind _ _ (λ u h1. g_bind _ _ (λ c h2. g_test (R.truth (read R c)) (g_value c) (g_bind _ _ (λ v h3. g_answered _ _ h3) (Hr h2))) (g_answered _ _ h1)) (Hl h)

  other-less : (o : BinaryOp) (y q : ℕ) (l l1 r r1 : CallsMade W → Got W (Datum W)) → ((h : CallsMade W) → LessG h (l h) (l1 h)) → ((h : CallsMade W) → LessG h (r h) (r1 h))
      → (h : CallsMade W) → LessG h (eval_other P F f R A o y q l r h) (eval_other P F f R B o y q l1 r1 h)
  unfolding eval_other
  other-less o y q l l1 r r1 Hl Hr h = g_bind _ _ (λ u h1. g_bind _ _ (λ v h2. g_bind _ _ (λ u1 h3. g_bind _ _ (λ v1 h4. g_answered y _ h4) (fit-less P R q v h3)) (fit-less P R q u h2)) (Hr h1)) (Hl h)

  binary-less : (o : BinaryOp) (y q : ℕ) (l l1 r r1 : CallsMade W → Got W (Datum W)) → ((h : CallsMade W) → LessG h (l h) (l1 h)) → ((h : CallsMade W) → LessG h (r h) (r1 h))
      → (h : CallsMade W) → LessG h (eval_binary P F f R A o y q l r h) (eval_binary P F f R B o y q l1 r1 h)
  unfolding eval_binary
  binary-less And y q l l1 r r1 Hl Hr h = and-less l l1 r r1 Hl Hr h
  binary-less Or y q l l1 r r1 Hl Hr h = or-less l l1 r r1 Hl Hr h
  binary-less BitOr y q l l1 r r1 Hl Hr h = other-less BitOr y q l l1 r r1 Hl Hr h
  binary-less BitXor y q l l1 r r1 Hl Hr h = other-less BitXor y q l l1 r r1 Hl Hr h
  binary-less BitAnd y q l l1 r r1 Hl Hr h = other-less BitAnd y q l l1 r r1 Hl Hr h
  binary-less Eq y q l l1 r r1 Hl Hr h = other-less Eq y q l l1 r r1 Hl Hr h
  binary-less NotEq y q l l1 r r1 Hl Hr h = other-less NotEq y q l l1 r r1 Hl Hr h
  binary-less Lt y q l l1 r r1 Hl Hr h = other-less Lt y q l l1 r r1 Hl Hr h
  binary-less Le y q l l1 r r1 Hl Hr h = other-less Le y q l l1 r r1 Hl Hr h
  binary-less Gt y q l l1 r r1 Hl Hr h = other-less Gt y q l l1 r r1 Hl Hr h
  binary-less Ge y q l l1 r r1 Hl Hr h = other-less Ge y q l l1 r r1 Hl Hr h
  binary-less Shl y q l l1 r r1 Hl Hr h = other-less Shl y q l l1 r r1 Hl Hr h
  binary-less Shr y q l l1 r r1 Hl Hr h = other-less Shr y q l l1 r r1 Hl Hr h
  binary-less Add y q l l1 r r1 Hl Hr h = other-less Add y q l l1 r r1 Hl Hr h
  binary-less Sub y q l l1 r r1 Hl Hr h = other-less Sub y q l l1 r r1 Hl Hr h
  binary-less Mul y q l l1 r r1 Hl Hr h = other-less Mul y q l l1 r r1 Hl Hr h
  binary-less Div y q l l1 r r1 Hl Hr h = other-less Div y q l l1 r r1 Hl Hr h
  binary-less Rem y q l l1 r r1 Hl Hr h = other-less Rem y q l l1 r r1 Hl Hr h

  cast-less : (y : ℕ) (us : List (Datum W)) (h : CallsMade W) → LessG h (eval_cast P F f R A y us h) (eval_cast P F f R B y us h)
  unfolding eval_cast
  cast-less y [] h = g_stop
  cast-less y (u ∷ us) h = g_answered y _ h

  -- the callee is a function of the program
  callee : (verb : Text) (l : Args) (N : List KnownName) (r : ℕ) (g : Function) → resolve_call P F verb l (scope_of f N) r ≡ ok (CallFunction g) → FunctionOf P g.rec_of
  callee verb l N r g e = record { func = g; among = called_among P F verb l (scope_of f N) r g found e; same = refl }

  call-less : (y : ℕ) (c : Callee) (l : Args) (us : List (Datum W)) (h : CallsMade W) → ((g : Function) → c ≡ CallFunction g → FunctionOf P g.rec_of)
      → LessG h (call_with P F f R A y c l us h) (call_with P F f R B y c l us h)
  unfolding call_with
  call-less y (CallFunction g) l us h q = g_bind _ _ (λ ws h1. g_replied y _ _ _ _ h1 (more h1 g.rec_of (some y) (read_all R ws) (q g refl))) (fits-less P R 0 us l g h)
  call-less y (CallCast t) l us h q = cast-less y us h

  size_less : (o : Option ℕ) (h : CallsMade W) → LessG h (size_datum {W = W} o h) (size_datum o h)
  unfolding size_datum
  size_less none h = g_stop
  size_less (some n) h = g_value _

  mutual
    unfolding eval_expr

    pub expr-less : (e : Expr) (N : List KnownName) (σ : Values W) (h : CallsMade W) → LessG h (eval_expr P F f R A e N σ h) (eval_expr P F f R B e N σ h)
    expr-less (EInt r v a b) N σ h = g_value _
    expr-less (EFloat r b a) N σ h = g_value _
    expr-less (EStr r o n t) N σ h = g_value _
    expr-less (EBool r b) N σ h = g_value _
    expr-less (ENull r) N σ h = g_value _
    expr-less (EName r t) N σ h = g_typed (get_type P F (EName r t) (scope_of f N)) λ y e. g_value _
    expr-less (ESizeOf r y) N σ h = size_less (size P.type_of y) h
    expr-less (EUnary r o a) N σ h = g_typed (get_type P F (EUnary r o a) (scope_of f N)) λ y e. g_bind _ _ (λ u h1. g_answered y _ h1) (expr-less a N σ h)
    expr-less (EBinary r o a b) N σ h = g_typed (get_type P F (EBinary r o a b) (scope_of f N)) λ y e. g_typed (common_type P F a b (scope_of f N)) λ c e1.
        binary-less o y (unwrap_or y c) _ _ _ _ (λ h1. expr-less a N σ h1) (λ h1. expr-less b N σ h1) h
    expr-less (ECall r verb l) N σ h = g_typed (get_type P F (ECall r verb l) (scope_of f N)) λ y e. g_typed (resolve_call P F verb l (scope_of f N) r) λ c e1.
        g_bind _ _ (λ us h1. call-less y c l us h1 (λ g e2. callee verb l N r g (e1 ∙ ap ok e2))) (args-less l N σ h)

    pub args-less : (l : Args) (N : List KnownName) (σ : Values W) (h : CallsMade W) → LessG h (eval_args P F f R A l N σ h) (eval_args P F f R B l N σ h)
    args-less no_args N σ h = g_value []
    args-less (Value r e l) N σ h = g_bind _ _ (λ u h1. g_bind _ _ (λ us h2. g_value (u ∷ us)) (args-less l N σ h1)) (expr-less e N σ h)
    args-less (ToType r y l) N σ h = args-less l N σ h

  -- ---- statements

  store-less : (n : Text) (u : ValueOrStop W) (σ : Values W) (h : CallsMade W) → LessO h (store P F f R A n u σ h) (store P F f R B n u σ h)
  unfolding store
  store-less n u σ h = o_bind _ _ (λ v h1. o_normal (set σ n v)) (g_bare u h)

  introduce-less : (n : Text) (e : Expr) (N : List KnownName) (σ : Values W) (h : CallsMade W) → LessO h (introduce P F f R A n e N σ h) (introduce P F f R B n e N σ h)
  unfolding introduce new_type
  introduce-less n e N σ h = o_typed (get_type P F e (scope_of f N)) λ y e1. o_bind _ _ (λ u h1. store-less n _ σ h1) (expr-less e N σ h)

  init_less : (b : Bool) (o : Option ℕ) (n : Text) (e : Expr) (N : List KnownName) (σ : Values W) (h : CallsMade W) → LessO h (initialise P F f R A b o n e N σ h) (initialise P F f R B b o n e N σ h)
  unfolding initialise assign
  init_less false (some y) n e N σ h = o_bind _ _ (λ u h1. o_bind _ _ (λ u1 h2. store-less n _ σ h2) (fit-less P R y u h1)) (expr-less e N σ h)
  init_less false none n e N σ h = introduce-less n e N σ h
  init_less true o n e N σ h = introduce-less n e N σ h

  return-less : (o : Option ℕ) (e : Expr) (N : List KnownName) (σ : Values W) (h : CallsMade W) → LessO h (give_back P F f R A o e N σ h) (give_back P F f R B o e N σ h)
  unfolding give_back calls_t
  return-less none e N σ h = o_stopped
  return-less (some y) e N σ h = o_bind _ _ (λ u h1. o_bind _ _ (λ u1 h2. o_bind _ _ (λ v h3. record { grows = prefix_refl; below = refl }) (g_bare _ h2)) (fit-less P R y u h1)) (expr-less e N σ h)

  only-less : (c : Callee) (l : Args) (N : List KnownName) (σ : Values W) (h : CallsMade W) → ((g : Function) → c ≡ CallFunction g → FunctionOf P g.rec_of)
      → LessO h (call_only P F f R A c l N σ h) (call_only P F f R B c l N σ h)
  unfolding call_only
  only-less (CallCast t) l N σ h q = o_stopped
  only-less (CallFunction g) l N σ h q = o_bind _ _ (λ us h1. o_bind _ _ (λ ws h2.
      o_bind _ _ (λ v h3. o_normal σ) (g_handed _ _ _ _ h2 (more h2 g.rec_of none (read_all R ws) (q g refl)))) (fits-less P R 0 us l g h1)) (args-less l N σ h)

  statement_call : (e : Expr) (N : List KnownName) (σ : Values W) (h : CallsMade W) → LessO h (run_call P F f R A e N σ h) (run_call P F f R B e N σ h)
  unfolding run_call as_call
  statement_call (ECall r verb l) N σ h = o_typed (resolve_call P F verb l (scope_of f N) r) λ c e1. only-less c l N σ h (λ g e2. callee verb l N r g (e1 ∙ ap ok e2))
  statement_call (EInt r v a b) N σ h = o_normal σ
  statement_call (EFloat r b a) N σ h = o_normal σ
  statement_call (EStr r o n t) N σ h = o_normal σ
  statement_call (EBool r b) N σ h = o_normal σ
  statement_call (EName r t) N σ h = o_normal σ
  statement_call (ENull r) N σ h = o_normal σ
  statement_call (ESizeOf r y) N σ h = o_normal σ
  statement_call (EUnary r o a) N σ h = o_normal σ
  statement_call (EBinary r o a b) N σ h = o_normal σ

  -- ---- loops: n turns, and m or more

  module _ (c c1 : Values W → CallsMade W → Got W (Datum W)) (b b1 : Values W → CallsMade W → Ran W)
      (Hc : (σ : Values W) (h : CallsMade W) → LessG h (c σ h) (c1 σ h)) (Hb : (σ : Values W) (h : CallsMade W) → LessO h (b σ h) (b1 σ h)) where
    turns_self : (m : ℕ) (σ : Values W) (h : CallsMade W) → LessO h (run_while P F f R B m c1 b1 σ h) (run_while P F f R B m c1 b1 σ h)
    unfolding run_while calls_t
    turns_self zero σ h = record { grows = prefix_refl; below = prefix_refl }
    turns_self (suc m) σ h = o_bind _ _ (λ v h1. o_test (R.truth (read R v)) (t_bind _ _ (λ σ2 h2. turns_self m σ2 h2) (later_O (Hb σ h1))) (o_normal σ)) (later_G (Hc σ h))

    turns-less : (n m : ℕ) → n ≤ m → (σ : Values W) (h : CallsMade W) → LessO h (run_while P F f R A n c b σ h) (run_while P F f R B m c1 b1 σ h)
    unfolding run_while
    turns-less zero m i σ h = let s = turns_self m σ h in record { grows = s.grows; below = s.grows }
    turns-less (suc n) zero i σ h = absurd (omega arith)
    turns-less (suc n) (suc m) i σ h =
        o_bind _ _ (λ v h1. o_test (R.truth (read R v)) (t_bind _ _ (λ σ2 h2. turns-less n m (omega arith) σ2 h2) (Hb σ h1)) (o_normal σ)) (Hc σ h)

    module _ (x : Text) (y : ℕ) (one : Literal) where
      rounds_self : (m : ℕ) (σ : Values W) (h : CallsMade W) → LessO h (rounds P F f R B m x y one c1 b1 σ h) (rounds P F f R B m x y one c1 b1 σ h)
      unfolding rounds calls_t
      rounds_self zero σ h = record { grows = prefix_refl; below = prefix_refl }
      rounds_self (suc m) σ h = o_bind _ _ (λ d h1. o_bind _ _ (λ d1 h2. o_bind _ _ (λ t h3. o_test (R.truth _)
          (t_bind _ _ (λ σ2 h4. o_bind _ _ (λ v h5. rounds_self m (set σ2 x v) h5) (g_bare _ h4)) (later_O (Hb σ h3))) (o_normal σ)) (g_bare _ h2)) (fit-less P R y d h1)) (later_G (Hc σ h))

      rounds-less : (n m : ℕ) → n ≤ m → (σ : Values W) (h : CallsMade W) → LessO h (rounds P F f R A n x y one c b σ h) (rounds P F f R B m x y one c1 b1 σ h)
      unfolding rounds
      rounds-less zero m i σ h = let s = rounds_self m σ h in record { grows = s.grows; below = s.grows }
      rounds-less (suc n) zero i σ h = absurd (omega arith)
      rounds-less (suc n) (suc m) i σ h = o_bind _ _ (λ d h1. o_bind _ _ (λ d1 h2. o_bind _ _ (λ t h3. o_test (R.truth _)
          (t_bind _ _ (λ σ2 h4. o_bind _ _ (λ v h5. rounds-less n m (omega arith) (set σ2 x v) h5) (g_bare _ h4)) (Hb σ h3)) (o_normal σ)) (g_bare _ h2)) (fit-less P R y d h1)) (Hc σ h)

  module _ (n m : ℕ) (i : n ≤ m) where
    for_less : (x : Text) (y : ℕ) (one : Literal) (from until : Expr) (N : List KnownName) (b b1 : Values W → CallsMade W → Ran W) → ((σ : Values W) (h : CallsMade W) → LessO h (b σ h) (b1 σ h))
        → (σ : Values W) (h : CallsMade W) → LessO h (run_for P F f R A n x y one from until N b σ h) (run_for P F f R B m x y one from until N b1 σ h)
    unfolding run_for
    for_less x y one from until N b b1 Hb σ h = o_bind _ _ (λ d h1. o_bind _ _ (λ d1 h2. o_bind _ _ (λ v h3.
        rounds-less _ _ b b1 (λ σ1 h4. expr-less until N σ1 h4) Hb x y one n m i (set σ x v) h3) (g_bare _ h2)) (fit-less P R y d h1)) (expr-less from N σ h)

    int_less : (t : Ty) (x : Text) (y : ℕ) (from until : Expr) (N : List KnownName) (b b1 : Values W → CallsMade W → Ran W) → ((σ : Values W) (h : CallsMade W) → LessO h (b σ h) (b1 σ h))
        → (σ : Values W) (h : CallsMade W) → LessO h (on_int t (stopped h) λ short unsigned. run_for P F f R A n x y (IntLiteral (pos 1) short unsigned) from until N b σ h)
        (on_int t (stopped h) λ short unsigned. run_for P F f R B m x y (IntLiteral (pos 1) short unsigned) from until N b1 σ h)
    unfolding on_int
    int_less (TInt short unsigned) x y from until N b b1 Hb σ h = for_less x y (IntLiteral _ short unsigned) from until N b b1 Hb σ h
    int_less (TFloat s) x y from until N b b1 Hb σ h = o_stopped
    int_less TBool x y from until N b b1 Hb σ h = o_stopped
    int_less TChar x y from until N b b1 Hb σ h = o_stopped
    int_less TByte x y from until N b b1 Hb σ h = o_stopped
    int_less (TAddress d) x y from until N b b1 Hb σ h = o_stopped
    int_less (TArray d e) x y from until N b b1 Hb σ h = o_stopped
    int_less (TCustom d) x y from until N b b1 Hb σ h = o_stopped
    int_less TNull x y from until N b b1 Hb σ h = o_stopped

    over-less : (x : Text) (o u : Option ℕ) (from until : Expr) (N : List KnownName) (b b1 : List KnownName → Values W → CallsMade W → Ran W)
        → ((M : List KnownName) (σ : Values W) (h : CallsMade W) → LessO h (b M σ h) (b1 M σ h))
        → (σ : Values W) (h : CallsMade W) → LessO h (for_over P F f R A n x o u from until N b σ h) (for_over P F f R B m x o u from until N b1 σ h)
    unfolding for_over run_for_int
    over-less x (some y) u from until N b b1 Hb σ h = int_less (P.type_of y) x y from until N _ _ (Hb (record { name = x; ty = y } ∷ N)) σ h
    over-less x none (some y) from until N b b1 Hb σ h = int_less (P.type_of y) x y from until N _ _ (Hb N) σ h
    over-less x none none from until N b b1 Hb σ h = o_stopped

    -- the names that are known do not depend on who answers
    known_same : (t : Statement) (N : List KnownName) → known_after P F f R B t N ≡ known_after P F f R A t N
    unfolding known_after known_init with_new new_type
    known_same (SDeclare r x y) N = refl
    known_same (SInit r c x e) N = refl
    known_same (SReturn r e) N = refl
    known_same (SCall r e) N = refl
    known_same (SIf r e a) N = refl
    known_same (SIfElse r e a b) N = refl
    known_same (SWhile r e a) N = refl
    known_same (SFor r x y from until a) N = refl
    known_same (SBreak r) N = refl
    known_same (SContinue r) N = refl

    mutual
      unfolding run_statement calls_t

      pub statement_less : (t : Statement) (N : List KnownName) (σ : Values W) (h : CallsMade W) → LessO h (run_statement P F f R A t n N σ h) (run_statement P F f R B t m N σ h)
      statement_less (SDeclare r x y) N σ h = store-less x _ σ h
      statement_less (SInit r c x e) N σ h = init_less c (known_type x N) x e N σ h
      statement_less (SReturn r e) N σ h = return-less f.return_type e N σ h
      statement_less (SCall r e) N σ h = statement_call e N σ h
      statement_less (SIf r e a) N σ h = o_bind _ _ (λ v h1. o_test (R.truth (read R v)) (block_less a N σ h1) (o_normal σ)) (expr-less e N σ h)
      statement_less (SIfElse r e a b) N σ h = o_bind _ _ (λ v h1. o_test (R.truth (read R v)) (block_less a N σ h1) (block_less b N σ h1)) (expr-less e N σ h)
      statement_less (SWhile r e a) N σ h = turns-less _ _ _ _ (λ σ1 h1. expr-less e N σ1 h1) (λ σ1 h1. block_less a N σ1 h1) n m i σ h
      statement_less (SFor r x y from until a) N σ h = over-less x y (known_type x N) from until N _ _ (λ M σ1 h1. block_less a M σ1 h1) σ h
      statement_less (SBreak r) N σ h = record { grows = prefix_refl; below = refl }
      statement_less (SContinue r) N σ h = record { grows = prefix_refl; below = refl }

      pub block_less : (b : Block) (N : List KnownName) (σ : Values W) (h : CallsMade W) → LessO h (run_block P F f R A b n N σ h) (run_block P F f R B b m N σ h)
      block_less done N σ h = o_normal σ
      block_less (next t b) N σ h = rw (known_same t N) (s_bind _ _ (λ σ1 h1. block_less b (known_after P F f R A t N) σ1 h1) (statement_less t N σ h))

-- ---- whole runs

below-calls : {W : Type 0} (r s : Ran W) → BelowO r s → Prefix (calls_t r) (calls_t s)
unfolding calls_t
below-calls (normal σ h) s e = rw e prefix_refl
below-calls (broke σ h) s e = rw e prefix_refl
below-calls (continued σ h) s e = rw e prefix_refl
below-calls (returned v h) s e = rw e prefix_refl
below-calls (stopped h) s e = rw e prefix_refl
below-calls (held h) s e = e
below-calls (unfinished h) s e = e

below_end : {W : Type 0} (r s : Ran W) (x : Ending W) → end_t r ≡ some x → BelowO r s → s ≡ r
unfolding end_t
below_end (normal σ h) s x q e = e
below_end (broke σ h) s x q e = e
below_end (continued σ h) s x q e = e
below_end (returned v h) s x q e = e
below_end (stopped h) s x q e = e
below_end (held h) s x q e = let z : ◌≡◌ {A = ℕ} 0 1 = cc in absurd (omega arith)
below_end (unfinished h) s x q e = let z : ◌≡◌ {A = ℕ} 0 1 = cc in absurd (omega arith)

module _ {W : Type 0} (P : Program) (F : Functions) (f : Function) (R : Rule W) (A B : Answers W) (found : get_all_functions P.functions [] ≡ ok F) (more : Extends (FunctionOf P) A B)
    (b : Block) (vs : List W) (n m : ℕ) (i : n ≤ m) where
  tree_below : BelowO (tree_run P F f R A b vs n) (tree_run P F f R B b vs m)
  unfolding tree_run
  tree_below = (block_less P F f R A B found more n m i b _ _ []).below

  -- calls only grow
  pub tree_calls_grow : Prefix (calls_t (tree_run P F f R A b vs n)) (calls_t (tree_run P F f R B b vs m))
  tree_calls_grow = below-calls _ _ tree_below

  -- a run that ended is what every further one comes to
  pub tree_end_stays : (x : Ending W) → end_t (tree_run P F f R A b vs n) ≡ some x → tree_run P F f R B b vs m ≡ tree_run P F f R A b vs n
  tree_end_stays x e = below_end _ _ x e tree_below
