-- Demand 3 over the definitions: for every program that converts and every function with a body, the two runs share all that is seen outside.
-- By induction on the functions; strings and floats only grow, so a body that was converted early reads the same entries in the end.
use mathlib.Core.Path.{◌≡◌, refl, sym, ◌∙◌, ap, subst}
use mathlib.Core.List.{List, [], ◌∷◌, ◌++◌}
use mathlib.Core.Option.{Option, none, some}
use mathlib.Core.Bool.{Bool}
use Prim.Native.Nat.{ℕ, zero, suc, ◌+◌, ◌≤◌}
use native.Mathlib.Omega.{arith}
use lib.ListN.{length, length-append, get_elem?}
use Rattle.laws.proofs.Prefixes.{Prefix, prefix_refl, prefix_trans}
use Rattle.syntax.specs.Syntax.{Block, Function, Program}
use Rattle.conversion.specs.ConvertError as C
use Rattle.conversion.specs.ConvertError.{ConvertErrorKind, Result, ok, err}
use Rattle.conversion.specs.Ir.{Instr, State, Out, made, failed, IrFunction, IrProgram}
use Rattle.conversion.specs.Expressions.{Functions}
use Rattle.conversion.specs.Functions.{Pool, get_all_functions, check_main, convert_body, finished, convert_function, convert_func}
use Rattle.conversion.specs.Converter.{convert_all, convert}
use Rattle.runs.proofs.Opens.{opens_b, WellFormed}
use Rattle.runs.proofs.Agrees.{Agrees, body_of}
use Rattle.runs.proofs.OneFunction.{one_function, body_grows}

-- what a later pool has more
record Later (p q : Pool) : Type 0 where
  pub strings : Prefix p.strings q.strings
  pub floats : Prefix p.floats q.floats

later_trans : {p q r : Pool} → Later p q → Later q r → Later p r
later_trans a b = record { strings = prefix_trans a.strings b.strings; floats = prefix_trans a.floats b.floats }

-- one function, converted
data Converted (P : Program) (F : Functions) (f : Function) (p : Pool) (g : IrFunction) (q : Pool) : Type 0 where
  without : f.body ≡ none → q ≡ p → Converted P F f p g q
  with_body : (b : Block) (u : Unit {0}) (c : List Instr) (t : State) → f.body ≡ some b
      → convert_body P F f b (record { vars = []; labels = []; strings = p.strings; floats = p.floats }) ≡ made u c t
      → g ≡ record { func = f.rec_of; body = some c; vars = t.vars; labels = t.labels } → q ≡ record { strings = t.strings; floats = t.floats } → Converted P F f p g q

ok_same : {Y : Type 0} {a b : Y} → ok a ≡ ok b → a ≡ b
ok_same e = cc

made-function : (f : Function) (u : Unit {0}) (c : List Instr) (t : State)
    → finished f (made u c t) ≡ ok (record { func = f.rec_of; body = some c; vars = t.vars; labels = t.labels }, record { strings = t.strings; floats = t.floats })
unfolding finished
made-function f u c t = refl

failed-function : (f : Function) (k : ConvertErrorKind) (r : ℕ) (x : IrFunction × Pool) → finished f (failed k r) ≡ ok x → ⊥
unfolding finished
failed-function f k r x e = let n : ◌≡◌ {A = ℕ} 0 1 = cc in omega arith

-- the state that a function begins with
abbrev start : Pool → State
start p = record { vars = []; labels = []; strings = p.strings; floats = p.floats }

converted-by : (P : Program) (F : Functions) (f : Function) (b : Block) (p : Pool) (g : IrFunction) (q : Pool) (o : Out (Unit {0})) → f.body ≡ some b
    → convert_body P F f b (start p) ≡ o → finished f o ≡ ok (g, q) → Converted P F f p g q
converted-by P F f b p g q (made u c t) eb z w =
    let e = ok_same (sym w ∙ made-function f u c t) in
    with_body b u c t eb z (ap (λ (x : IrFunction × Pool). x.0) e) (ap (λ (x : IrFunction × Pool). x.1) e)
converted-by P F f b p g q (failed k r) eb z w = absurd (failed-function f k r (g, q) w)

converted : (P : Program) (F : Functions) (f : Function) (p : Pool) (g : IrFunction) (q : Pool) → convert_func P F f p ≡ ok (g, q) → Converted P F f p g q
unfolding convert_func convert_function
converted P F f p g q e = go f.body refl e
  where
    go : (o : Option Block) → f.body ≡ o → convert_function P F f o p ≡ ok (g, q) → Converted P F f p g q
    go none eb z = without eb (sym (ap (λ (x : IrFunction × Pool). x.1) (ok_same z)))
    go (some b) eb z = converted-by P F f b p g q (convert_body P F f b (start p)) eb refl z

later : (P : Program) (F : Functions) (f : Function) (p : Pool) (g : IrFunction) (q : Pool) → Converted P F f p g q → Later p q
later P F f p g q (without e z) = rw z (record { strings = prefix_refl; floats = prefix_refl })
later P F f p g q (with_body b u c t e z eg eq) = let k = body_grows P F f b _ u c t z in rw eq (record { strings = k.strings; floats = k.floats })

-- all functions, converted

abbrev pool : IrProgram → Pool
pool ir = record { strings = ir.strings; floats = ir.floats }

record Listed (P : Program) (F : Functions) (ir : IrProgram) (n : ℕ) (f : Function) : Type 0 where
  pub before : Pool
  pub after : Pool
  pub function : IrFunction
  pub listed : get_elem? ir.funcs n ≡ some function
  pub made_so : Converted P F f before function after
  pub later : Later after (pool ir)

record AllConverted (P : Program) (F : Functions) (fs : List Function) (l : List IrFunction) (p : Pool) (ir : IrProgram) : Type 0 where
  pub earlier : Prefix l ir.funcs
  pub pools : Later p (pool ir)
  pub each : (i : ℕ) (f : Function) → get_elem? fs i ≡ some f → Listed P F ir (length l + i) f

get_prefix : {Y : Type 0} (l m : List Y) (y : Y) → get_elem? ((l ++ (y ∷ [])) ++ m) (length l) ≡ some y
get_prefix [] m y = refl
get_prefix (x ∷ l) m y = get_prefix l m y

all_none : (P : Program) (F : Functions) (l : List IrFunction) (p : Pool) (ir : IrProgram) → convert_all P F [] l p ≡ ok ir → AllConverted P F [] l p ir
unfolding convert_all
all_none P F l p ir e =
    let z = ok_same e in
    rw (sym z) (record {
      earlier = prefix_refl;
      pools = record { strings = prefix_refl; floats = prefix_refl };
      each = λ i f q. let n : ◌≡◌ {A = ℕ} 0 1 = cc in absurd (omega arith);
    })

all_more : (P : Program) (F : Functions) (f : Function) (fs : List Function) (l : List IrFunction) (p : Pool) (ir : IrProgram) (g : IrFunction) (q : Pool)
    → Converted P F f p g q → AllConverted P F fs (l ++ (g ∷ [])) q ir → AllConverted P F (f ∷ fs) l p ir
all_more P F f fs l p ir g q c a = record {
  earlier = prefix_trans (record { more = g ∷ []; whole = refl }) a.earlier;
  pools = later_trans (later P F f p g q c) a.pools;
  each = λ i h e. go i h e;
}
  where
    here : Listed P F ir (length l) f
    here = record { before = p; after = q; function = g; listed = ap (λ x. get_elem? x (length l)) (sym a.earlier.whole) ∙ get_prefix l a.earlier.more g; made_so = c; later = a.pools }

    go : (i : ℕ) (h : Function) → get_elem? (f ∷ fs) i ≡ some h → Listed P F ir (length l + i) h
    go zero h e = let z : f ≡ h = cc in subst (λ x. Listed P F ir (length l + 0) x) z (subst (λ n. Listed P F ir n f) (omega arith) here)
    go (suc i) h e = subst (λ n. Listed P F ir n h) (omega (arith, length-append l (g ∷ []))) (a.each i h e)

record AllStep (P : Program) (F : Functions) (f : Function) (fs : List Function) (l : List IrFunction) (p : Pool) (ir : IrProgram) : Type 0 where
  pub function : IrFunction
  pub after : Pool
  pub first : convert_func P F f p ≡ ok (function, after)
  pub rest : convert_all P F fs (l ++ (function ∷ [])) after ≡ ok ir

all-step : (P : Program) (F : Functions) (f : Function) (fs : List Function) (l : List IrFunction) (p : Pool) (ir : IrProgram) → convert_all P F (f ∷ fs) l p ≡ ok ir → AllStep P F f fs l p ir
unfolding convert_all
all-step P F f fs l p ir e = go (convert_func P F f p) refl e
  where
    go : (o : Result (IrFunction × Pool)) → convert_func P F f p ≡ o → C.◌>>=◌ o (λ q. convert_all P F fs (l ++ (q.0 ∷ [])) q.1) ≡ ok ir → AllStep P F f fs l p ir
    go (ok (g, q)) z w = record { function = g; after = q; first = z; rest = w }
    go (err k r) z w = let n : ◌≡◌ {A = ℕ} 0 1 = cc in absurd (omega arith)

all : (P : Program) (F : Functions) (fs : List Function) (l : List IrFunction) (p : Pool) (ir : IrProgram) → convert_all P F fs l p ≡ ok ir → AllConverted P F fs l p ir
all P F [] l p ir e = all_none P F l p ir e
all P F (f ∷ fs) l p ir e =
    let s = all-step P F f fs l p ir e in
    all_more P F f fs l p ir s.function s.after (converted P F f p s.function s.after s.first) (all P F fs (l ++ (s.function ∷ [])) s.after ir s.rest)

-- ---- the theorem

agreed : (W : Type 0) (P : Program) (F : Functions) (ir : IrProgram) (i : ℕ) (f : Function) (b : Block) → f.body ≡ some b → ((x : ℕ) → opens_b b x ≤ 1) → Listed P F ir i f → Agrees W P F ir i f b
unfolding body_of
agreed W P F ir i f b eb once L = go L.made_so
  where
    go : Converted P F f L.before L.function L.after → Agrees W P F ir i f b
    go (without e z) = let n : ◌≡◌ {A = ℕ} 0 1 = cc in absurd (omega arith)
    go (with_body b1 u c t e z eg eq) = record {
      function = L.function;
      listed = L.listed;
      same = rw eg refl;
      code = c;
      body = rw eg refl;
      shared = λ R A vs ρ len place. one_function P F f b (start L.before) u c t refl
          (subst (λ x. convert_body P F f x (start L.before) ≡ made u c t) (same_body e) z) ir.strings ir.floats
          (subst (λ (x : Pool). Prefix x.strings ir.strings) eq L.later.strings) (subst (λ (x : Pool). Prefix x.floats ir.floats) eq L.later.floats) once R A vs ρ len place;
    }
      where
        same_body : f.body ≡ some b1 → b1 ≡ b
        same_body k = cc

record Parts (P : Program) (F : Functions) (ir : IrProgram) : Type 0 where
  pub everything : convert_all P F P.functions [] (record { strings = []; floats = [] }) ≡ ok ir

parts : (P : Program) (needsMain : Bool) (ir : IrProgram) (F : Functions) → convert P needsMain ≡ ok ir → get_all_functions P.functions [] ≡ ok F → Parts P F ir
unfolding convert
parts P needsMain ir F e k = go (get_all_functions P.functions []) k (check_main P needsMain) e
  where
    go : (o : Result Functions) → o ≡ ok F → (u : Result (Unit {0})) → C.◌>>=◌ o (λ G. C.◌>>=◌ u (λ v. convert_all P G P.functions [] (record { strings = []; floats = [] }))) ≡ ok ir → Parts P F ir
    go (ok G) z (ok v) w = record { everything = subst (λ H. convert_all P H P.functions [] (record { strings = []; floats = [] }) ≡ ok ir) (ok_same z) w }
    go (ok G) z (err h r) w = let n : ◌≡◌ {A = ℕ} 0 1 = cc in absurd (omega arith)
    go (err h r) z u w = let n : ◌≡◌ {A = ℕ} 0 1 = cc in absurd (omega arith)

-- DEMAND 3: of every program that converts, each function with a body runs alike on the tree and on its instructions
pub demand3 : (W : Type 0) (P : Program) (needsMain : Bool) (ir : IrProgram) (F : Functions) → WellFormed P → convert P needsMain ≡ ok ir → get_all_functions P.functions [] ≡ ok F
    → (i : ℕ) (f : Function) (b : Block) → get_elem? P.functions i ≡ some f → f.body ≡ some b → Agrees W P F ir i f b
demand3 W P needsMain ir F wf e k i f b ef eb =
    agreed W P F ir i f b eb (wf.once i f b ef eb)
    (subst (λ n. Listed P F ir n f) (omega arith) ((all P F P.functions [] (record { strings = []; floats = [] }) ir (parts P needsMain ir F e k).everything).each i f ef))
