-- The claim for one function: its parameters are in place, its body simulates, and its labels are placed once.
-- By induction on the parameters; then from the simulation of its block.
use mathlib.Core.Path.{◌≡◌, refl, sym, ◌∙◌, ap, subst}
use mathlib.Core.List.{List, [], ◌∷◌, ◌++◌, append-nil}
use mathlib.Core.Option.{none, some}
use mathlib.Core.Bool.{Bool, true, false, not, ◌&&◌}
use Prim.Native.Nat.{ℕ, suc, ◌+◌, ◌≤◌}
use native.Mathlib.Nat.{le_refl}
use native.Mathlib.Omega.{arith}
use lib.ListN.{length, get_elem?}
use Rattle.laws.proofs.Prefixes.{Prefix, prefix_refl}
use Rattle.laws.specs.Fix.{pick}
use Rattle.syntax.specs.Syntax.{Text, Block, Param, Function, Program, null_type}
use Rattle.conversion.specs.ConvertError.{ConvertErrorKind, MissingReturn}
use Rattle.conversion.specs.Ir.{StringEntry, texts, FloatEntry, State, made, M, pure, fail}
use Rattle.conversion.specs.Types.{is_some}
use Rattle.conversion.specs.Scope.{Variable, Scope, find_in, find_variable, with_variable}
use Rattle.conversion.specs.Expressions.{Functions}
use Rattle.conversion.specs.Statements.{convert_block}
use Rattle.conversion.specs.Functions.{declare_params, convert_body, always_returns}
use Rattle.runs.specs.Rule.{halt, halts, Rule, comes, Answers, NullContent}
use Rattle.runs.specs.TreeRun.{KnownName, Values, set, run_block, parameters_known, parameter_values, tree_run}
use Rattle.runs.specs.BodyRun.{Vars, body_run}
use Rattle.runs.specs.Shared.{Shared, InPlace}
use Rattle.runs.proofs.Opens.{opens_b}
use Rattle.runs.proofs.Machine.{Code, at, Placed, placed}
use Rattle.runs.proofs.Invert.{Grow, grow_refl, grow_trans, inv, inv_pure, inv_new, next_var, with_var, with_var-length, with_var_grow}
use Rattle.runs.proofs.Texts.{SameName, one, two, same_name, set_same, set_other}
use Rattle.runs.proofs.Names.{known, Scoped, scoped-new, find-same, find-other, sub_refl, Agree}
use Rattle.conversion.proofs.Steps.{body_steps-is, param_is}
use Rattle.runs.proofs.Sim.{Ctx, body, Within, name_of}
use Rattle.runs.proofs.SimS.{InLoop, outside, GoodS}
use Rattle.runs.proofs.Blocks.{known_end, good_b}
use Rattle.runs.proofs.Whole.{Sum, sum, share}
use Rattle.runs.proofs.Returns.{not-passed, block_returns}

-- ---- parameters

-- a variable that holds its value already
agree_param : {W : Type 0} {vs : List Variable} (σ : Values W) (ρ : Vars W) (v : Variable) (w : W) → ρ v.var_id.id ≡ w → Agree vs σ ρ → Agree (v ∷ vs) (set σ v.name w) ρ
agree_param {vs = vs} σ ρ v w p a = record { same = λ m u f. go m u f (same_name m v.name) }
  where
    go : (m : Text) (u : Variable) → find_in m (v ∷ vs) ≡ some u → SameName m v.name → ρ u.var_id.id ≡ set σ v.name w m
    go m u f (one e q) =
        let f1 : find_in v.name (v ∷ vs) ≡ some u = subst (λ x. find_in x (v ∷ vs) ≡ some u) e f in
        let f2 = find-same v vs in
        let k : u ≡ v = cc in
        rw (e, k) (p ∙ sym (set_same σ v.name w))
    go m u f (two e q) = a.same m u (sym (find-other m v vs e) ∙ f) ∙ sym (set_other σ v.name m w e)

-- what declaring the parameters l in the scope sc does
record Entered (l : List Param) (sc : Scope) (s : State) (sc1 : Scope) (c : Code) (t : State) : Type 1 where
  pub code : c ≡ []
  pub grow : Grow s t
  pub loop : sc1.in_loop ≡ sc.in_loop
  pub func : sc1.function ≡ sc.function
  pub knows : known sc1.variables ≡ parameters_known l (known sc.variables)
  pub scoped : Scoped sc.variables (length s.vars) → Scoped sc1.variables (length t.vars)
  pub agrees : {W : Type 0} (vs : List W) (σ : Values W) (ρ : Vars W) → length vs ≡ length l → ((i : ℕ) (v : W) → get_elem? vs i ≡ some v → ρ (length s.vars + i) ≡ v)
      → Agree sc.variables σ ρ → Agree sc1.variables (parameter_values l vs σ) ρ

not_known : (b : Bool) (k : ConvertErrorKind) (r : ℕ) (m : M Scope) (s : State) (x : Scope) (c : Code) (t : State) → pick b (fail k r) m s ≡ made x c t → m s ≡ made x c t
unfolding pick fail
not_known true k r m s x c t q = let w : ◌≡◌ {A = ℕ} 0 1 = cc in absurd (omega arith)
not_known false k r m s x c t q = q

none-entered : (sc : Scope) (s : State) (x : Scope) (c : Code) (t : State) → declare_params [] sc s ≡ made x c t → Entered [] sc s x c t
unfolding declare_params parameters_known parameter_values
none-entered sc s x c t q =
    let i = inv_pure q in
    rw (i.got, i.code, i.st) (record { code = refl; grow = grow_refl; loop = refl; func = refl; knows = refl; scoped = λ g. g; agrees = λ vs σ ρ e p a. a })

param_entered : {l : List Param} {x : Scope} {c : Code} {t : State} (p : Param) (sc : Scope) (s : State)
    → Entered l (with_variable (record { name = p.name; constant = false; var_id = next_var p.ty s }) sc) (with_var p.ty s) x c t → Entered (p ∷ l) sc s x c t
unfolding with_variable known next_var parameters_known parameter_values
param_entered {l} {x} {c} {t} p sc s E = record {
  code = E.code;
  grow = grow_trans (with_var_grow p.ty s) E.grow;
  loop = E.loop;
  func = E.func;
  knows = E.knows;
  scoped = λ g. E.scoped (scoped-new v sc.variables (length s.vars) (length (with_var p.ty s).vars) (le_refl _) (omega (arith, with_var-length p.ty s)) g);
  agrees = λ vs σ ρ e q a. go vs σ ρ e q a;
}
  where
    v : Variable
    v = record { name = p.name; constant = false; var_id = next_var p.ty s }

    go : {W : Type 0} (vs : List W) (σ : Values W) (ρ : Vars W) → length vs ≡ suc (length l) → ((i : ℕ) (w : W) → get_elem? vs i ≡ some w → ρ (length s.vars + i) ≡ w)
        → Agree sc.variables σ ρ → Agree x.variables (parameter_values (p ∷ l) vs σ) ρ
    go [] σ ρ e q a = absurd (omega arith)
    go (w ∷ vs) σ ρ e q a = E.agrees vs (set σ p.name w) ρ (omega arith)
        (λ i u f. ap ρ (omega (arith, with_var-length p.ty s)) ∙ q (suc i) u f)
        (agree_param σ ρ v w (ap ρ (omega arith) ∙ q 0 w refl) a)

entered : (l : List Param) (sc : Scope) (s : State) (x : Scope) (c : Code) (t : State) → declare_params l sc s ≡ made x c t → Entered l sc s x c t
entered [] sc s x c t q = none-entered sc s x c t q
entered (p ∷ l) sc s x c t q =
    let i = inv_new (not_known (is_some (find_variable p.name sc)) _ _ _ s x c t (sym (param_is p l sc s) ∙ q)) in
    param_entered p sc s (entered l _ _ x c t i.rest)

-- ---- the body

empty_scoped : Scoped [] 0
unfolding find_in
empty_scoped = record { low = λ n v e. let z : ◌≡◌ {A = ℕ} 0 1 = cc in absurd (omega arith); inj = λ n m v w e f k. let z : ◌≡◌ {A = ℕ} 0 1 = cc in absurd (omega arith) }

empty_agree : {W : Type 0} (σ : Values W) (ρ : Vars W) → Agree [] σ ρ
unfolding find_in
empty_agree σ ρ = record { same = λ n v e. let z : ◌≡◌ {A = ℕ} 0 1 = cc in absurd (omega arith) }

module _ {W : Type 0} (X : Ctx W) where
  -- from a block that was converted to the whole code, in a scope of the parameters
  one-made : (b : Block) (s0 s1 t : State) (sc sc2 : Scope) (vs : List W) (ρ : Vars W) → s0.vars ≡ []
      → Entered X.fun.params (record { variables = []; in_loop = none; function = X.fun }) s0 sc [] s1
      → convert_block X.prog X.funs b sc s1 ≡ made sc2 X.code t → Within X t
      → ((x : ℕ) → opens_b b x ≤ 1) → ((y : ℕ) → X.fun.return_type ≡ some y → always_returns b ≡ true)
      → length vs ≡ length X.fun.params → InPlace vs ρ
      → Shared (tree_run X.prog X.funs X.fun X.rule X.answers b vs) (body_run X.rule X.answers (body X) ρ) X.fun.return_type
  unfolding tree_run known
  one-made b s0 s1 t sc sc2 vs ρ empty E q w once returning len place =
      share X (λ n. run_block X.prog X.funs X.fun X.rule X.answers b n N σ []) ρ X.fun.return_type sums
      (λ y n e p. not-passed _ (block_returns X.prog X.funs X.fun X.rule X.answers b n N σ [] (returning y e)) p)
    where
      N : List KnownName
      N = parameters_known X.fun.params []

      σ : Values W
      σ = parameter_values X.fun.params vs (λ z. X.rule.literal NullContent null_type)

      G : GoodS X sc (opens_b b) (known_end X b (known sc.variables))
          (λ i σ1 h1. run_block X.prog X.funs X.fun X.rule X.answers b i (known sc.variables) σ1 h1) s1 sc2 X.code t
      G = good_b X b sc E.func s1 sc2 X.code t q

      zero-vars : length s0.vars ≡ 0
      zero-vars = ap length empty

      ag : Agree sc.variables σ ρ
      ag = E.agrees vs (λ z. X.rule.literal NullContent null_type) ρ len (λ i v e. ap ρ (omega (arith, zero-vars)) ∙ place i v e) (empty_agree _ ρ)

      g : Scoped sc.variables (length s1.vars)
      g = E.scoped (subst (λ n. Scoped [] n) (sym zero-vars) empty_scoped)

      pl : Placed X.code X.code
      pl = placed X.code (λ l. omega (arith, G.once w l, once (name_of X l).opener))

      il : InLoop X sc.in_loop false 0 0
      il = rw E.loop outside

      sums : (n : ℕ) → Sum X n (at X.code [] ρ []) (run_block X.prog X.funs X.fun X.rule X.answers b n N σ [])
      sums n = subst (λ K. Sum X n (at X.code [] ρ []) (run_block X.prog X.funs X.fun X.rule X.answers b n K σ [])) E.knows
          (subst (λ c. Sum X n (at c [] ρ []) (run_block X.prog X.funs X.fun X.rule X.answers b n (known sc.variables) σ [])) (append-nil X.code)
          (sum X (G.sim w g sc.variables il sub_refl n [] ρ σ [] ag (rw append-nil pl))))

-- what a body's conversion ends with
record Closed (f : Function) (b : Block) (s : State) (c : Code) (t : State) : Type 0 where
  pub code : c ≡ []
  pub st : t ≡ s
  pub returning : (y : ℕ) → f.return_type ≡ some y → always_returns b ≡ true

closed : (f : Function) (b : Block) (s : State) (u : Unit {0}) (c : Code) (t : State)
    → pick (is_some f.return_type && not (always_returns b)) (fail MissingReturn f.rec_of) (pure tt) s ≡ made u c t → Closed f b s c t
unfolding pick fail is_some
closed f b s u c t q = go (is_some f.return_type) (always_returns b) refl refl q
  where
    go : (x y : Bool) → is_some f.return_type ≡ x → always_returns b ≡ y → pick (x && not y) (fail MissingReturn f.rec_of) (pure tt) s ≡ made u c t → Closed f b s c t
    go true true e r z = let i = inv_pure z in record { code = i.code; st = i.st; returning = λ y k. r }
    go true false e r z = let w : ◌≡◌ {A = ℕ} 0 1 = cc in absurd (omega arith)
    go false y e r z = let i = inv_pure z in record {
      code = i.code;
      st = i.st;
      returning = λ n k. let a : is_some f.return_type ≡ true = rw k refl in let w : ◌≡◌ {A = ℕ} 0 1 = cc in absurd (omega arith);
    }

pub one_function : {W : Type 0} (P : Program) (F : Functions) (f : Function) (b : Block) (s : State) (u : Unit {0}) (c : Code) (t : State) → s.vars ≡ [] → convert_body P F f b s ≡ made u c t
    → (ss : List StringEntry) (fs : List FloatEntry) → Prefix t.strings ss → Prefix t.floats fs → ((x : ℕ) → opens_b b x ≤ 1)
    → (R : Rule W) (A : Answers W) (vs : List W) (ρ : Vars W) → length vs ≡ length f.params → InPlace vs ρ
    → Shared (tree_run P F f R A b vs) (body_run R A (record { instrs = c; result = f.return_type; strings = texts ss; floats = fs }) ρ) f.return_type
one_function P F f b s u c t empty q ss fs ps pf once R A vs ρ len place =
    let i1 = inv (sym (body_steps-is P F f b s) ∙ q) in
    let i2 = inv i1.rest in
    let k = closed f b i2.st u i2.c2 t i2.rest in
    let E = entered f.params (record { variables = []; in_loop = none; function = f }) s i1.got i1.c1 i1.st i1.first in
    let ec : c ≡ i2.c1 = i1.code ∙ (ap (λ z. z ++ i1.c2) E.code ∙ (i2.code ∙ (ap (λ z. i2.c1 ++ z) k.code ∙ append-nil i2.c1))) in
    made_one i1.got i1.st i2.got (subst (λ z. Entered f.params (record { variables = []; in_loop = none; function = f }) s i1.got z i1.st) E.code E)
    (i2.first ∙ (ap (λ z. made i2.got z i2.st) (sym ec) ∙ ap (λ z. made i2.got c z) (sym k.st))) k.returning
  where
    made_one : (sc : Scope) (s1 : State) (sc2 : Scope) → Entered f.params (record { variables = []; in_loop = none; function = f }) s sc [] s1
        → convert_block P F b sc s1 ≡ made sc2 c t → ((y : ℕ) → f.return_type ≡ some y → always_returns b ≡ true)
        → Shared (tree_run P F f R A b vs) (body_run R A (record { instrs = c; result = f.return_type; strings = texts ss; floats = fs }) ρ) f.return_type
    made_one sc s1 sc2 E e ret =
        one-made (record { prog = P; funs = F; fun = f; rule = R; answers = A; code = c; labels = t.labels; strings = ss; floats = fs }) b s s1 t sc sc2 vs ρ empty E e
        (record { labels = prefix_refl; strings = ps; floats = pf }) once ret len place

-- some rule, over one value
any_rule : Program → Functions → Function → Ctx (Unit {0})
any_rule P F f = record {
  prog = P;
  funs = F;
  fun = f;
  rule = record { literal = λ c y. tt; copy = λ y v. halt; zero = λ y. halt; unary = λ o y v. halt; binary = λ o y v w. halt; cast = λ y v. halt; truth = λ v. halts; return = λ y v. halt; call = λ h g v. halt };
  answers = λ h g y v. (comes halt, []);
  code = [];
  labels = [];
  strings = [];
  floats = [];
}

-- converting a body only adds to the tables
pub body_grows : (P : Program) (F : Functions) (f : Function) (b : Block) (s : State) (u : Unit {0}) (c : Code) (t : State) → convert_body P F f b s ≡ made u c t → Grow s t
unfolding any_rule
body_grows P F f b s u c t q =
    let i1 = inv (sym (body_steps-is P F f b s) ∙ q) in
    let i2 = inv i1.rest in
    let k = closed f b i2.st u i2.c2 t i2.rest in
    let E = entered f.params (record { variables = []; in_loop = none; function = f }) s i1.got i1.c1 i1.st i1.first in
    rw k.st (grow_trans E.grow (good_b (any_rule P F f) b i1.got E.func i1.st i2.got i2.c1 i2.st i2.first).grow)
