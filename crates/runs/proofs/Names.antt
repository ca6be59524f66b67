-- Names in scope: typing looks at names and types alone; a scope's variables are distinct; values by name and by variable agree.
-- By induction on the expression and on the list of names.
use mathlib.Core.Path.{◌≡◌, refl, sym, ◌∙◌, ap, subst}
use mathlib.Core.Logic.{◌≢◌}
use mathlib.Core.List.{List, [], ◌∷◌}
use mathlib.Core.Option.{Option, none, some}
use mathlib.Core.Bool.{Bool, true, false}
use Prim.Native.Nat.{ℕ, ◌≤◌, ◌<◌}
use native.Mathlib.Omega.{arith}
use Rattle.syntax.specs.Syntax.{Text, Expr, EInt, EFloat, EStr, EBool, EName, ENull, ESizeOf, EUnary, EBinary, ECall, Args, no_args, Value, ToType, Function, Program}
use Rattle.conversion.specs.ConvertError.{ok, ◌>>=◌}
use Rattle.conversion.specs.Ir.{same_text}
use Rattle.conversion.specs.Scope.{Variable, Scope, find_in, with_variable, declare_new, declare}
use Rattle.conversion.specs.Expressions.{Functions, name_type, unary_type, binary_type, common_of, resolve_typed, value_type, return_type, get_type, get_argument_types, resolve_call, common_type}
use Rattle.runs.specs.TreeRun as Tree
use Rattle.runs.specs.TreeRun.{KnownName, Values, set, known_type, scope_of}
use Rattle.runs.specs.BodyRun.{Vars, write}
use Rattle.runs.proofs.Machine.{write_same, write-other}
use Rattle.runs.proofs.Texts.{text_refl, SameName, one, two, same_name, set_same, set_other}

-- the names of a scope, with their types
unfoldable pub known : List Variable → List KnownName
known [] = []
known (v ∷ vs) = record { name = v.name; ty = v.var_id.ty } ∷ known vs

name-known : (r : ℕ) (n : Text) (vs : List Variable) → name_type r (find_in n (Tree.known_variables (known vs))) ≡ name_type r (find_in n vs)
unfolding known Tree.known_variables find_in name_type
name-known r n [] = refl
name-known r n (v ∷ vs) = go (same_text n v.name) (name-known r n vs)
  where
    go : (b : Bool) → name_type r (find_in n (Tree.known_variables (known vs))) ≡ name_type r (find_in n vs)
        → name_type r (elim b as (λ x. Option Variable) [ true ↦ some (record { name = v.name; constant = false; var_id = record { id = 0; ty = v.var_id.ty } }) | false ↦ find_in n (Tree.known_variables (known vs)) ])
        ≡ name_type r (elim b as (λ x. Option Variable) [ true ↦ some v | false ↦ find_in n vs ])
    go true e = refl
    go false e = e

-- the type of a variable that was found
unfoldable pub found_type : Option Variable → Option ℕ
found_type none = none
found_type (some v) = some v.var_id.ty

pub type-known : (n : Text) (vs : List Variable) → known_type n (known vs) ≡ found_type (find_in n vs)
unfolding known known_type find_in found_type
type-known n [] = refl
type-known n (v ∷ vs) = go (same_text n v.name) (type-known n vs)
  where
    go : (b : Bool) → known_type n (known vs) ≡ found_type (find_in n vs)
        → elim b as (λ x. Option ℕ) [ true ↦ some v.var_id.ty | false ↦ known_type n (known vs) ]
        ≡ found_type (elim b as (λ x. Option Variable) [ true ↦ some v | false ↦ find_in n vs ])
    go true e = refl
    go false e = e

module _ (P : Program) (F : Functions) (f : Function) (sc : Scope) where
  mutual
    unfolding get_type scope_of

    -- typing over the known names is typing in the scope
    pub typing : (e : Expr) → get_type P F e (scope_of f (known sc.variables)) ≡ get_type P F e sc
    typing (EInt r v s u) = refl
    typing (EFloat r b s) = refl
    typing (EStr r o n t) = refl
    typing (EBool r b) = refl
    typing (EName r t) = name-known r t sc.variables
    typing (ENull r) = refl
    typing (ESizeOf r y) = refl
    typing (EUnary r o a) = ap (λ t. t >>= λ y. unary_type P F r o y) (typing a)
    typing (EBinary r o a b) = ap (λ t. t >>= λ l. get_type P F b (scope_of f (known sc.variables)) >>= λ y. binary_type P F r o a l b y) (typing a)
        ∙ ap (λ t. get_type P F a sc >>= λ l. t >>= λ y. binary_type P F r o a l b y) (typing b)
    typing (ECall r verb l) = ap (λ t. t >>= λ ts. resolve_typed P F verb r ts >>= λ c. value_type r (return_type c)) (typing_args l)

    pub typing_args : (l : Args) → get_argument_types P F l (scope_of f (known sc.variables)) ≡ get_argument_types P F l sc
    typing_args no_args = refl
    typing_args (Value r e l) =
        ap (λ t. t >>= λ y. get_argument_types P F l (scope_of f (known sc.variables)) >>= λ ts. ok (record { ty = y; value = some e } ∷ ts)) (typing e)
        ∙ ap (λ t. get_type P F e sc >>= λ y. t >>= λ ts. ok (record { ty = y; value = some e } ∷ ts)) (typing_args l)
    typing_args (ToType r y l) = ap (λ t. t >>= λ ts. ok (record { ty = y; value = none } ∷ ts)) (typing_args l)

  pub resolving : (verb : Text) (l : Args) (r : ℕ) → resolve_call P F verb l (scope_of f (known sc.variables)) r ≡ resolve_call P F verb l sc r
  unfolding resolve_call
  resolving verb l r = ap (λ t. t >>= λ ts. resolve_typed P F verb r ts) (typing_args l)

  pub commoning : (a b : Expr) → common_type P F a b (scope_of f (known sc.variables)) ≡ common_type P F a b sc
  unfolding common_type
  commoning a b = ap (λ t. t >>= λ l. get_type P F b (scope_of f (known sc.variables)) >>= λ r. ok (common_of P F a l b r)) (typing a)
      ∙ ap (λ t. get_type P F a sc >>= λ l. t >>= λ r. ok (common_of P F a l b r)) (typing b)

-- ---- scopes over the variables below t

pub record Scoped (vs : List Variable) (t : ℕ) : Type 0 where
  pub low : (n : Text) (v : Variable) → find_in n vs ≡ some v → v.var_id.id < t
  pub inj : (n m : Text) (v w : Variable) → find_in n vs ≡ some v → find_in m vs ≡ some w → v.var_id.id ≡ w.var_id.id → n ≡ m

pub scoped_mono : {vs : List Variable} {s t : ℕ} → s ≤ t → Scoped vs s → Scoped vs t
scoped_mono g s = record { low = λ n v e. omega (arith, s.low n v e); inj = s.inj }

pub record Sub (a b : List Variable) : Type 0 where
  pub keeps : (n : Text) (v : Variable) → find_in n a ≡ some v → find_in n b ≡ some v

pub sub_refl : {a : List Variable} → Sub a a
sub_refl = record { keeps = λ n v e. e }

pub sub_trans : {a b c : List Variable} → Sub a b → Sub b c → Sub a c
sub_trans p q = record { keeps = λ n v e. q.keeps n v (p.keeps n v e) }

pub find-same : (v : Variable) (vs : List Variable) → find_in v.name (v ∷ vs) ≡ some v
unfolding find_in
find-same v vs = rw (find_in, text_refl v.name) refl

pub find-other : (n : Text) (v : Variable) (vs : List Variable) → n ≢ v.name → find_in n (v ∷ vs) ≡ find_in n vs
unfolding find_in
find-other n v vs d = go (same_name n v.name)
  where
    go : SameName n v.name → elim (same_text n v.name) as (λ x. Option Variable) [ true ↦ some v | false ↦ find_in n vs ] ≡ find_in n vs
    go (one p q) = absurd (d p)
    go (two p q) = rw q refl

-- a name more
pub sub-new : (v : Variable) (vs : List Variable) → find_in v.name vs ≡ none → Sub vs (v ∷ vs)
sub-new v vs u = record { keeps = λ n w e. go n w e (same_name n v.name) }
  where
    go : (n : Text) (w : Variable) → find_in n vs ≡ some w → SameName n v.name → find_in n (v ∷ vs) ≡ some w
    go n w e (one p q) = let a : find_in v.name vs ≡ some w = subst (λ x. find_in x vs ≡ some w) p e in let z : ◌≡◌ {A = ℕ} 0 1 = cc in absurd (omega arith)
    go n w e (two p q) = find-other n v vs p ∙ e

pub scoped-new : (v : Variable) (vs : List Variable) (s t : ℕ) → s ≤ v.var_id.id → v.var_id.id < t → Scoped vs s → Scoped (v ∷ vs) t
scoped-new v vs s t g k c = record { low = λ n w. low1 n w (same_name n v.name); inj = λ n m w u. inj1 n m w u (same_name n v.name) (same_name m v.name) }
  where
    is-new : (n : Text) (w : Variable) → n ≡ v.name → find_in n (v ∷ vs) ≡ some w → v ≡ w
    is-new n w p e = let a : find_in v.name (v ∷ vs) ≡ some w = subst (λ x. find_in x (v ∷ vs) ≡ some w) p e in let b = find-same v vs in cc

    low1 : (n : Text) (w : Variable) → SameName n v.name → find_in n (v ∷ vs) ≡ some w → w.var_id.id < t
    low1 n w (one p q) e = omega (arith, ap (λ (x : Variable). x.var_id.id) (is-new n w p e))
    low1 n w (two p q) e = omega (arith, c.low n w (sym (find-other n v vs p) ∙ e))

    inj1 : (n m : Text) (w u : Variable) → SameName n v.name → SameName m v.name → find_in n (v ∷ vs) ≡ some w → find_in m (v ∷ vs) ≡ some u
        → w.var_id.id ≡ u.var_id.id → n ≡ m
    inj1 n m w u (one p q) (one p1 q1) e f z = p ∙ sym p1
    inj1 n m w u (one p q) (two p1 q1) e f z =
        absurd (omega (arith, ap (λ (x : Variable). x.var_id.id) (is-new n w p e), c.low m u (sym (find-other m v vs p1) ∙ f)))
    inj1 n m w u (two p q) (one p1 q1) e f z =
        absurd (omega (arith, ap (λ (x : Variable). x.var_id.id) (is-new m u p1 f), c.low n w (sym (find-other n v vs p) ∙ e)))
    inj1 n m w u (two p q) (two p1 q1) e f z = c.inj n m w u (sym (find-other n v vs p) ∙ e) (sym (find-other m v vs p1) ∙ f) z

-- ---- values by name and by variable

abbrev pub Frame : {W : Type 0} → ℕ → Vars W → Vars W → Type 0
Frame t ρ ρ' = (x : ℕ) → x < t → ρ' x ≡ ρ x

pub record Agree {W : Type 0} (vs : List Variable) (σ : Values W) (ρ : Vars W) : Type 0 where
  pub same : (n : Text) (v : Variable) → find_in n vs ≡ some v → ρ v.var_id.id ≡ σ n

pub agree_frame : {W : Type 0} {vs : List Variable} {t : ℕ} {σ : Values W} {ρ ρ' : Vars W} → Scoped vs t → Frame t ρ ρ' → Agree vs σ ρ → Agree vs σ ρ'
agree_frame s f a = record { same = λ n v e. f v.var_id.id (s.low n v e) ∙ a.same n v e }

pub agree_sub : {W : Type 0} {a b : List Variable} {σ : Values W} {ρ : Vars W} → Sub a b → Agree b σ ρ → Agree a σ ρ
agree_sub s g = record { same = λ n v e. g.same n v (s.keeps n v e) }

-- a variable of the scope gets a value
pub agree_set : {W : Type 0} {vs : List Variable} {t : ℕ} (σ : Values W) (ρ : Vars W) (n : Text) (v : Variable) (w : W)
    → Scoped vs t → find_in n vs ≡ some v → Agree vs σ ρ → Agree vs (set σ n w) (write ρ v.var_id.id w)
agree_set {vs = vs} σ ρ n v w s e a = record { same = λ m u f. go m u f (same_name m n) }
  where
    go : (m : Text) (u : Variable) → find_in m vs ≡ some u → SameName m n → write ρ v.var_id.id w u.var_id.id ≡ set σ n w m
    go m u f (one p q) =
        let f1 : find_in n vs ≡ some u = subst (λ x. find_in x vs ≡ some u) p f in
        let k : u ≡ v = cc in
        rw (p, k) (write_same ρ v.var_id.id w ∙ sym (set_same σ n w))
    go m u f (two p q) = write-other ρ v.var_id.id u.var_id.id w (λ k. p (s.inj m n u v f e k)) ∙ (a.same m u f ∙ sym (set_other σ n m w p))

-- a new variable
pub agree_new : {W : Type 0} {vs : List Variable} {t : ℕ} (σ : Values W) (ρ : Vars W) (v : Variable) (w : W)
    → Scoped vs t → t ≤ v.var_id.id → Agree vs σ ρ → Agree (v ∷ vs) (set σ v.name w) (write ρ v.var_id.id w)
agree_new {vs = vs} σ ρ v w s g a = record { same = λ m u f. go m u f (same_name m v.name) }
  where
    go : (m : Text) (u : Variable) → find_in m (v ∷ vs) ≡ some u → SameName m v.name → write ρ v.var_id.id w u.var_id.id ≡ set σ v.name w m
    go m u f (one p q) =
        let f1 : find_in v.name (v ∷ vs) ≡ some u = subst (λ x. find_in x (v ∷ vs) ≡ some u) p f in
        let f2 = find-same v vs in
        let k : u ≡ v = cc in
        rw (p, k) (write_same ρ v.var_id.id w ∙ sym (set_same σ v.name w))
    go m u f (two p q) =
        let f1 : find_in m vs ≡ some u = sym (find-other m v vs p) ∙ f in
        write-other ρ v.var_id.id u.var_id.id w (omega (arith, s.low m u f1)) ∙ (a.same m u f1 ∙ sym (set_other σ v.name m w p))

-- what a declaration does
pub record Declared (v : Variable) (sc sc1 : Scope) : Type 0 where
  pub fresh : find_in v.name sc.variables ≡ none
  pub scope : sc1 ≡ with_variable v sc

pub declared : (v : Variable) (r : ℕ) (sc sc1 : Scope) → declare v r sc ≡ ok sc1 → Declared v sc sc1
unfolding declare
declared v r sc sc1 q = go (find_in v.name sc.variables) refl q
  where
    go : (o : Option Variable) → find_in v.name sc.variables ≡ o → declare_new o v r sc ≡ ok sc1 → Declared v sc sc1
    go none e z = record { fresh = e; scope = cc }
    go (some w) e z = let x : ◌≡◌ {A = ℕ} 0 1 = cc in absurd (omega arith)
