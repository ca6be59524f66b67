-- What a call is resolved to is a function of the program: what holds of each of them holds of it.
-- Each way of looking for one takes it from the program's list, or from the map that was made of that list. Assumes nothing.
use mathlib.Core.Path.{◌≡◌, refl, subst}
use Prim.Native.Nat.{ℕ, suc}
use mathlib.Core.Bool.{Bool, true, false, not, ◌&&◌, ◌||◌}
use mathlib.Core.List.{List, [], ◌∷◌, ◌++◌}
use mathlib.Core.Option.{Option, none, some}
use native.Mathlib.Omega.{arith}
use lib.ListN.{get_elem?}
use Rattle.laws.specs.Below.{or_else}
use Rattle.laws.specs.Fix.{pick}
use Rattle.syntax.specs.Syntax.{Text, Args, Function, Program}
use Rattle.conversion.specs.ConvertError.{Result, ok, err, ◌>>=◌, ExternNotLatin, SameSymbol, LatinCharInNonLibCFunction, SameSignature}
use Rattle.conversion.specs.Ir.{same_text}
use Rattle.conversion.specs.Scope.{Scope}
use Rattle.conversion.specs.Expressions.{Callee, CallFunction, CallCast, TypedArg, main_name, variadic_mark, Functions, get_function, is_mangled, filter_option, chosen, takes_both, cast_type, suffixes, mangled_function, joined, variadic_function, find_exact_function, by_literals, find_functions_by_literals, exact_or, resolve_function, resolve_typed, get_argument_types, resolve_call}
use Rattle.conversion.specs.Functions.{is_ascii, contains_key, add_function, get_all_functions}

module _ (Q : Function → Type 0) (T : ℕ → Type 0) where
  -- Q of a function that was found, of each in a list, of each in the map; of a callee, which a cast to a type with T may be too
  abbrev pub OfOption : Option Function → Type 0
  OfOption none = Unit {0}
  OfOption (some g) = Q g

  abbrev pub OfEach : List Function → Type 0
  OfEach [] = Unit {0}
  OfEach (g ∷ l) = Q g × OfEach l

  abbrev pub OfMap : Functions → Type 0
  OfMap [] = Unit {0}
  OfMap (e ∷ l) = Q e.1 × OfMap l

  abbrev pub OfCallee : Result Callee → Type 0
  OfCallee (ok (CallFunction g)) = Q g
  OfCallee (ok (CallCast y)) = T y
  OfCallee (err k r) = Unit {0}

  abbrev pub OfTarget : Option ℕ → Type 0
  OfTarget none = Unit {0}
  OfTarget (some y) = T y

  -- ---- the map is made of the list

  more : (F : Functions) (k : Text) (g : Function) → OfMap F → Q g → OfMap (F ++ ((k, g) ∷ []))
  more [] k g h q = (q, tt)
  more (e ∷ F) k g h q = (h.0, more F k g h.1 q)

  added : (g : Function) (F G : Functions) → Q g → OfMap F → add_function g F ≡ ok G → OfMap G
  unfolding add_function pick
  added g F G q h e = go (g.external || same_text g.name main_name) (is_ascii g.name) (contains_key g.name F) (contains_key g.mangled_name F) e
    where
      go : (a b c d : Bool) → pick a (pick (not b) (err ExternNotLatin g.rec_of) (pick c (err SameSymbol g.rec_of) (ok (F ++ ((g.name, g) ∷ [])))))
          (pick b (err LatinCharInNonLibCFunction g.rec_of) (pick d (err SameSignature g.rec_of) (ok (F ++ ((g.mangled_name, g) ∷ []))))) ≡ ok G → OfMap G
      go true true false d z = let w : F ++ ((g.name, g) ∷ []) ≡ G = cc in subst OfMap w (more F g.name g h q)
      go true true true d z = let w : ◌≡◌ {A = ℕ} 0 1 = cc in absurd (omega arith)
      go true false c d z = let w : ◌≡◌ {A = ℕ} 0 1 = cc in absurd (omega arith)
      go false false c false z = let w : F ++ ((g.mangled_name, g) ∷ []) ≡ G = cc in subst OfMap w (more F g.mangled_name g h q)
      go false false c true z = let w : ◌≡◌ {A = ℕ} 0 1 = cc in absurd (omega arith)
      go false true c d z = let w : ◌≡◌ {A = ℕ} 0 1 = cc in absurd (omega arith)

  pub map_of : (l : List Function) (F G : Functions) → OfEach l → OfMap F → get_all_functions l F ≡ ok G → OfMap G
  unfolding get_all_functions
  map_of [] F G q h e = let w : F ≡ G = cc in subst OfMap w h
  map_of (g ∷ l) F G q h e = go (add_function g F) refl e (λ H k w. map_of l H G q.1 k w)
    where
      go : (o : Result Functions) → add_function g F ≡ o → (o >>= λ H. get_all_functions l H) ≡ ok G → ((H : Functions) → OfMap H → get_all_functions l H ≡ ok G → OfMap G) → OfMap G
      go (ok H) z w next = next H (added g F H q.0 h z) w
      go (err k r) z w next = let w1 : ◌≡◌ {A = ℕ} 0 1 = cc in absurd (omega arith)

  -- ---- a call is resolved within both

  get-of : (k : Text) (G : Functions) → OfMap G → OfOption (get_function k G)
  unfolding get_function
  get-of k [] h = tt
  get-of k (e ∷ l) h = by (same_text k e.0) (get-of k l h.1)
    where
      by : (b : Bool) → OfOption (get_function k l) → OfOption (elim b as (λ x. Option Function) [ true ↦ some e.1 | false ↦ get_function k l ])
      by true q = h.0
      by false q = q

  filter-of : (p : Function → Bool) (o : Option Function) → OfOption o → OfOption (filter_option p o)
  unfolding filter_option pick
  filter-of p none h = tt
  filter-of p (some g) h = by (p g)
    where
      by : (b : Bool) → OfOption (pick b (some g) none)
      by true = h
      by false = tt

  or_of_lem : (a b : Option Function) → OfOption a → OfOption b → OfOption (or_else a b)
  unfolding or_else
  or_of_lem none b h k = k
  or_of_lem (some g) b h k = h

  chosen_of : (l : List Function) (r : ℕ) → OfEach l → OfCallee (chosen l r)
  unfolding chosen
  chosen_of [] r h = tt
  chosen_of (g ∷ []) r h = h.0
  chosen_of (g ∷ f ∷ l) r h = tt

  module _ (P : Program) (F : Functions) (listed : OfEach P.functions) (mapped : OfMap F) where
    mangled_of : (key : Text) → OfOption (mangled_function P F key)
    unfolding mangled_function
    mangled_of key = filter-of is_mangled (get_function key F) (get-of key F mapped)

    variadic-of : (verb : Text) (l : List Text) → OfOption (variadic_function P F verb l)
    unfolding variadic_function
    variadic-of verb [] = mangled_of (verb ++ variadic_mark)
    variadic-of verb (s ∷ l) = or_of_lem (variadic_function P F (verb ++ s) l) (mangled_function P F (verb ++ variadic_mark)) (variadic-of (verb ++ s) l) (mangled_of (verb ++ variadic_mark))

    exact-of : (verb : Text) (l : List TypedArg) → OfOption (find_exact_function P F verb l)
    unfolding find_exact_function
    exact-of verb l =
        let m = joined P F verb (suffixes P F l) in
        let v = variadic_function P F verb (suffixes P F l) in
        or_of_lem (filter_option (λ f. takes_both P F f l) (get_function verb F)) (or_else (mangled_function P F m) v)
        (filter-of (λ f. takes_both P F f l) (get_function verb F) (get-of verb F mapped)) (or_of_lem (mangled_function P F m) v (mangled_of m) (variadic-of verb (suffixes P F l)))

    literals_of : (verb : Text) (l : List TypedArg) (fs : List Function) → OfEach fs → OfEach (by_literals P F verb l fs)
    unfolding by_literals pick
    literals_of verb l [] h = tt
    literals_of verb l (f ∷ fs) h = by (same_text f.name verb && is_mangled f && takes_both P F f l) (literals_of verb l fs h.1)
      where
        by : (b : Bool) → OfEach (by_literals P F verb l fs) → OfEach (pick b (f ∷ by_literals P F verb l fs) (by_literals P F verb l fs))
        by true q = (h.0, q)
        by false q = q

    exact_or-of : (o : Option Function) (c : Result Callee) → OfOption o → OfCallee c → OfCallee (exact_or P F o c)
    unfolding exact_or
    exact_or-of (some f) c h k = h
    exact_or-of none c h k = k

    pub resolved_function : (verb : Text) (l : List TypedArg) (r : ℕ) (o : Option ℕ) → OfTarget o → OfCallee (resolve_function P F verb l r o)
    unfolding resolve_function find_functions_by_literals
    resolved_function verb l r (some y) h = h
    resolved_function verb l r none h = exact_or-of (find_exact_function P F verb l) (chosen (by_literals P F verb l P.functions) r) (exact-of verb l)
        (chosen_of (by_literals P F verb l P.functions) r (literals_of verb l P.functions listed))

-- ---- a called function is one of the program's

abbrev AnyType : ℕ → Type 0
AnyType y = Unit {0}

any_target : (Q : Function → Type 0) (o : Option ℕ) → OfTarget Q AnyType o
any_target Q none = tt
any_target Q (some y) = tt

module _ (Q : Function → Type 0) (P : Program) (F : Functions) (listed : OfEach Q AnyType P.functions) (mapped : OfMap Q AnyType F) where
  resolved_typed : (verb : Text) (r : ℕ) (l : List TypedArg) → OfCallee Q AnyType (resolve_typed P F verb r l)
  unfolding resolve_typed ◌>>=◌
  resolved_typed verb r l = go (cast_type P F verb l r)
    where
      go : (o : Result (Option ℕ)) → OfCallee Q AnyType (o >>= λ c. resolve_function P F verb l r c)
      go (ok c) = resolved_function Q AnyType P F listed mapped verb l r c (any_target Q c)
      go (err k n) = tt

  resolved : (verb : Text) (l : Args) (sc : Scope) (r : ℕ) → OfCallee Q AnyType (resolve_call P F verb l sc r)
  unfolding resolve_call ◌>>=◌
  resolved verb l sc r = go (get_argument_types P F l sc)
    where
      go : (o : Result (List TypedArg)) → OfCallee Q AnyType (o >>= λ ts. resolve_typed P F verb r ts)
      go (ok ts) = resolved_typed verb r ts
      go (err k n) = tt

pub record Among (l : List Function) (g : Function) : Type 0 where
  pub place : ℕ
  pub found : get_elem? l place ≡ some g

each_among : (l : List Function) (Q : Function → Type 0) → ((i : ℕ) (g : Function) → get_elem? l i ≡ some g → Q g) → OfEach Q AnyType l
each_among [] Q h = tt
each_among (g ∷ l) Q h = (h 0 g refl, each_among l Q (λ i f e. h (suc i) f e))

pub called_among : (P : Program) (F : Functions) (verb : Text) (l : Args) (sc : Scope) (r : ℕ) (g : Function)
    → get_all_functions P.functions [] ≡ ok F → resolve_call P F verb l sc r ≡ ok (CallFunction g) → Among P.functions g
called_among P F verb l sc r g found e =
    let Q = Among P.functions in
    let listed : OfEach Q AnyType P.functions = each_among P.functions Q (λ i f z. record { place = i; found = z }) in
    subst (OfCallee Q AnyType) e (resolved Q P F listed (map_of Q AnyType P.functions [] F listed tt found) verb l sc r)
