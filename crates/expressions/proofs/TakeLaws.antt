-- Whether a function takes the arguments of a call, as the code meets it: how many they are, the first of them, the rest.
-- By the cases of the tests, and by the cells of the parameters and of the arguments. Assumes nothing.
use mathlib.Core.Path.{◌≡◌, refl, sym, ◌∙◌}
use mathlib.Core.Bool.{Bool, true, false, not}
use mathlib.Core.List.{List, [], ◌∷◌}
use Prim.Native.Nat.{ℕ, ◌+◌, ◌*◌, ◌≤◌}
use native.Mathlib.Omega.{arith}
use lib.Dec.{eqb, ltb}
use lib.ListN.{length}
use borrow.Author.Tests.{eq-eqb, ne_eqb, not-true, not-false}
use Rattle.records.specs.declared.shape.Role.TheVariants.{Parameters}
use Rattle.records.specs.Words.{word_of, none, A, B, C}
use Rattle.records.specs.Good.{Good}
use Rattle.records.proofs.GoodLaws.{inside}
use Rattle.syntax.specs.Syntax.{Param, Function, Program}
use Rattle.syntax.specs.Decode.{program}
use Rattle.conversion.specs.Expressions.{TypedArg, Functions, takes_count, takes_arg, takes_args, takes_both}
use Rattle.types.specs.Fits.{IsType, fits_at}
use Rattle.types.proofs.FromGood.{is-type}
use Rattle.expressions.specs.declared.arguments.Argument.{Argument}
use Rattle.syntax.specs.Places.{TypeAt, ArgsAt, ParamsAt, expr_at, args_at, params_at}
use Rattle.keys.specs.Keys.{all_keys}
use Rattle.expressions.specs.Slots.{slot_at, ArgsTyped}
use Rattle.expressions.specs.Calls.{typed_at, TakesFirst}
use Rattle.expressions.specs.Answers.{ArgumentIs}
use Rattle.syntax.proofs.Lists.{cell-is, parameter_item, parameter_type_lem}
use Rattle.expressions.proofs.ArgumentLaws.{typed_arg, head_is, next-typed, some_argument, typed_end, parameters_end}

-- ---- how many they are

module _ (f : Function) (l : List Param) (own n : ℕ) (e : f.params ≡ l) (h : own ≡ length l) where
  all_own : own ≡ length f.params
  all_own = rw e h

  pub count_same : own ≡ n → true ≡ takes_count f n
  unfolding takes_count
  count_same q = sym (rw (eq-eqb (length f.params) n (sym all_own ∙ q)))

  module _ (d : own ≡ n → ⊥) (v : Bool) (ev : v ≡ f.variadic) where
    differs : eqb (length f.params) n ≡ false
    differs = ne_eqb (length f.params) n (λ q. d (all_own ∙ q))

    pub count-variadic : v ≡ true → ltb own n ≡ takes_count f n
    unfolding takes_count
    count-variadic t = sym (rw (differs, sym ev ∙ t, sym all_own))

    pub count_plain : v ≡ false → false ≡ takes_count f n
    unfolding takes_count
    count_plain t = sym (rw (differs, sym ev ∙ t))

-- ---- the count, then each argument

module _ (P : Program) (K : Functions) (f : Function) (l : List TypedArg) (n : ℕ) (r : Bool) (e : r ≡ takes_count f n) (h : n ≡ length l) where
  counted : takes_count f (length l) ≡ r
  counted = rw (sym h) (sym e)

  pub args-no : not r ≡ true → false ≡ takes_both P K f l
  unfolding takes_both
  args-no q = sym (rw (counted, not-true r q))

  pub args-all : not r ≡ false → (ps : List Param) → f.params ≡ ps → (b : Bool) → b ≡ takes_args P K ps l → b ≡ takes_both P K f l
  unfolding takes_both
  args-all q ps p b t = sym (rw (counted, not-false r q, p) (sym t))

-- ---- the first argument and the first parameter

module _ (tree text : List ℕ) (good : Good tree text) where
  pub as_type : (y : ℕ) → TypeAt tree y → IsType tree y
  as_type y t = is-type tree text good y t.below t.kind

  module _ (u : ℕ) (l : ParamsAt tree u) (n : u ≡ none → ⊥) where
    pub at_parameter : u * 32 + 32 ≤ length tree
    at_parameter = inside tree text good u (cell-is tree text good Parameters u l n).inside

    module _ (item : ℕ) (ei : item ≡ word_of tree u A) where
      pub at-variable : item * 32 + 32 ≤ length tree
      at-variable = let c = cell-is tree text good Parameters u l n in rw ei (inside tree text good (word_of tree u A) (omega (arith, c.inside, c.item)))

      module _ (ty : ℕ) (et : ty ≡ word_of tree item C) where
        pub variable_type_lem : TypeAt tree ty
        variable_type_lem = rw (et, ei) (parameter_type_lem tree text good u (cell-is tree text good Parameters u l n))

        module _ (s : List ℕ) (w : ℕ) (a : Argument) (is : ArgumentIs tree text w a) where
          pub takes_value : (e y : ℕ) → a ≡ Argument.Expr e → y ≡ slot_at tree s e → (b : Bool) → b ≡ fits_at tree text e y ty
              → TakesFirst tree text s (params_at tree text u) (typed_at tree text s w) b
          unfolding TakesFirst takes_arg program typed_arg fits_at expr_at
          takes_value e y q qy b h =
              rw (parameter_item tree text good u (cell-is tree text good Parameters u l n), head_is tree text w s is, q) (h ∙ rw (qy, et, ei))

          pub takes_type : (y : ℕ) → a ≡ Argument.ToType y → TakesFirst tree text s (params_at tree text u) (typed_at tree text s w) (eqb y ty)
          unfolding TakesFirst takes_arg typed_arg
          takes_type y q =
              rw (parameter_item tree text good u (cell-is tree text good Parameters u l n), head_is tree text w s is, q) (rw (et, ei) refl)

-- ---- one after the other

module _ (P : Program) (K : Functions) where
  no_arguments : (ps : List Param) → takes_args P K ps [] ≡ true
  unfolding takes_args
  no_arguments [] = refl
  no_arguments (p ∷ ps) = refl

  no_parameters : (l : List TypedArg) → takes_args P K [] l ≡ true
  unfolding takes_args
  no_parameters l = refl

pub params_end_all : (tree text : List ℕ) (o : Bool) → Good tree text → (u : ℕ) (l : List TypedArg)
    → o ≡ takes_args (program tree text) (all_keys tree text) (params_at tree text u) l → u ≡ none → true ≡ o
params_end_all tree text o good u l h e =
    sym (h ∙ rw (parameters_end tree text good u e) (no_parameters (program tree text) (all_keys tree text) l))

module _ (tree text s : List ℕ) where
  first-no : (ps : List Param) (l : List TypedArg) (r : Bool) → TakesFirst tree text s ps l r → not r ≡ true
      → takes_args (program tree text) (all_keys tree text) ps l ≡ false
  unfolding TakesFirst takes_args
  first-no [] l r t q = absurd t
  first-no (p ∷ ps) [] r t q = absurd t
  first-no (p ∷ ps) (a ∷ l) r t q = rw (sym t, not-true r q)

  first_yes : (p : Param) (ps : List Param) (a : TypedArg) (l : List TypedArg) (r : Bool) → TakesFirst tree text s (p ∷ ps) (a ∷ l) r → not r ≡ false
      → takes_args (program tree text) (all_keys tree text) (p ∷ ps) (a ∷ l) ≡ takes_args (program tree text) (all_keys tree text) ps l
  unfolding TakesFirst takes_args
  first_yes p ps a l r t q = rw (sym t, not-false r q)

  module _ (o : Bool) where
    pub all-no : (ps : List Param) (l : List TypedArg) (r : Bool) → o ≡ takes_args (program tree text) (all_keys tree text) ps l
        → TakesFirst tree text s ps l r → not r ≡ true → false ≡ o
    all-no ps l r h t q = sym (h ∙ first-no ps l r t q)

    module _ (good : Good tree text) where
      pub arguments_end : (ps : List Param) (w : ℕ) → o ≡ takes_args (program tree text) (all_keys tree text) ps (typed_at tree text s w) → w ≡ none → true ≡ o
      arguments_end ps w h e = sym (h ∙ rw (typed_end tree text good s w e) (no_arguments (program tree text) (all_keys tree text) ps))

      pub all_more : (u w v x : ℕ) → ParamsAt tree u → (u ≡ none → ⊥) → ArgsAt tree w → (w ≡ none → ⊥) → v ≡ word_of tree u B → x ≡ word_of tree w B
          → (r : Bool) → o ≡ takes_args (program tree text) (all_keys tree text) (params_at tree text u) (typed_at tree text s w)
          → TakesFirst tree text s (params_at tree text u) (typed_at tree text s w) r → not r ≡ false
          → o ≡ takes_args (program tree text) (all_keys tree text) (params_at tree text v) (typed_at tree text s x)
      all_more u w v x ul un wl wn ev ex r h t q =
          let ep = parameter_item tree text good u (cell-is tree text good Parameters u ul un) in
          let ea = head_is tree text w s (some_argument tree text good w wl wn).is in
          h ∙ rw (ep, ea) (first_yes _ _ _ _ r (rw (ep, ea) at t) q ∙ rw (ev, ex))

  pub next-args-typed : Good tree text → (w v : ℕ) → ArgsAt tree w → (w ≡ none → ⊥) → v ≡ word_of tree w B
      → ArgsTyped tree s (args_at tree text w) → ArgsTyped tree s (args_at tree text v)
  next-args-typed good w v l n e t = next-typed tree text w s v (some_argument tree text good w l n).is t e
