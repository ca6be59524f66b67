-- The loop over a call's arguments: what is left suffices for what was asked, in the scope that the open names stand for and in one turn.
-- By one turn at a value, at a type, at a refusal, and at the end. Assumes nothing.
use Rattle.std.specs.Prelude.{Ok, Err}
use Rattle.expressions.specs.Answers.{OrRefused}
use mathlib.Core.Path.{◌≡◌, refl, sym, ap, ◌∙◌, subst}
use mathlib.Core.Logic.{◌⊎◌, inl, inr}
use mathlib.Core.List.{List, ◌∷◌, ◌++◌}
use mathlib.Core.Option.{some, none as nothing}
use Prim.Native.Nat.{ℕ, suc, ◌<◌}
use native.Mathlib.Omega.{arith}
use lib.Dec.{eqb}
use borrow.Author.Tests.{eq-eqb, ne_eqb}
use Rattle.laws.specs.Fix.{pick}
use Rattle.laws.specs.Different.{has}
use Rattle.laws.proofs.DifferentLaws.{has-append}
use Rattle.records.specs.declared.shape.Role.TheVariants.{Arguments}
use Rattle.records.specs.declared.convert_error.ConvertError.{ConvertError}
use Rattle.records.specs.Words.{word_of, records, none, B, C}
use Rattle.records.specs.Good.{Good}
use Rattle.syntax.specs.Syntax.{Expr, Args, no_args, Value, ToType, Program, place}
use Rattle.syntax.specs.Decode.{program}
use Rattle.syntax.specs.Exprs.{exprs, args_exprs}
use Rattle.conversion.specs.ConvertError.{ConvertErrorKind, ok, err, ◌>>=◌}
use Rattle.conversion.specs.Scope as Def
use Rattle.conversion.specs.Expressions.{TypedArg, Functions, get_type, get_argument_types}
use Rattle.scope.specs.declared.Scope.{Scope}
use Rattle.scope.specs.Open.{scope_at}
use Rattle.expressions.specs.declared.arguments.Argument.{Argument}
use Rattle.syntax.specs.Places.{IsExpr, IsKind, ArgsAt, expr_at, args_at}
use Rattle.keys.specs.Keys.{all_keys}
use Rattle.expressions.specs.Slots.{slot_at, slotted, ArgsTyped, Frame, type_in, RightAt, Remembers, Typed, Typing}
use Rattle.expressions.specs.Answers.{refusal, type_result, done_with, ArgumentIs, TypeMeets, ArgsMeet}
use Rattle.syntax.proofs.Lists.{Cell, cell-is, args_end}
use Rattle.expressions.proofs.SlotLaws.{frame_refl, frame_trans}
use Rattle.expressions.proofs.PartLaws.{own-exprs, expr-low, place_is, call-list, call-low}
use Rattle.expressions.proofs.TurnLaws.{typed-none, typed-both, typed-right, same-scope, typing_next, later_type, later_adds}
use Rattle.expressions.proofs.TypingLaws.{type-ok, type-refused}

-- in one scope and turn: the arguments from cell w on are typed, from s to s'
pub record ArgsDone (tree text : List ℕ) (S : Def.Scope) (turn : ℕ) (s : List ℕ) (w : ℕ) (s' : List ℕ) : Type 0 where
  pub typed : ArgsTyped tree s' (args_at tree text w)
  pub meets : get_argument_types (program tree text) (all_keys tree text) (args_at tree text w) S ≡ ok (slotted tree s' (args_at tree text w))
  pub adds : Typed tree text S turn s (args_exprs (args_at tree text w)) s'

-- what the arguments from cell w on give those from cell o on
pub record LeftIn (tree text : List ℕ) (S : Def.Scope) (turn : ℕ) (s₀ : List ℕ) (o : ℕ) (s : List ℕ) (w : ℕ) : Type 0 where
  pub done : (s' : List ℕ) → ArgsDone tree text S turn s w s' → ArgsDone tree text S turn s₀ o s'
  pub refused : (k : ConvertErrorKind) (p : ℕ) → get_argument_types (program tree text) (all_keys tree text) (args_at tree text w) S ≡ err k p
      → get_argument_types (program tree text) (all_keys tree text) (args_at tree text o) S ≡ err k p

-- the loop's invariant: of the arguments of the call at record r those from cell w on are left
pub record Left (tree text s₀ : List ℕ) (sc : Scope) (turn r : ℕ) (s : List ℕ) (w : ℕ) : Type 0 where
  pub frame : Frame tree s₀ s
  pub typing : Typing tree text s sc turn
  pub cells : ArgsAt tree w
  pub low : (w ≡ none) ⊎ (w < r)
  pub meets : LeftIn tree text (scope_at tree text s₀ sc) turn s₀ (word_of tree r C) s w

-- ---- one argument, and the rest

module _ (P : Program) (F : Functions) (S : Def.Scope) (r : ℕ) (l : Args) where
  value-done : (e : Expr) (y : ℕ) (ts : List TypedArg) → get_type P F e S ≡ ok y → get_argument_types P F l S ≡ ok ts
      → get_argument_types P F (Value r e l) S ≡ ok (record { ty = y; value = some e } ∷ ts)
  unfolding get_argument_types ◌>>=◌
  value-done e y ts p q = rw (p, q)

  value-rest : (e : Expr) (y : ℕ) (k : ConvertErrorKind) (n : ℕ) → get_type P F e S ≡ ok y → get_argument_types P F l S ≡ err k n
      → get_argument_types P F (Value r e l) S ≡ err k n
  unfolding get_argument_types ◌>>=◌
  value-rest e y k n p q = rw (p, q)

  value-stop : (e : Expr) (x : ConvertError) → get_type P F e S ≡ refusal x → get_argument_types P F (Value r e l) S ≡ err x.kind x.place
  unfolding get_argument_types ◌>>=◌ refusal
  value-stop e x p = rw p

  type-done : (y : ℕ) (ts : List TypedArg) → get_argument_types P F l S ≡ ok ts
      → get_argument_types P F (ToType r y l) S ≡ ok (record { ty = y; value = nothing } ∷ ts)
  unfolding get_argument_types ◌>>=◌
  type-done y ts q = rw q

  type-rest : (y : ℕ) (k : ConvertErrorKind) (n : ℕ) → get_argument_types P F l S ≡ err k n → get_argument_types P F (ToType r y l) S ≡ err k n
  unfolding get_argument_types ◌>>=◌
  type-rest y k n q = rw q

-- ---- a turn of the loop in one scope

module _ (tree text : List ℕ) (good : Good tree text) (S : Def.Scope) (turn : ℕ) (s₀ : List ℕ) (o : ℕ) (s : List ℕ) (w : ℕ)
    (l : LeftIn tree text S turn s₀ o s w) where
  abbrev rest : Args
  rest = args_at tree text (word_of tree w B)

  type_in_lem : (r y : ℕ) → args_at tree text w ≡ ToType r y rest → LeftIn tree text S turn s₀ o s (word_of tree w B)
  unfolding slotted ArgsTyped args_exprs
  type_in_lem r y q = record {
    done = λ s' d. l.done s' (record {
      typed = subst (λ (z : Args). ArgsTyped tree s' z) (sym q) d.typed;
      meets = subst (λ (z : Args). get_argument_types (program tree text) (all_keys tree text) z S ≡ ok (slotted tree s' z)) (sym q)
          (type-done (program tree text) (all_keys tree text) S r rest y (slotted tree s' rest) d.meets);
      adds = subst (λ (z : Args). Typed tree text S turn s (args_exprs z) s') (sym q) d.adds;
    });
    refused = λ k n h. l.refused k n
        (subst (λ (z : Args). get_argument_types (program tree text) (all_keys tree text) z S ≡ err k n) (sym q)
        (type-rest (program tree text) (all_keys tree text) S r rest y k n h));
  }

  module _ (r e : ℕ) (q : args_at tree text w ≡ Value r (expr_at tree text e) rest) (x : IsExpr tree e) where
    stop_in : (z : ConvertError) → type_in tree text S e ≡ refusal z
        → get_argument_types (program tree text) (all_keys tree text) (args_at tree text o) S ≡ err z.kind z.place
    unfolding type_in
    stop_in z t = l.refused z.kind z.place
        (subst (λ (v : Args). get_argument_types (program tree text) (all_keys tree text) v S ≡ err z.kind z.place) (sym q)
        (value-stop (program tree text) (all_keys tree text) S r rest (expr_at tree text e) z t))

    module _ (s₁ : List ℕ) (y : ℕ) (t : type_in tree text S e ≡ ok y) (f : Typed tree text S turn s (exprs (expr_at tree text e)) s₁) where
      -- the argument's slot has its type when all are typed
      value-right : (s' : List ℕ) → Typed tree text S turn s (exprs (expr_at tree text e) ++ args_exprs rest) s' → RightAt tree text S s' (place (expr_at tree text e))
      unfolding has
      value-right s' g = subst (λ (z : ℕ). RightAt tree text S s' z) (sym (place_is tree text good e x))
          (typed-right tree text S turn s (exprs (expr_at tree text e) ++ args_exprs rest) s' g e (expr-low tree text good e x)
          (has-append e (exprs (expr_at tree text e)) (args_exprs rest) ∙ rw (own-exprs tree text good e x, eq-eqb e e refl)))

      value-all : (s' : List ℕ) → ArgsDone tree text S turn s₁ (word_of tree w B) s' → ArgsDone tree text S turn s w s'
      unfolding slotted ArgsTyped args_exprs type_in
      value-all s' d =
          let all = typed-both tree text S turn s s₁ s' (exprs (expr_at tree text e)) (args_exprs rest) f d.adds in
          let right = value-right s' all in record {
            typed = subst (λ (z : Args). ArgsTyped tree s' z) (sym q) (right.type, d.typed);
            meets = subst (λ (z : Args). get_argument_types (program tree text) (all_keys tree text) z S ≡ ok (slotted tree s' z)) (sym q)
                (value-done (program tree text) (all_keys tree text) S r rest (expr_at tree text e) (slot_at tree s' (place (expr_at tree text e))) (slotted tree s' rest)
                (ap (type_in tree text S) (sym (place_is tree text good e x)) ∙ right.is) d.meets);
            adds = subst (λ (z : Args). Typed tree text S turn s (args_exprs z) s') (sym q) all;
          }

      value_in_lem : LeftIn tree text S turn s₀ o s₁ (word_of tree w B)
      unfolding type_in
      value_in_lem = record {
        done = λ s' d. l.done s' (value-all s' d);
        refused = λ k n h. l.refused k n
            (subst (λ (z : Args). get_argument_types (program tree text) (all_keys tree text) z S ≡ err k n) (sym q)
            (value-rest (program tree text) (all_keys tree text) S r rest (expr_at tree text e) y k n t h));
      }

-- ---- the loop as the code meets it

pub record ValueCell (tree text : List ℕ) (w e : ℕ) : Type 0 where
  pub at : ℕ
  pub opens : args_at tree text w ≡ Value at (expr_at tree text e) (args_at tree text (word_of tree w B))
  pub expression : IsExpr tree e
  pub lower : e < w

value_cell : (tree text : List ℕ) (w : ℕ) (a : Argument) (e : ℕ) → ArgumentIs tree text w a → a ≡ Argument.Expr e → ValueCell tree text w e
value_cell tree text w a e h q = go (subst (λ (z : Argument). ArgumentIs tree text w z) q h)
  where
    go : ArgumentIs tree text w (Argument.Expr e) → ValueCell tree text w e
    go (ArgumentIs.an_expr r p x k) = record { at = r; opens = p; expression = x; lower = k }

pub record TypeCell (tree text : List ℕ) (w : ℕ) : Type 0 where
  pub at : ℕ
  pub named : ℕ
  pub opens : args_at tree text w ≡ ToType at named (args_at tree text (word_of tree w B))

type-cell : (tree text : List ℕ) (w : ℕ) (a : Argument) (y : ℕ) → ArgumentIs tree text w a → a ≡ Argument.ToType y → TypeCell tree text w
type-cell tree text w a y h q = go (subst (λ (z : Argument). ArgumentIs tree text w z) q h)
  where
    go : ArgumentIs tree text w (Argument.ToType y) → TypeCell tree text w
    go (ArgumentIs.a_type r p k) = record { at = r; named = y; opens = p }

module _ (tree text : List ℕ) (good : Good tree text) (s₀ : List ℕ) (sc : Scope) (turn r : ℕ) (typing : Typing tree text s₀ sc turn) where
  abbrev S : Def.Scope
  S = scope_at tree text s₀ sc

  pub loop_start_lem : IsKind tree 11 r → (w : ℕ) → w ≡ word_of tree r C → Left tree text s₀ sc turn r s₀ w
  loop_start_lem k w e = subst (λ (z : ℕ). Left tree text s₀ sc turn r s₀ z) (sym e) (record {
    frame = frame_refl tree s₀;
    typing = typing;
    cells = call-list tree text good r k;
    low = call-low tree text good r k;
    meets = record { done = λ s' d. d; refused = λ k n h. h };
  })

  -- the same scratch and the same cell
  moved : (s₁ s₂ : List ℕ) (n w : ℕ) → s₂ ≡ s₁ → n ≡ w → Left tree text s₀ sc turn r s₁ w → Left tree text s₀ sc turn r s₂ n
  moved s₁ s₂ n w e q l =
      subst (λ (z : List ℕ). Left tree text s₀ sc turn r z n) (sym e) (subst (λ (z : ℕ). Left tree text s₀ sc turn r s₁ z) (sym q) l)

  module _ (s : List ℕ) (w : ℕ) (l : Left tree text s₀ sc turn r s w) where
    -- the scope is still the one from the start
    now_scope : scope_at tree text s sc ≡ S
    now_scope = same-scope tree text s₀ sc turn typing s l.frame

    pub loop_end_lem : w ≡ none → ArgsMeet tree text s₀ sc turn (word_of tree r C) (Ok tt) s
    unfolding done_with slotted ArgsTyped args_exprs get_argument_types
    loop_end_lem e =
        let over : args_at tree text w ≡ no_args = ap (args_at tree text) e ∙ args_end tree text good in
        let all = l.meets.done s (record {
          typed = subst (λ (z : Args). ArgsTyped tree s z) (sym over) tt;
          meets = subst (λ (z : Args). get_argument_types (program tree text) (all_keys tree text) z S ≡ ok (slotted tree s z)) (sym over) refl;
          adds = subst (λ (z : Args). Typed tree text S turn s (args_exprs z) s) (sym over)
              (typed-none tree text S turn s (subst (λ (z : Def.Scope). Remembers tree text z turn s) now_scope l.typing.remembers));
        }) in
        record { frame = l.frame; typed = λ q. all.typed; meets = all.meets; adds = λ q. all.adds }

    module _ (more : w ≡ none → ⊥) where
      here : Cell tree text good Arguments w
      here = cell-is tree text good Arguments w l.cells more

      pub cell-inside : w < records tree
      cell-inside = here.inside

      below-call : w < r
      below-call = go l.low
        where
          go : (w ≡ none) ⊎ (w < r) → w < r
          go (inl e) = absurd (more e)
          go (inr h) = h

      next_low : (word_of tree w B ≡ none) ⊎ (word_of tree w B < r)
      next_low = go here.falls
        where
          go : (word_of tree w B ≡ none) ⊎ (word_of tree w B < w) → (word_of tree w B ≡ none) ⊎ (word_of tree w B < r)
          go (inl e) = inl e
          go (inr h) = inr (omega (arith, below-call))

      pub cell_falls : (n : ℕ) → n ≡ word_of tree w B → pick (eqb n none) 0 (suc n) < pick (eqb w none) 0 (suc w)
      unfolding pick
      cell_falls n e = rw (ne_eqb w none more) (go here.falls)
        where
          go : (word_of tree w B ≡ none) ⊎ (word_of tree w B < w) → pick (eqb n none) 0 (suc n) < suc w
          go (inl q) = rw (eq-eqb n none (e ∙ q)) (omega arith)
          go (inr h) = rw (ne_eqb n none (λ q. omega (arith, here.inside, good.few))) (omega arith)

      module _ (a : Argument) (is : ArgumentIs tree text w a) where
        pub turn-type : (y : ℕ) → a ≡ Argument.ToType y → (s' : List ℕ) → s' ≡ s → (n : ℕ) → n ≡ word_of tree w B → Left tree text s₀ sc turn r s' n
        turn-type y q s' es n en =
            let t = type-cell tree text w a y is q in
            moved s s' n (word_of tree w B) es en (record {
              frame = l.frame;
              typing = l.typing;
              cells = here.rest;
              low = next_low;
              meets = type_in_lem tree text good S turn s₀ (word_of tree r C) s w l.meets t.at t.named t.opens;
            })

        module _ (e : ℕ) (q : a ≡ Argument.Expr e) where
          found : ValueCell tree text w e
          found = value_cell tree text w a e is q

          pub value_low : (e < r) × IsExpr tree e
          value_low = (omega (arith, found.lower, below-call), found.expression)

          module _ (t : OrRefused ℕ) (s₁ : List ℕ) (m : TypeMeets tree text s sc turn e t s₁) where
            typed_now : type_in tree text S e ≡ type_result t
            typed_now = later_type tree text s₀ sc turn typing s l.frame e t s₁ m

            pub turn-stop : (x : ConvertError) → t ≡ Err x → ArgsMeet tree text s₀ sc turn (word_of tree r C) (Err x) s₁
            unfolding done_with refusal
            turn-stop x v = record {
              frame = frame_trans l.frame m.frame;
              typed = λ z. absurd (differ z);
              meets =
                  stop_in tree text good S turn s₀ (word_of tree r C) s w l.meets found.at e found.opens found.expression x
                  (type-refused (type_in tree text S e) t x typed_now v);
              adds = λ z. absurd (differ z);
            }
              where
                differ : ◌≡◌ {A = OrRefused (Unit {0})} (Err x) (Ok tt) → ⊥
                differ z = let u : ◌≡◌ {A = ℕ} 0 1 = cc in omega arith

            pub turn-value : (y : ℕ) → t ≡ Ok y → (s' : List ℕ) → s' ≡ s₁ → (n : ℕ) → n ≡ word_of tree w B → Left tree text s₀ sc turn r s' n
            turn-value y v s' es n en = moved s₁ s' n (word_of tree w B) es en (record {
              frame = frame_trans l.frame m.frame;
              typing = typing_next tree text s sc turn l.typing s₁ m.frame (exprs (expr_at tree text e)) (m.adds y v);
              cells = here.rest;
              low = next_low;
              meets = value_in_lem tree text good S turn s₀ (word_of tree r C) s w l.meets found.at e found.opens found.expression s₁ y
                  (type-ok (type_in tree text S e) t y typed_now v)
                  (later_adds tree text s₀ sc turn typing s l.frame e t s₁ m y v);
            })
