-- What the argument in a cell is, and what the typed arguments from a cell on are: the first, and the rest.
-- By the laws of cells; an expression's place is its record. Assumes nothing.
use Rattle.std.specs.Prelude.{Some, None}
use mathlib.Core.Path.{◌≡◌, refl, sym, ap, ◌∙◌, subst}
use mathlib.Core.Bool.{Bool, true, false}
use mathlib.Core.List.{List, [], ◌∷◌}
use mathlib.Core.Option.{Option, none as nothing, some}
use Prim.Native.Nat.{ℕ, zero, suc, ◌+◌, ◌*◌, ◌<◌, ◌≤◌}
use native.Mathlib.Omega.{arith}
use lib.Dec.{eqb, leb}
use lib.ListN.{length, get_or}
use borrow.Author.Tests.{leb-true, eqb-true, eqb-false}
use Rattle.laws.specs.Fix.{pick}
use Rattle.laws.proofs.Tests.{and_left, and_right}
use Rattle.records.specs.declared.shape.Role.{Role}
use Rattle.records.specs.declared.shape.Role.TheVariants.{Arguments, Parameters, Text}
use Rattle.records.specs.Words.{kind_of, detail_of, word_of, records, none, A, B, D, E}
use Rattle.records.specs.Shapes.{plain_type, type_shape, shape_of, row_of, row_at}
use Rattle.records.specs.Rules.{is_expr, word_ok}
use Rattle.records.specs.Good.{Good}
use Rattle.records.proofs.GoodLaws.{inside, detail_below, words}
use Rattle.syntax.specs.Syntax.{place}
use Rattle.syntax.specs.Decode.{node, expr_of, kinds, nothing_at, int_at, float_at, str_at, bool_at, name_at, null_at, size_of_at, unary_at, binary_at, call_at, key_at, text_of}
use Rattle.syntax.proofs.Unfold.{node-is}
use Rattle.conversion.specs.Expressions.{TypedArg, target_type, source_type}
use Rattle.keys.specs.declared.parts.Part.{Part}
use Rattle.expressions.specs.declared.arguments.Argument.{Argument}
use Rattle.syntax.specs.Places.{IsExpr, TypeAt, ArgsAt, ParamsAt, expr_at, args_at, params_at}
use Rattle.keys.specs.Parts.{PartIs}
use Rattle.expressions.specs.Slots.{FirstType, slot_at, slotted, ArgsTyped}
use Rattle.expressions.specs.Calls.{typed_at}
use Rattle.expressions.specs.Answers.{ArgumentIs, an_expr, a_type, found_number}
use Rattle.types.proofs.FromGood.{is_expr_lem}
use Rattle.syntax.proofs.Lists.{cell-is, value-item, value-lower, value-inside, value-kind, type-item, type-is, parameter_item, args_end, params_end}

-- ---- a type's key text lies inside the text

key_role : (d : ℕ) → d < (row_of (type_shape d)).limit → (row_of (type_shape d)).d ≡ Text
unfolding row_of type_shape pick
key_role d h = go (plain_type d) (eqb d 6) (eqb d 7) (eqb d 8) (omega arith)
  where
    go : (a b c e : Bool) → 0 < (row_of (pick a 1 (pick b 26 (pick c 27 (pick e 28 0))))).limit → (row_of (pick a 1 (pick b 26 (pick c 27 (pick e 28 0))))).d ≡ Text
    go true b c e l = refl
    go false true c e l = refl
    go false false true e l = refl
    go false false false true l = refl
    go false false false false l = absurd (omega arith)

module _ (tree text : List ℕ) (good : Good tree text) (r : ℕ) (h : r < records tree) (k : kind_of tree r ≡ 1) where
  type_key_role : (row_at tree r).d ≡ Text
  unfolding row_at shape_of pick
  type_key_role = rw k (key_role (detail_of tree r) (rw k at (detail_below tree text good r h (row_at tree r) refl)))

  key_inside : word_of tree r D + word_of tree r E ≤ length text
  unfolding word_ok
  key_inside = leb-true (word_of tree r D + word_of tree r E) (length text)
      (subst (λ (x : Role). word_ok tree (length text) r x (word_of tree r D) (word_of tree r E) ≡ true) type_key_role (words tree text good r h (row_at tree r) refl).d)

  pub key_part : (p : Part) → p.offset ≡ word_of tree r 3 → p.len ≡ word_of tree r 4 → PartIs text p (key_at tree text r)
  unfolding key_at text_of
  key_part p a b = record { inside = omega (arith, key_inside); is = rw (a, b) }

-- ---- an expression's place

module _ (tree text : List ℕ) where
  place-by : (e j : ℕ) → 2 ≤ j → j ≤ 11 → place (expr_of (get_or (kinds tree text) j (nothing_at tree text) (node tree text) e)) ≡ e
  unfolding expr_of place kinds int_at float_at str_at bool_at name_at null_at size_of_at unary_at binary_at call_at
  place-by e zero l u = absurd (omega arith)
  place-by e (suc zero) l u = absurd (omega arith)
  place-by e (suc (suc zero)) l u = refl
  place-by e (suc (suc (suc zero))) l u = refl
  place-by e (suc (suc (suc (suc zero)))) l u = refl
  place-by e (suc (suc (suc (suc (suc zero))))) l u = refl
  place-by e (suc (suc (suc (suc (suc (suc zero)))))) l u = refl
  place-by e (suc (suc (suc (suc (suc (suc (suc zero))))))) l u = refl
  place-by e (suc (suc (suc (suc (suc (suc (suc (suc zero)))))))) l u = refl
  place-by e (suc (suc (suc (suc (suc (suc (suc (suc (suc zero))))))))) l u = refl
  place-by e (suc (suc (suc (suc (suc (suc (suc (suc (suc (suc zero)))))))))) l u = refl
  place-by e (suc (suc (suc (suc (suc (suc (suc (suc (suc (suc (suc zero))))))))))) l u = refl
  place-by e (suc (suc (suc (suc (suc (suc (suc (suc (suc (suc (suc (suc j)))))))))))) l u = absurd (omega arith)

  pub place_is : (e : ℕ) → is_expr (kind_of tree e) ≡ true → place (expr_at tree text e) ≡ e
  unfolding expr_at
  place_is e h =
      let l : 2 ≤ kind_of tree e = leb-true 2 (kind_of tree e) (and_left (leb 2 (kind_of tree e)) (leb (kind_of tree e) 11) h) in
      let u : kind_of tree e ≤ 11 = leb-true (kind_of tree e) 11 (and_right (leb 2 (kind_of tree e)) (leb (kind_of tree e) 11) h) in
      rw (node-is tree text e (kind_of tree e) refl) (place-by e (kind_of tree e) l u)

  -- ---- an argument with its type

  unfoldable pub typed_arg : List ℕ → Argument → TypedArg
  typed_arg s (Argument.Expr e) = record { ty = slot_at tree s e; value = some (expr_at tree text e) }
  typed_arg s (Argument.ToType y) = record { ty = y; value = nothing }

  module _ (w : ℕ) where
    pub head_is : (s : List ℕ) {a : Argument} → ArgumentIs tree text w a → typed_at tree text s w ≡ typed_arg s a ∷ typed_at tree text s (word_of tree w B)
    unfolding typed_at slotted typed_arg
    head_is s (an_expr {e} r q x l) = rw (q, place_is e x.expression)
    head_is s (a_type r q t) = rw q

    pub head_typed : (s : List ℕ) {a : Argument} → ArgumentIs tree text w a → ArgsTyped tree s (args_at tree text w) → TypeAt tree (typed_arg s a).ty
    unfolding ArgsTyped typed_arg
    head_typed s (an_expr {e} r q x l) t = rw (place_is e x.expression) at (rw q at t).0
    head_typed s (a_type r q y) t = y

    pub rest_typed : (s : List ℕ) {a : Argument} → ArgumentIs tree text w a → ArgsTyped tree s (args_at tree text w) → ArgsTyped tree s (args_at tree text (word_of tree w B))
    unfolding ArgsTyped
    rest_typed s (an_expr r q x l) t = (rw q at t).1
    rest_typed s (a_type r q y) t = rw q at t

    pub next-typed : (s : List ℕ) {a : Argument} (v : ℕ) → ArgumentIs tree text w a → ArgsTyped tree s (args_at tree text w) → v ≡ word_of tree w B → ArgsTyped tree s (args_at tree text v)
    next-typed s v is t e = rw e (rest_typed s is t)

    pub of-type : {a : Argument} → ArgumentIs tree text w a → (y : ℕ) → a ≡ Argument.ToType y → TypeAt tree y
    of-type (an_expr r q x l) y e = absurd (let z : ◌≡◌ {A = ℕ} 0 1 = cc in omega arith)
    of-type (a_type {y = v} r q t) y e = let z : y ≡ v = cc in rw z t

    pub of-expr : {a : Argument} → ArgumentIs tree text w a → (e : ℕ) → a ≡ Argument.Expr e → IsExpr tree e × (e < w)
    of-expr (an_expr {e = v} r q x l) e p = let z : e ≡ v = cc in rw z (x, l)
    of-expr (a_type r q t) e p = absurd (let z : ◌≡◌ {A = ℕ} 0 1 = cc in omega arith)

  pub record SomeArgument (w : ℕ) : Type 0 where
    pub argument : Argument
    pub is : ArgumentIs tree text w argument

  module _ (good : Good tree text) where
    pub typed_end : (s : List ℕ) (w : ℕ) → w ≡ none → typed_at tree text s w ≡ []
    unfolding typed_at slotted
    typed_end s w e = ap (slotted tree s) (ap (args_at tree text) e ∙ args_end tree text good)

    pub parameters_end : (w : ℕ) → w ≡ none → params_at tree text w ≡ []
    parameters_end w e = rw e (params_end tree text good)

    module _ (w : ℕ) (l : ArgsAt tree w) (n : w ≡ none → ⊥) (item inner k : ℕ) (ei : item ≡ word_of tree w A) (en : inner ≡ word_of tree item A) (ek : k ≡ kind_of tree item) where
      pub value_argument : k ≡ 13 → ArgumentIs tree text w (Argument.Expr inner)
      value_argument e =
          let c = cell-is tree text good Arguments w l n in
          let z : kind_of tree (word_of tree w A) ≡ 13 = cc in
          rw (en, ei) (an_expr (word_of tree w A) (value-item tree text good w c z) (is_expr_lem tree text good (word_of tree (word_of tree w A) A) (value-inside tree text good w c z) (value-kind tree text good w c z)) (value-lower tree text good w c z))

      pub type_argument : (k ≡ 13 → ⊥) → ArgumentIs tree text w (Argument.ToType inner)
      type_argument e =
          let c = cell-is tree text good Arguments w l n in
          let z : kind_of tree (word_of tree w A) ≡ 13 → ⊥ = λ h. e (cc) in
          rw (en, ei) (a_type (word_of tree w A) (type-item tree text good w c z) (type-is tree text good w c z))

    module _ (w : ℕ) (l : ArgsAt tree w) (n : w ≡ none → ⊥) where
      -- the places that the code reads on its way to an argument
      pub at-cell : w * 32 + 32 ≤ length tree
      at-cell = inside tree text good w (cell-is tree text good Arguments w l n).inside

      pub at_item : (item : ℕ) → item ≡ word_of tree w A → item * 32 + 32 ≤ length tree
      at_item item e = let c = cell-is tree text good Arguments w l n in rw e (inside tree text good (word_of tree w A) (omega (arith, c.inside, c.item)))

      pub some_argument : SomeArgument w
      some_argument = go (eqb (kind_of tree (word_of tree w A)) 13) refl
        where
          go : (b : Bool) → eqb (kind_of tree (word_of tree w A)) 13 ≡ b → SomeArgument w
          go true e = record {
            argument = Argument.Expr (word_of tree (word_of tree w A) A);
            is = value_argument w l n (word_of tree w A) (word_of tree (word_of tree w A) A) (kind_of tree (word_of tree w A)) refl refl refl (eqb-true (kind_of tree (word_of tree w A)) 13 e);
          }
          go false e = record {
            argument = Argument.ToType (word_of tree (word_of tree w A) A);
            is = type_argument w l n (word_of tree w A) (word_of tree (word_of tree w A) A) (kind_of tree (word_of tree w A)) refl refl refl (eqb-false (kind_of tree (word_of tree w A)) 13 e);
          }

    -- ---- the counts

    pub count-more : (s : List ℕ) (w v n total : ℕ) → ArgsAt tree w → (w ≡ none → ⊥) → v ≡ word_of tree w B
        → total ≡ n + length (typed_at tree text s w) → total ≡ n + 1 + length (typed_at tree text s v)
    count-more s w v n total l d e h =
        let z : length (typed_at tree text s w) ≡ suc (length (typed_at tree text s v)) = rw (head_is w s (some_argument w l d).is, e) in omega arith

    pub count_end : (s : List ℕ) (w n total : ℕ) → w ≡ none → total ≡ n + length (typed_at tree text s w) → n ≡ total
    count_end s w n total e h = let z : length (typed_at tree text s w) ≡ 0 = rw (typed_end s w e) in omega arith

    pub parameters_more : (w v n total : ℕ) → ParamsAt tree w → (w ≡ none → ⊥) → v ≡ word_of tree w B
        → total ≡ n + length (params_at tree text w) → total ≡ n + 1 + length (params_at tree text v)
    parameters_more w v n total l d e h =
        let z : length (params_at tree text w) ≡ suc (length (params_at tree text v)) = rw (parameter_item tree text good w (cell-is tree text good Parameters w l d), e) in omega arith

    pub parameters_done : (w n total : ℕ) → w ≡ none → total ≡ n + length (params_at tree text w) → n ≡ total
    parameters_done w n total e h = let z : length (params_at tree text w) ≡ 0 = rw (parameters_end w e) in omega arith

  -- ---- the first type, and the type of the first expression

  module _ (s : List ℕ) (w : ℕ) (o : Option ℕ) where
    pub target_hit : (a : Argument) (y : ℕ) → ArgumentIs tree text w a → a ≡ Argument.ToType y → o ≡ target_type (typed_at tree text s w) → found_number (Some y) ≡ o
    unfolding target_type typed_arg found_number
    target_hit a y is e h = sym (h ∙ rw (head_is w s is, e))

    pub target_more : (a : Argument) (e v : ℕ) → ArgumentIs tree text w a → a ≡ Argument.Expr e → v ≡ word_of tree w B
        → o ≡ target_type (typed_at tree text s w) → o ≡ target_type (typed_at tree text s v)
    unfolding target_type typed_arg
    target_more a e v is q p h = h ∙ rw (head_is w s is, q, p)

    pub target_end : Good tree text → w ≡ none → o ≡ target_type (typed_at tree text s w) → found_number None ≡ o
    unfolding target_type found_number
    target_end good e h = sym (h ∙ rw (typed_end good s w e))

    pub source_hit : (a : Argument) (e y : ℕ) → ArgumentIs tree text w a → a ≡ Argument.Expr e → y ≡ slot_at tree s e
        → o ≡ source_type (typed_at tree text s w) → found_number (Some y) ≡ o
    unfolding source_type typed_arg found_number
    source_hit a e y is q p h = rw p (sym (h ∙ rw (head_is w s is, q)))

    pub source_more : (a : Argument) (y v : ℕ) → ArgumentIs tree text w a → a ≡ Argument.ToType y → v ≡ word_of tree w B
        → o ≡ source_type (typed_at tree text s w) → o ≡ source_type (typed_at tree text s v)
    unfolding source_type typed_arg
    source_more a y v is q p h = h ∙ rw (head_is w s is, q, p)

    pub source_end : Good tree text → w ≡ none → o ≡ source_type (typed_at tree text s w) → found_number None ≡ o
    unfolding source_type found_number
    source_end good e h = sym (h ∙ rw (typed_end good s w e))

  -- the type of an argument that is an expression, or a type
  module _ (s : List ℕ) (w : ℕ) (a : Argument) (is : ArgumentIs tree text w a) (t : ArgsTyped tree s (args_at tree text w)) where
    pub slot-type : (e y : ℕ) → a ≡ Argument.Expr e → y ≡ slot_at tree s e → TypeAt tree y
    unfolding typed_arg
    slot-type e y q p = rw p (rw q at (head_typed w s is t))

    pub first_slot : (e y : ℕ) → a ≡ Argument.Expr e → y ≡ slot_at tree s e → FirstType (typed_at tree text s w) y × TypeAt tree y
    unfolding FirstType typed_arg
    first_slot e y q p = (rw (head_is w s is, q) (sym p), slot-type e y q p)

    pub first-type : (y : ℕ) → a ≡ Argument.ToType y → FirstType (typed_at tree text s w) y × TypeAt tree y
    unfolding FirstType typed_arg
    first-type y q = (rw (head_is w s is, q) refl, of-type w is y q)
