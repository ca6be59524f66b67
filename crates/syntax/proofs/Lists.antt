-- What a list of a good tree is, cell by cell: its item, its rest, and what the arguments, the parameters and the statements from a cell on
-- stand for. By the rules of lists and the cases of nodes. Assumes nothing.
use mathlib.Core.Path.{◌≡◌, refl, sym, ◌∙◌}
use mathlib.Core.Logic.{◌⊎◌, inl, inr}
use mathlib.Core.Bool.{Bool, true, false, not, ◌&&◌, ◌||◌, false≢true}
use mathlib.Core.List.{List, [], ◌∷◌}
use Prim.Native.Nat.{ℕ, zero, suc, ◌+◌, ◌-◌, ◌*◌, ◌<◌, ◌≤◌}
use native.Mathlib.Omega.{arith}
use lib.Dec.{eqb, leb, ltb}
use lib.ListN.{length, get_or}
use borrow.Author.Tests.{not-true, leb-true, ltb-true, ltb-false, eqb-true, ne_eqb, eq-eqb}
use Rattle.laws.specs.Fix.{pick, below}
use Rattle.laws.proofs.Tests.{and_left, and_right}
use Rattle.records.specs.declared.shape.Role.{Role}
use Rattle.records.specs.declared.shape.Role.TheVariants.{Arguments, Parameters, Body}
use Rattle.records.specs.Words.{byte_at, kind_of, detail_of, word_of, records, none, A, B, C}
use Rattle.records.specs.Rules.{is_expr, item_ok, list_ok}
use Rattle.records.specs.Good.{Good}
use Rattle.records.proofs.GoodLaws.{ToList, value-a, type_argument_a, variable-c}
use Rattle.records.proofs.ListLaws.{list_end, list-cell}
use Rattle.syntax.specs.Syntax.{no_args, Value, ToType, Statement, SIf, SIfElse, done, next}
use Rattle.syntax.specs.Decode.{absent, stmt, cell, bit, child, expr_in, block_in, node, kinds, nothing_at, declare_at, init_at, return_at, call_statement_at, if_at, while_at, for_at, break_at, continue_at, reference, text_of, args_of, block_of, params_of, with_arg, with_statement, with_param, or_zero}
use Rattle.syntax.specs.Places.{TypeAt, IsStatement, ListAt, expr_at, args_at, params_at, block_at, statement_of, statement_at}
use Rattle.syntax.proofs.Unfold.{node-is}
use Rattle.syntax.proofs.Cases.{child_in, child-out, list_case, value_case, type_argument_case, variable_case}

-- a record of kind 15 to 23 stands for a statement
module _ (tree text : List ℕ) (r : ℕ) where
  if-node : (b : Bool) (s t : Statement) → pick b (stmt s) (stmt t) ≡ stmt (statement_of (pick b (stmt s) (stmt t)))
  unfolding pick statement_of
  if-node true s t = refl
  if-node false s t = refl

  statement_by : (i : ℕ) → i ≤ 8 → kind_of tree r ≡ 15 + i → node tree text r ≡ stmt (statement_at tree text r)
  unfolding statement_at statement_of kinds declare_at init_at return_at call_statement_at if_at while_at for_at break_at continue_at
  statement_by zero h e = rw (node-is tree text r 15 (sym e))
  statement_by (suc zero) h e = rw (node-is tree text r 16 (sym e))
  statement_by (suc (suc zero)) h e = rw (node-is tree text r 17 (sym e))
  statement_by (suc (suc (suc zero))) h e = rw (node-is tree text r 18 (sym e))
  statement_by (suc (suc (suc (suc zero)))) h e =
      let g = node tree text in
      rw (node-is tree text r 19 (sym e)) (if-node (bit 1 (detail_of tree r))
      (SIfElse r (expr_in tree text g r A) (block_in tree text g r B) (block_in tree text g r C)) (SIf r (expr_in tree text g r A) (block_in tree text g r B)))
  statement_by (suc (suc (suc (suc (suc zero))))) h e = rw (node-is tree text r 20 (sym e))
  statement_by (suc (suc (suc (suc (suc (suc zero)))))) h e = rw (node-is tree text r 21 (sym e))
  statement_by (suc (suc (suc (suc (suc (suc (suc zero))))))) h e = rw (node-is tree text r 22 (sym e))
  statement_by (suc (suc (suc (suc (suc (suc (suc (suc zero)))))))) h e = rw (node-is tree text r 23 (sym e))
  statement_by (suc (suc (suc (suc (suc (suc (suc (suc (suc i))))))))) h e = absurd (omega arith)

  pub statement_node : IsStatement tree r → node tree text r ≡ stmt (statement_at tree text r)
  statement_node k = statement_by (kind_of tree r - 15) (omega (arith, k.least, k.most)) (omega (arith, k.least))

-- a number that falls from cell to cell: 0 behind the last
unfoldable pub left : ℕ → ℕ
unfolding pick
left w = pick (eqb w none) 0 (suc w)

left_below : (w m : ℕ) → (w ≡ none) ⊎ (w < m) → left w ≤ m
unfolding left pick
left_below w m (inl e) = rw (eq-eqb w none e) (omega arith)
left_below w m (inr h) = go (eqb w none)
  where
    go : (b : Bool) → pick b 0 (suc w) ≤ m
    go true = omega arith
    go false = omega (arith, h)

pub left_some : (w : ℕ) → (w ≡ none → ⊥) → left w ≡ suc w
unfolding left pick
left_some w n = rw (ne_eqb w none n)

past : (l : List ℕ) (i : ℕ) → length l ≤ i → get_or l i 0 ≡ 0
past [] i h = refl
past (x ∷ l) zero h = absurd (omega arith)
past (x ∷ l) (suc i) h = past l i (omega arith)

module _ (tree text : List ℕ) (good : Good tree text) where
  -- past the last record nothing stands
  kind-out : (r : ℕ) → records tree ≤ r → kind_of tree r ≡ 0
  unfolding kind_of byte_at
  kind-out r h = past tree (r * 32) (omega (arith, good.whole))

  pub node-out : (r : ℕ) → records tree ≤ r → node tree text r ≡ absent
  unfolding kinds nothing_at
  node-out r h = node-is tree text r 0 (sym (kind-out r h))

  pub args_end : args_at tree text none ≡ no_args
  unfolding args_at args_of
  args_end = rw (node-out none (omega (arith, good.few)))

  pub params_end : params_at tree text none ≡ []
  unfolding params_at params_of
  params_end = rw (node-out none (omega (arith, good.few)))

  pub block_end : block_at tree text none ≡ done
  unfolding block_at block_of
  block_end = rw (node-out none (omega (arith, good.few)))

  -- what a cell of a list is
  pub record Cell (role : Role) (w : ℕ) : Type 0 where
    pub inside : w < records tree
    pub kind : kind_of tree w ≡ 12
    pub item : word_of tree w A < w
    pub item_ok_lem : item_ok tree role (word_of tree w A) ≡ true
    pub rest : ListAt tree role (word_of tree w B)
    pub falls : (word_of tree w B ≡ none) ⊎ (word_of tree w B < w)

  module _ (role : Role) (w : ℕ) where
    some_list : (l : ListAt tree role w) → (w ≡ none → ⊥) → list_ok tree role l.from w ≡ true
    some_list l n = go l.list
      where
        go : (w ≡ none) ⊎ (list_ok tree role l.from w ≡ true) → list_ok tree role l.from w ≡ true
        go (inl e) = absurd (n e)
        go (inr e) = e

    lower : (from : ℕ) → list_ok tree role from w ≡ true → w < from
    lower from e = go (ltb w from) refl
      where
        go : (t : Bool) → ltb w from ≡ t → w < from
        go true h = ltb-true w from h
        go false h = absurd (false≢true (sym (list_end tree role from w (ltb-false w from h)) ∙ e))

    item-below : (b : Bool) → ltb (word_of tree w A) w ≡ b → below (item_ok tree role) w (word_of tree w A) false ≡ true
        → (word_of tree w A < w) × (item_ok tree role (word_of tree w A) ≡ true)
    unfolding below pick
    item-below true h e = (ltb-true (word_of tree w A) w h, rw h at e)
    item-below false h e = absurd (false≢true (rw h at e))

    rest_below : (b : Bool) → eqb (word_of tree w B) none ≡ b → (b || list_ok tree role w (word_of tree w B)) ≡ true
        → (word_of tree w B ≡ none) ⊎ (list_ok tree role w (word_of tree w B) ≡ true)
    rest_below true h e = inl (eqb-true (word_of tree w B) none h)
    rest_below false h e = inr e

    rest_falls : (word_of tree w B ≡ none) ⊎ (list_ok tree role w (word_of tree w B) ≡ true) → (word_of tree w B ≡ none) ⊎ (word_of tree w B < w)
    rest_falls (inl e) = inl e
    rest_falls (inr e) = inr (lower-rest (ltb (word_of tree w B) w) refl)
      where
        lower-rest : (t : Bool) → ltb (word_of tree w B) w ≡ t → word_of tree w B < w
        lower-rest true h = ltb-true (word_of tree w B) w h
        lower-rest false h = absurd (false≢true (sym (list_end tree role w (word_of tree w B) (ltb-false (word_of tree w B) w h)) ∙ e))

    pub cell-is : ListAt tree role w → (w ≡ none → ⊥) → Cell role w
    cell-is l n =
        let ok = some_list l n in
        let low = lower l.from ok in
        let whole = sym (list-cell tree role l.from w low) ∙ ok in
        let K = eqb (kind_of tree w) 12 in
        let I = below (item_ok tree role) w (word_of tree w A) false in
        let R = eqb (word_of tree w B) none || list_ok tree role w (word_of tree w B) in
        let both = and_left (K && I) R whole in
        let first = and_left K I both in
        let item = item-below (ltb (word_of tree w A) w) refl (and_right K I both) in
        let rest = rest_below (eqb (word_of tree w B) none) refl (and_right (K && I) R whole) in
        let within = l.inside in
        record {
          inside = omega arith;
          kind = eqb-true (kind_of tree w) 12 first;
          item = item.0;
          item_ok_lem = item.1;
          rest = record { from = w; inside = omega arith; list = rest };
          falls = rest_falls rest;
        }

    -- a list's first cell, and the cell behind it
    pub cell_below : ListAt tree role w → (w ≡ none → ⊥) → w < records tree
    cell_below l n = (cell-is l n).inside

    pub next-list : (v : ℕ) → ListAt tree role w → (w ≡ none → ⊥) → v ≡ word_of tree w B → ListAt tree role v
    next-list v l n e = rw e (cell-is l n).rest

    pub next_falls : (v : ℕ) → ListAt tree role w → (w ≡ none → ⊥) → v ≡ word_of tree w B → left v < left w
    next_falls v l n e = rw (e, left_some w n) (omega (arith, left_below (word_of tree w B) w (cell-is l n).falls))

    pub left-most : ListAt tree role w → left w ≤ records tree
    left-most l = go l.list
      where
        go : (w ≡ none) ⊎ (list_ok tree role l.from w ≡ true) → left w ≤ records tree
        go (inl e) = left_below w (records tree) (inl e)
        go (inr e) = left_below w (records tree) (inr (omega (arith, lower l.from e, l.inside)))

  -- ---- what the list that word k of a record opens stands for

  pub list-child : (role : Role) (r k : ℕ) → r < records tree → ToList tree role r (word_of tree r k)
      → child tree text (node tree text) r k ≡ node tree text (word_of tree r k)
  list-child role r k h (inl e) =
      child-out tree text r k (omega (arith, e, h, good.few)) ∙ sym (node-out (word_of tree r k) (omega (arith, e, good.few)))
  list-child role r k h (inr e) = child_in tree text r k (lower role (word_of tree r k) r e)

  pub list-lower : (role : Role) (r w : ℕ) → ToList tree role r w → (w ≡ none) ⊎ (w < r)
  list-lower role r w (inl e) = inl e
  list-lower role r w (inr e) = inr (lower role w r e)

  pub list_at_lem : (role : Role) (r w : ℕ) → r < records tree → ToList tree role r w → ListAt tree role w
  list_at_lem role r w h l = record { from = r; inside = omega arith; list = l }

  -- ---- what the list from a cell on stands for

  module _ (role : Role) (w : ℕ) (c : Cell role w) where
    rest-is : child tree text (node tree text) w B ≡ node tree text (word_of tree w B)
    rest-is = go c.falls
      where
        go : (word_of tree w B ≡ none) ⊎ (word_of tree w B < w) → child tree text (node tree text) w B ≡ node tree text (word_of tree w B)
        go (inl e) = child-out tree text w B (omega (arith, e, c.inside, good.few)) ∙ sym (node-out (word_of tree w B) (omega (arith, e, good.few)))
        go (inr h) = child_in tree text w B h

    pub node-cell : node tree text w ≡ cell (node tree text (word_of tree w A)) (node tree text (word_of tree w B))
    node-cell = list_case tree text w c.kind c.item ∙ rw rest-is

    item-inside : word_of tree w A < records tree
    item-inside = omega (arith, c.inside, c.item)

  or_right : (a b : Bool) → (a || b) ≡ true → (a ≡ true → ⊥) → b ≡ true
  or_right true b e n = absurd (n refl)
  or_right false b e n = e

  module _ (w : ℕ) (c : Cell Arguments w) where
    private_kind : (kind_of tree (word_of tree w A) ≡ 13 → ⊥) → kind_of tree (word_of tree w A) ≡ 14
    unfolding item_ok
    private_kind n = eqb-true (kind_of tree (word_of tree w A)) 14
        (or_right (eqb (kind_of tree (word_of tree w A)) 13) (eqb (kind_of tree (word_of tree w A)) 14) c.item_ok_lem (λ e. n (eqb-true (kind_of tree (word_of tree w A)) 13 e)))

    -- an item of kind 13: an expression, and the rest
    module _ (k : kind_of tree (word_of tree w A) ≡ 13) where
      inner : (word_of tree (word_of tree w A) A < word_of tree w A) × (is_expr (kind_of tree (word_of tree (word_of tree w A) A)) ≡ true)
      inner = value-a tree text good (word_of tree w A) (item-inside Arguments w c) k

      pub value-item : args_at tree text w ≡ Value (word_of tree w A) (expr_at tree text (word_of tree (word_of tree w A) A)) (args_at tree text (word_of tree w B))
      unfolding args_at args_of with_arg expr_at
      value-item = rw (node-cell Arguments w c, value_case tree text (word_of tree w A) k inner.0)

      pub value-lower : word_of tree (word_of tree w A) A < w
      value-lower = omega (arith, inner.0, c.item)

      pub value-inside : word_of tree (word_of tree w A) A < records tree
      value-inside = omega (arith, inner.0, item-inside Arguments w c)

      pub value-kind : is_expr (kind_of tree (word_of tree (word_of tree w A) A)) ≡ true
      value-kind = inner.1

    -- an item of another kind: a type, and the rest
    module _ (n : kind_of tree (word_of tree w A) ≡ 13 → ⊥) where
      named : (word_of tree (word_of tree w A) A < word_of tree w A) × (kind_of tree (word_of tree (word_of tree w A) A) ≡ 1)
      named = type_argument_a tree text good (word_of tree w A) (item-inside Arguments w c) (private_kind n)

      pub type-item : args_at tree text w ≡ ToType (word_of tree w A) (word_of tree (word_of tree w A) A) (args_at tree text (word_of tree w B))
      unfolding args_at args_of with_arg
      type-item = rw (node-cell Arguments w c, type_argument_case tree text (word_of tree w A) (private_kind n))

      pub type-is : TypeAt tree (word_of tree (word_of tree w A) A)
      type-is = record { below = omega (arith, named.0, item-inside Arguments w c); kind = named.1 }

  module _ (w : ℕ) (c : Cell Body w) where
    pub statement_is : IsStatement tree (word_of tree w A)
    unfolding item_ok
    statement_is =
        let K = kind_of tree (word_of tree w A) in record {
          below = item-inside Body w c;
          least = leb-true 15 K (and_left (leb 15 K) (leb K 23) c.item_ok_lem);
          most = leb-true K 23 (and_right (leb 15 K) (leb K 23) c.item_ok_lem);
        }

    -- a statement, and the rest
    pub statement_item : block_at tree text w ≡ next (statement_at tree text (word_of tree w A)) (block_at tree text (word_of tree w B))
    unfolding block_at block_of with_statement
    statement_item = rw (node-cell Body w c, statement_node tree text (word_of tree w A) statement_is)

  module _ (w : ℕ) (c : Cell Parameters w) where
    item-kind : kind_of tree (word_of tree w A) ≡ 24
    unfolding item_ok
    item-kind = eqb-true (kind_of tree (word_of tree w A)) 24 (and_left (eqb (kind_of tree (word_of tree w A)) 24) (not (eqb (word_of tree (word_of tree w A) C) none)) c.item_ok_lem)

    has-type : eqb (word_of tree (word_of tree w A) C) none ≡ false
    unfolding item_ok
    has-type = not-true (eqb (word_of tree (word_of tree w A) C) none)
        (and_right (eqb (kind_of tree (word_of tree w A)) 24) (not (eqb (word_of tree (word_of tree w A) C) none)) c.item_ok_lem)

    -- a parameter, and the rest
    pub parameter_item : params_at tree text w
        ≡ record { rec_of = word_of tree w A; name = text_of tree text (word_of tree w A) A; ty = word_of tree (word_of tree w A) C } ∷ params_at tree text (word_of tree w B)
    unfolding params_at params_of with_param or_zero reference pick
    parameter_item = rw (node-cell Parameters w c, variable_case tree text (word_of tree w A) item-kind, has-type)

    pub parameter_type_lem : TypeAt tree (word_of tree (word_of tree w A) C)
    parameter_type_lem = go (variable-c tree text good (word_of tree w A) (item-inside Parameters w c) item-kind)
      where
        go : (word_of tree (word_of tree w A) C ≡ none) ⊎ ((word_of tree (word_of tree w A) C < word_of tree w A) × (kind_of tree (word_of tree (word_of tree w A) C) ≡ 1))
            → TypeAt tree (word_of tree (word_of tree w A) C)
        go (inl e) = absurd (false≢true (sym has-type ∙ eq-eqb (word_of tree (word_of tree w A) C) none e))
        go (inr h) = record { below = omega (arith, h.0, item-inside Parameters w c); kind = h.1 }
