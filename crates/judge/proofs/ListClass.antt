-- What the items of a list are, by one number a cell: the number of the role for which `list_ok` holds.
-- An item stands in lists of one role alone, so a list has the number of its item where the rest has the same. Assumes nothing.
use mathlib.Core.Path.{◌≡◌, refl, sym, ap, ◌∙◌}
use Prim.Native.Nat.{ℕ, suc, ◌≤◌, ◌<◌}
use mathlib.Core.Bool.{Bool, true, false, not, ◌&&◌, ◌||◌}
use mathlib.Core.List.{List}
use native.Mathlib.Omega.{arith}
use lib.Dec.{eqb, leb, ltb}
use borrow.Author.Tests.{eq-eqb, ne_eqb, eqb-true, eqb-false, ltb-true, ltb-false, le-leb, lt-leb, leb-true, leb-false}
use Rattle.laws.specs.Fix.{pick, below, fix}
use Rattle.laws.proofs.FixLaws.{below_in, below_out}
use Rattle.laws.proofs.Tests.{tested, and_right}
use Rattle.records.specs.declared.shape.Role.{Role}
use Rattle.records.specs.declared.shape.Role.TheVariants.{Unused, Number, Text, Length, Expr, TypeRef, TypeOrNone, Name, Variable, Arguments, Parameters, Body, Item, Rest}
use Rattle.records.specs.Words.{kind_of, word_of, none, A, B, C}
use Rattle.records.specs.Rules.{item_ok, list_step, list_ok}
use Rattle.records.proofs.ListLaws.{list-cell}
use Rattle.judge.specs.Inner.{list_number, item_class, cell_class, class_at, class_in, KnownBelow}

-- no role has the number 0
number_some : (role : Role) → eqb 0 (list_number role) ≡ false
number_some Unused = refl
number_some Number = refl
number_some Text = refl
number_some Length = refl
number_some Expr = refl
number_some TypeRef = refl
number_some TypeOrNone = refl
number_some Name = refl
number_some Variable = refl
number_some Arguments = refl
number_some Parameters = refl
number_some Body = refl
number_some Item = refl
number_some Rest = refl

-- four tests, of which at most one of the first three is passed
module _ (p q v u : Bool) where
  chosen : ℕ
  chosen = pick p 1 (pick q 3 (pick (not v) 0 (pick u 0 2)))

chosen-small : (p q v u : Bool) → chosen p q v u ≤ 3
unfolding chosen pick
chosen-small true q v u = omega arith
chosen-small false true v u = omega arith
chosen-small false false false u = omega arith
chosen-small false false true true = omega arith
chosen-small false false true false = omega arith

chosen-one : (p q v u : Bool) → p ≡ eqb (chosen p q v u) 1
unfolding chosen pick
chosen-one true q v u = refl
chosen-one false true v u = refl
chosen-one false false false u = refl
chosen-one false false true true = refl
chosen-one false false true false = refl

chosen_two : (p q v u : Bool) → (p ≡ true → v ≡ false) → (q ≡ true → v ≡ false) → (v && not u) ≡ eqb (chosen p q v u) 2
unfolding chosen pick
chosen_two true q v u h k = rw (h refl) refl
chosen_two false true v u h k = rw (k refl) refl
chosen_two false false false u h k = refl
chosen_two false false true true h k = refl
chosen_two false false true false h k = refl

chosen_three : (p q v u : Bool) → (p ≡ true → q ≡ false) → q ≡ eqb (chosen p q v u) 3
unfolding chosen pick
chosen_three true q v u h = h refl
chosen_three false true v u h = refl
chosen_three false false false u h = refl
chosen_three false false true true h = refl
chosen_three false false true false h = refl

chosen_four : (p q v u : Bool) → false ≡ eqb (chosen p q v u) 4
unfolding chosen pick
chosen_four true q v u = refl
chosen_four false true v u = refl
chosen_four false false false u = refl
chosen_four false false true true = refl
chosen_four false false true false = refl

module _ (tree : List ℕ) (a : ℕ) where
  kind : ℕ
  kind = kind_of tree a

  argument : (eqb kind 13 || eqb kind 14) ≡ true → kind ≤ 14
  argument e =
      tested (eqb kind 13)
      (λ t. omega (arith, eqb-true kind 13 t))
      (λ t. let s : eqb kind 14 ≡ true = rw t at e in omega (arith, eqb-true kind 14 s))

  statement : (leb 15 kind && leb kind 23) ≡ true → kind ≤ 23
  statement e = leb-true kind 23 (and_right (leb 15 kind) (leb kind 23) e)

  class_is : item_class tree a ≡ chosen (eqb kind 13 || eqb kind 14) (leb 15 kind && leb kind 23) (eqb kind 24) (eqb (word_of tree a C) none)
  unfolding item_class chosen kind
  class_is = refl

  pub item-small : item_class tree a ≤ 3
  item-small = rw class_is (chosen-small _ _ _ _)

  none_four : false ≡ eqb (item_class tree a) 4
  none_four = rw class_is (chosen_four _ _ _ _)

  pub item-told : (role : Role) → item_ok tree role a ≡ eqb (item_class tree a) (list_number role)
  unfolding item_ok kind
  item-told Arguments = rw class_is (chosen-one _ _ _ _)
  item-told Parameters =
      rw class_is
      (chosen_two _ _ _ _
      (λ e. ne_eqb kind 24 (λ k. omega (arith, argument e)))
      (λ e. ne_eqb kind 24 (λ k. omega (arith, statement e))))
  item-told Body = rw class_is (chosen_three _ _ _ _ (λ e. rw (lt-leb 15 kind (omega (arith, argument e))) refl))
  item-told Unused = none_four
  item-told Number = none_four
  item-told Text = none_four
  item-told Length = none_four
  item-told Expr = none_four
  item-told TypeRef = none_four
  item-told TypeOrNone = none_four
  item-told Name = none_four
  item-told Variable = none_four
  item-told Item = none_four
  item-told Rest = none_four

-- a list below record r, by the numbers of the cells below r
module _ (tree : List ℕ) (r : ℕ) (l : List ℕ) (known : KnownBelow tree r l) (role : Role) where
  pub list-told : (w : ℕ) → list_ok tree role r w ≡ eqb (below (class_in l) r w 0) (list_number role)
  unfolding list_ok
  list-told w =
      tested (ltb w r)
      (λ t.
      let h : w < r = ltb-true w r t in
      below_in (fix false (list_step tree role)) r w false h ∙ known.lists role w h ∙ sym (ap (λ (x : ℕ). eqb x (list_number role)) (below_in (class_in l) r w 0 h)))
      (λ t.
      let h : r ≤ w = ltb-false w r t in
      below_out (fix false (list_step tree role)) r w false h ∙ sym (number_some role) ∙ sym (ap (λ (x : ℕ). eqb x (list_number role)) (below_out (class_in l) r w 0 h)))

  -- two numbers: both are the role's, or the one that stands for both is
  both : (x y : ℕ) → (eqb x (list_number role) && eqb y (list_number role)) ≡ eqb (pick (eqb y x) x 0) (list_number role)
  unfolding pick
  both x y =
      tested (eqb y x)
      (λ t. rw (t, eqb-true y x t) (twice (eqb x (list_number role))))
      (λ t. rw (t, number_some role)
      (tested (eqb x (list_number role))
      (λ s. rw (s, ne_eqb y (list_number role) (λ e. eqb-false y x t (e ∙ sym (eqb-true x (list_number role) s)))) refl)
      (λ s. rw s refl)))
    where
      twice : (b : Bool) → (b && b) ≡ b
      twice true = refl
      twice false = refl

  or-none : (b : Bool) (x y : ℕ) → (eqb x (list_number role) && (b || eqb y (list_number role))) ≡ eqb (pick b x (pick (eqb y x) x 0)) (list_number role)
  unfolding pick
  or-none true x y = and_yes (eqb x (list_number role))
    where
      and_yes : (c : Bool) → (c && true) ≡ c
      and_yes true = refl
      and_yes false = refl
  or-none false x y = both x y

  pub cell-told : (a b : ℕ) → a ≡ word_of tree r A → b ≡ word_of tree r B → (kind : ℕ) → kind ≡ kind_of tree r
      → fix false (list_step tree role) r ≡ eqb (class_at tree (class_in l) r kind a b) (list_number role)
  unfolding class_at cell_class list_ok pick
  cell-told a b wa wb kind k =
      sym (below_in (fix false (list_step tree role)) (suc r) r false (omega arith))
      ∙ list-cell tree role (suc r) r (omega arith)
      ∙ rw (sym wa, sym wb, sym k, list-told b)
      (tested (eqb kind 12)
      (λ t. rw t
      (tested (leb r a)
      (λ s. rw (s, below_out (item_ok tree role) r a false (leb-true r a s)) (sym (number_some role)))
      (λ s. rw (s, below_in (item_ok tree role) r a false (leb-false r a s), item-told tree a role) (or-none (eqb b none) (item_class tree a) (below (class_in l) r b 0)))))
      (λ t. rw t (sym (number_some role))))

pub class_small : (tree : List ℕ) (g : ℕ → ℕ) (r kind a b : ℕ) → class_at tree g r kind a b ≤ 3
unfolding class_at cell_class pick
class_small tree g r kind a b = go (eqb kind 12) (leb r a) (eqb b none) (eqb (below g r b 0) (item_class tree a))
  where
    go : (p q s t : Bool) → pick p (pick q 0 (pick s (item_class tree a) (pick t (item_class tree a) 0))) 0 ≤ 3
    go false q s t = omega arith
    go true true s t = omega arith
    go true false true t = item-small tree a
    go true false false true = item-small tree a
    go true false false false = omega arith

pub class_other : (tree : List ℕ) (g : ℕ → ℕ) (r kind a b : ℕ) → kind ≡ kind_of tree r → (kind_of tree r ≡ 12 → ⊥) → class_at tree g r kind a b ≡ 0
unfolding class_at pick
class_other tree g r kind a b e h = rw (ne_eqb kind 12 (λ k. h (sym e ∙ k))) refl

-- ---- as the code meets it

module _ (l : List ℕ) (r w i : ℕ) (same : i ≡ w) where
  pub class_lower : i < r → class_in l i ≡ below (class_in l) r w 0
  class_lower h = sym (below_in (class_in l) r w 0 (omega arith) ∙ ap (class_in l) (sym same))

  pub class_none : r ≤ i → 0 ≡ below (class_in l) r w 0
  class_none h = sym (below_out (class_in l) r w 0 (omega arith))

module _ (tree : List ℕ) (a k : ℕ) (kIs : k ≡ kind_of tree a) where
  pub item_argument : (eqb k 13 || eqb k 14) ≡ true → 1 ≡ item_class tree a
  unfolding item_class pick
  item_argument e = rw (sym kIs, e) refl

  module _ (n : (eqb k 13 || eqb k 14) ≡ false) where
    pub item_statement : (leb 15 k && leb k 23) ≡ true → 3 ≡ item_class tree a
    unfolding item_class pick
    item_statement e = rw (sym kIs, n, e) refl

    module _ (m : (leb 15 k && leb k 23) ≡ false) where
      pub item-none : (k ≡ 24 → ⊥) → 0 ≡ item_class tree a
      unfolding item_class pick
      item-none e = rw (sym kIs, n, m, ne_eqb k 24 e) refl

      module _ (v : k ≡ 24) (w : ℕ) (wIs : w ≡ word_of tree a C) where
        pub item_untyped : w ≡ none → 0 ≡ item_class tree a
        unfolding item_class pick
        item_untyped e = rw (sym kIs, n, m, eq-eqb k 24 v, sym wIs, eq-eqb w none e) refl

        pub item-typed : (w ≡ none → ⊥) → 2 ≡ item_class tree a
        unfolding item_class pick
        item-typed e = rw (sym kIs, n, m, eq-eqb k 24 v, sym wIs, ne_eqb w none e) refl

module _ (tree : List ℕ) (g : ℕ → ℕ) (r a b i : ℕ) (same : i ≡ a) where
  pub cell_out : r ≤ i → 0 ≡ cell_class tree g r a b
  unfolding cell_class pick
  cell_out h = rw (le-leb r a (omega arith)) refl

  module _ (h : i < r) (class : ℕ) (classIs : class ≡ item_class tree i) where
    here : item_class tree a ≡ class
    here = sym (classIs ∙ ap (item_class tree) same)

    pub cell-last : b ≡ none → class ≡ cell_class tree g r a b
    unfolding cell_class pick
    cell-last e = rw (lt-leb r a (omega arith), eq-eqb b none e, here) refl

    module _ (n : b ≡ none → ⊥) (rest : ℕ) (restIs : rest ≡ below g r b 0) where
      pub cell_mixed : (rest ≡ class → ⊥) → 0 ≡ cell_class tree g r a b
      unfolding cell_class pick
      cell_mixed e = rw (lt-leb r a (omega arith), ne_eqb b none n, sym restIs, here, ne_eqb rest class e) refl

      pub cell_same : rest ≡ class → class ≡ cell_class tree g r a b
      unfolding cell_class pick
      cell_same e = rw (lt-leb r a (omega arith), ne_eqb b none n, sym restIs, here, eq-eqb rest class e) refl

module _ (tree : List ℕ) (g : ℕ → ℕ) (r kind a b : ℕ) where
  pub class_cell : kind ≡ 12 → (class : ℕ) → class ≡ cell_class tree g r a b → class ≡ class_at tree g r kind a b
  unfolding class_at pick
  class_cell e class q = rw (eq-eqb kind 12 e) q

  pub class_plain : (kind ≡ 12 → ⊥) → 0 ≡ class_at tree g r kind a b
  unfolding class_at pick
  class_plain e = rw (ne_eqb kind 12 e) refl
