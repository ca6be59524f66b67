-- What a cell's list holds, by the slots that its words lead to: the item by the table, the rest by its slot, and that both are at hand.
-- The table is held to the definition by computing; a word that may be none goes by whether its slot is slot 0. Assumes nothing.
use mathlib.Core.Path.{◌≡◌, refl, sym, ◌∙◌}
use Prim.Native.Nat.{ℕ, zero, suc, ◌+◌, ◌*◌, ◌<◌}
use mathlib.Core.Bool.{true, false, not, ◌&&◌}
use mathlib.Core.List.{List}
use native.Mathlib.Omega.{arith}
use lib.Dec.{eqb}
use lib.ListN.{get_or}
use borrow.Author.Tests.{eqb-true, eqb-false, ne_eqb, le-leb, lt-leb, not-true, not-false}
use Rattle.laws.specs.Fix.{pick, below}
use Rattle.laws.specs.Below.{all_below}
use Rattle.laws.proofs.AllBelow.{all-at}
use Rattle.laws.proofs.Tests.{and_left, and_right}
use Rattle.records.specs.declared.shape.Role.TheVariants.{Rest}
use Rattle.records.specs.Words.{most_records, kind_of, word_of, none, C}
use Rattle.records.specs.Shapes.{row_of}
use Rattle.judge.specs.Inner.{class_in, item_class, class_at}
use Rattle.judge.specs.Plain.{plain_rules, item_number, Place, row_numbers, rule_rows, item_rule}
use Rattle.judge.proofs.ListClass.{item-none, item_untyped, item-typed, class_lower, cell-last, cell_mixed, cell_same, class_cell}

-- ---- the item

items : all_below rule_rows (λ k. eqb (get_or plain_rules (k * row_numbers + item_rule) 0) (item_number k)) ≡ true
unfolding all_below item_number
items = refl

module _ (tree : List ℕ) (a k : ℕ) (kIs : k ≡ kind_of tree a) where
  pub item-high : 25 < k → 0 ≡ item_class tree a
  item-high h =
      item-none tree a k kIs (rw (ne_eqb k 13 (λ e. omega arith), ne_eqb k 14 (λ e. omega arith)) refl)
      (rw (le-leb 15 k (omega arith), lt-leb k 23 (omega arith)) refl) (λ e. omega arith)

  module _ (v : k ≡ 24) (w : ℕ) (wIs : w ≡ word_of tree a C) where
    pub variable_untyped : w ≡ none → 0 ≡ item_class tree a
    variable_untyped e = item_untyped tree a k kIs (rw v refl) (rw v refl) v w wIs e

    pub variable-typed : (w ≡ none → ⊥) → 2 ≡ item_class tree a
    variable-typed e = item-typed tree a k kIs (rw v refl) (rw v refl) v w wIs e

  number-told : (k ≡ 24 → ⊥) → item_number k ≡ item_class tree a
  unfolding item_number item_class pick
  number-told n = rw (sym kIs, ne_eqb k 24 n) refl

  pub item-table : (rules : List ℕ) → rules ≡ plain_rules → k < rule_rows → (k ≡ 24 → ⊥) → get_or rules (k * row_numbers + item_rule) 0 ≡ item_class tree a
  item-table rules e h n = rw e (eqb-true _ _ (all-at (λ i. eqb (get_or plain_rules (i * row_numbers + item_rule) 0) (item_number i)) rule_rows k items h) ∙ number-told n)

-- ---- the list

module _ (tree l : List ℕ) (r k a b p item class : ℕ) (few : r < most_records) (kIs : k ≡ 12) (place : Place r (row_of k).b b p) (same : item ≡ a) (h : a < r) (classIs : class ≡ item_class tree item) where
  rest : Place r Rest b p
  unfolding row_of
  rest = rw kIs at place

  module _ (x : ℕ) (e : p ≡ x + 1) where
    lower : x ≡ b
    lower = (rest.lower x e).1

    some : b ≡ none → ⊥
    some q = omega (arith, lower, rest.within)

    told : get_or l (p * 4 + 2) 0 ≡ below (class_in l) r b 0
    told = let q : p * 4 + 2 ≡ x * 4 + 6 = omega arith in rw q (class_lower l r b x lower (omega (arith, rest.within)))

  pub slot_mixed : (not (eqb p 0) && not (eqb (get_or l (p * 4 + 2) 0) class)) ≡ true → 0 ≡ class_at tree (class_in l) r k a b
  slot_mixed e = go p refl
    where
      go : (x : ℕ) → p ≡ x → 0 ≡ class_at tree (class_in l) r k a b
      go zero q = absurd (eqb-false p 0 (not-true (eqb p 0) (and_left (not (eqb p 0)) (not (eqb (get_or l (p * 4 + 2) 0) class)) e)) q)
      go (suc x) q =
          let s : p ≡ x + 1 = omega arith in
          class_cell tree (class_in l) r k a b kIs 0
          (cell_mixed tree (class_in l) r a b item same (omega arith) class classIs (some x s) (get_or l (p * 4 + 2) 0) (told x s)
          (eqb-false (get_or l (p * 4 + 2) 0) class (not-true (eqb (get_or l (p * 4 + 2) 0) class) (and_right (not (eqb p 0)) (not (eqb (get_or l (p * 4 + 2) 0) class)) e))))

  pub slot_same : (not (eqb p 0) && not (eqb (get_or l (p * 4 + 2) 0) class)) ≡ false → class ≡ class_at tree (class_in l) r k a b
  slot_same e = go p refl
    where
      go : (x : ℕ) → p ≡ x → class ≡ class_at tree (class_in l) r k a b
      go zero q = class_cell tree (class_in l) r k a b kIs class (cell-last tree (class_in l) r a b item same (omega arith) class classIs (rest.own q refl).0)
      go (suc x) q =
          let s : p ≡ x + 1 = omega arith in
          let t : not (eqb (get_or l (p * 4 + 2) 0) class) ≡ false = rw (ne_eqb p 0 (λ z. omega arith)) at e in
          class_cell tree (class_in l) r k a b kIs class
          (cell_same tree (class_in l) r a b item same (omega arith) class classIs (some x s) (get_or l (p * 4 + 2) 0) (told x s) (eqb-true (get_or l (p * 4 + 2) 0) class (not-false (eqb (get_or l (p * 4 + 2) 0) class) t)))
