-- A list of a tree is judged cell by cell: what each test at a cell says of the whole list that is left.
-- By the one step of `list_ok`, which looks below its cell alone. Assumes nothing.
use mathlib.Core.Path.{◌≡◌, refl, sym, ◌∙◌}
use Prim.Native.Nat.{ℕ, ◌≤◌, ◌<◌}
use mathlib.Core.Bool.{true, false, ◌&&◌, ◌||◌}
use mathlib.Core.List.{List}
use lib.Dec.{eqb}
use borrow.Author.Tests.{eq-eqb, ne_eqb}
use Rattle.laws.specs.Fix.{below, fix}
use Rattle.laws.proofs.FixLaws.{Local, fix-step, below_in, below_out, below_cong}
use Rattle.records.specs.declared.shape.Role.{Role}
use Rattle.records.specs.Words.{kind_of, word_of, none, A, B}
use Rattle.records.specs.Rules.{item_ok, list_step, list_ok}

module _ (tree : List ℕ) (role : Role) where
  local : Local (list_step tree role)
  unfolding list_step
  local g h cell agree = rw (below_cong g h cell (word_of tree cell B) false (agree (word_of tree cell B)))

  pub list_end : (from cell : ℕ) → from ≤ cell → list_ok tree role from cell ≡ false
  unfolding list_ok
  list_end from cell h = below_out (fix false (list_step tree role)) from cell false h

  module _ (from cell : ℕ) (h : cell < from) where
    pub list-cell : list_ok tree role from cell ≡ (eqb (kind_of tree cell) 12 && below (item_ok tree role) cell (word_of tree cell A) false && (eqb (word_of tree cell B) none || list_ok tree role cell (word_of tree cell B)))
    unfolding list_ok list_step
    list-cell =
        below_in (fix false (list_step tree role)) from cell false h ∙ fix-step false (list_step tree role) local cell

    pub list-kind : (k : ℕ) → k ≡ kind_of tree cell → (k ≡ 12 → ⊥) → list_ok tree role from cell ≡ false
    list-kind k e n = list-cell ∙ rw (sym e, ne_eqb k 12 n) refl

    module _ (kind : kind_of tree cell ≡ 12) (a : ℕ) (item : a ≡ word_of tree cell A) where
      pub list-item-out : cell ≤ a → list_ok tree role from cell ≡ false
      list-item-out o = list-cell ∙ rw (eq-eqb (kind_of tree cell) 12 kind, sym item, below_out (item_ok tree role) cell a false o) refl

      module _ (lower : a < cell) where
        pub list-item_bad : item_ok tree role a ≡ false → list_ok tree role from cell ≡ false
        list-item_bad bad =
            list-cell ∙ rw (eq-eqb (kind_of tree cell) 12 kind, sym item, below_in (item_ok tree role) cell a false lower, bad) refl

        module _ (good : item_ok tree role a ≡ true) (b : ℕ) (rest : b ≡ word_of tree cell B) where
          pub list-last : b ≡ none → list_ok tree role from cell ≡ true
          list-last n =
              list-cell ∙ rw (eq-eqb (kind_of tree cell) 12 kind, sym item, below_in (item_ok tree role) cell a false lower, good, sym rest, eq-eqb b none n) refl

          pub list-rest : (b ≡ none → ⊥) → list_ok tree role from cell ≡ list_ok tree role cell b
          list-rest n =
              list-cell ∙ rw (eq-eqb (kind_of tree cell) 12 kind, sym item, below_in (item_ok tree role) cell a false lower, good, sym rest, ne_eqb b none n) refl
