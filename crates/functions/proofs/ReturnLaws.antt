-- Whether every path through a block returns, as the code meets it: the block cell by cell, a statement by its kind.
-- By what the lists and the records of a good tree stand for. Assumes nothing.
use mathlib.Core.Path.{◌≡◌, refl, sym, ap, ◌∙◌}
use mathlib.Core.Logic.{◌⊎◌, inl, inr}
use mathlib.Core.Bool.{Bool, true, false, ◌&&◌, ◌||◌}
use mathlib.Core.List.{List}
use Prim.Native.Nat.{ℕ, suc, ◌+◌, ◌*◌, ◌/◌, ◌%◌, ◌≤◌, ◌<◌}
use native.Mathlib.Omega.{arith}
use lib.Dec.{eqb, ltb}
use lib.ListN.{length}
use borrow.Author.Tests.{eq-eqb, ne_eqb, ltb-true, ltb-false}
use Rattle.laws.specs.Fix.{pick}
use Rattle.laws.proofs.Tests.{tested}
use Rattle.records.specs.declared.shape.Role.TheVariants.{Body}
use Rattle.records.specs.Words.{kind_of, detail_of, word_of, none, A, B, C}
use Rattle.records.specs.Good.{Good}
use Rattle.records.proofs.GoodLaws.{ToList, inside, if_detail, if-b, if-c}
use Rattle.syntax.specs.Decode.{bit}
use Rattle.syntax.specs.Places.{IsStatement, BodyAt, statement_at, block_at}
use Rattle.syntax.proofs.Lists.{left, left_some, cell-is, next-list, next_falls, block_end, statement_is, statement_item, list-lower, list_at_lem}
use Rattle.syntax.proofs.Records.{statement_declare, statement_init, statement_return, statement_call, statement_if, statement_if_else, statement_while, statement_for, statement_break, statement_continue}
use Rattle.conversion.specs.Functions.{statement_returns, always_returns}

-- ---- a block

-- the block from this cell on returns if that from the first on does
pub record ReturnsLeft (tree text : List ℕ) (first cell : ℕ) : Type 0 where
  pub cells : BodyAt tree cell
  pub low : left cell ≤ left first
  pub same : always_returns (block_at tree text first) ≡ always_returns (block_at tree text cell)

pub returns_start : {tree text : List ℕ} {first : ℕ} → BodyAt tree first → ReturnsLeft tree text first first
returns_start b = record { cells = b; low = omega arith; same = refl }

module _ {tree text : List ℕ} (good : Good tree text) {first cell : ℕ} (p : ReturnsLeft tree text first cell) where
  pub returns_end : cell ≡ none → false ≡ always_returns (block_at tree text first)
  unfolding always_returns
  returns_end e = sym (p.same ∙ ap (λ (w : ℕ). always_returns (block_at tree text w)) e ∙ ap always_returns (block_end tree text good))

  module _ (n : cell ≡ none → ⊥) where
    split : always_returns (block_at tree text first) ≡ (statement_returns (statement_at tree text (word_of tree cell A)) || always_returns (block_at tree text (word_of tree cell B)))
    unfolding always_returns
    split = p.same ∙ ap always_returns (statement_item tree text good cell (cell-is tree text good Body cell p.cells n))

    pub cell-inside : cell * 32 + 32 ≤ length tree
    cell-inside = inside tree text good cell (cell-is tree text good Body cell p.cells n).inside

    pub cell_falls : {w : ℕ} → w ≡ word_of tree cell B → left w < left cell
    cell_falls {w} e = next_falls tree text good Body cell w p.cells n e

    module _ {r : ℕ} (er : r ≡ word_of tree cell A) where
      pub item_statement : IsStatement tree r
      item_statement = rw er (statement_is tree text good cell (cell-is tree text good Body cell p.cells n))

      pub item-less : 2 * r + 1 < 2 * left first
      item-less = omega (arith, er, (cell-is tree text good Body cell p.cells n).item, left_some cell n, p.low)

      module _ {b : Bool} (eb : b ≡ statement_returns (statement_at tree text r)) where
        item-is : (q : Bool) → b ≡ q → statement_returns (statement_at tree text (word_of tree cell A)) ≡ q
        item-is q e = rw (← er) (sym eb ∙ e)

        pub returns-here : b ≡ true → true ≡ always_returns (block_at tree text first)
        returns-here e = sym (split ∙ ap (λ (x : Bool). x || always_returns (block_at tree text (word_of tree cell B))) (item-is true e))

        pub returns-next : {w : ℕ} → b ≡ false → w ≡ word_of tree cell B → ReturnsLeft tree text first w
        returns-next {w} e ew = record {
          cells = next-list tree text good Body cell w p.cells n ew;
          low = omega (arith, cell_falls ew, p.low);
          same = split ∙ ap (λ (x : Bool). x || always_returns (block_at tree text (word_of tree cell B))) (item-is false e)
              ∙ ap (λ (x : ℕ). always_returns (block_at tree text x)) (sym ew);
        }

-- ---- a statement

list-low : (w m : ℕ) → (w ≡ none) ⊎ (w < m) → left w ≤ m
unfolding left pick
list-low w m (inl e) = rw (eq-eqb w none e) (omega arith)
list-low w m (inr h) = go (eqb w none)
  where
    go : (b : Bool) → pick b 0 (suc w) ≤ m
    go true = omega arith
    go false = omega (arith, h)

module _ {tree text : List ℕ} (good : Good tree text) {r : ℕ} (x : IsStatement tree r) where
  module _ {k : ℕ} (ek : k ≡ kind_of tree r) where
    pub a-return : k ≡ 17 → true ≡ statement_returns (statement_at tree text r)
    unfolding statement_returns
    a-return e = sym (ap statement_returns (statement_return tree text good r x.below (sym ek ∙ e)))

    pub another : (k ≡ 17 → ⊥) → (k ≡ 19 → ⊥) → false ≡ statement_returns (statement_at tree text r)
    unfolding statement_returns
    another m n =
        let K = kind_of tree r in
        let from = x.least in
        let to = x.most in
        sym (tested (ltb K 16) (λ q. ap statement_returns (statement_declare tree text r (omega (arith, ltb-true K 16 q))))
        λ n₁. tested (ltb K 17) (λ q. ap statement_returns (statement_init tree text good r x.below (omega (arith, ltb-true K 17 q, ltb-false K 16 n₁))))
        λ n₂. tested (ltb K 18) (λ q. absurd (m (omega (arith, ltb-true K 18 q, ltb-false K 17 n₂))))
        λ n₃. tested (ltb K 19) (λ q. ap statement_returns (statement_call tree text good r x.below (omega (arith, ltb-true K 19 q, ltb-false K 18 n₃))))
        λ n₄. tested (ltb K 20) (λ q. absurd (n (omega (arith, ltb-true K 20 q, ltb-false K 19 n₄))))
        λ n₅. tested (ltb K 21) (λ q. ap statement_returns (statement_while tree text good r x.below (omega (arith, ltb-true K 21 q, ltb-false K 20 n₅))))
        λ n₆. tested (ltb K 22) (λ q. ap statement_returns (statement_for tree text good r x.below (omega (arith, ltb-true K 22 q, ltb-false K 21 n₆))))
        λ n₇. tested (ltb K 23) (λ q. ap statement_returns (statement_break tree text r (omega (arith, ltb-true K 23 q, ltb-false K 22 n₇))))
        λ n₈. ap statement_returns (statement_continue tree text r (omega (arith, ltb-false K 23 n₈))))

    module _ (e : k ≡ 19) where
      is-if : kind_of tree r ≡ 19
      is-if = sym ek ∙ e

      -- the lists of its two blocks
      pub first_block : {w : ℕ} → w ≡ word_of tree r B → (2 * left w < 2 * r + 1) × BodyAt tree w
      first_block {w} ew = let l : ToList tree Body r w = rw ew (if-b tree text good r x.below is-if) in
          (omega (arith, list-low w r (list-lower tree text good Body r w l)), list_at_lem tree text good Body r w x.below l)

      pub second_block : {w : ℕ} → w ≡ word_of tree r C → (2 * left w < 2 * r + 1) × BodyAt tree w
      second_block {w} ew = let l : ToList tree Body r w = rw ew (if-c tree text good r x.below is-if) in
          (omega (arith, list-low w r (list-lower tree text good Body r w l)), list_at_lem tree text good Body r w x.below l)

      module _ {d : ℕ} (ed : d ≡ detail_of tree r) where
        pub no_otherwise : (d ≡ 1 → ⊥) → false ≡ statement_returns (statement_at tree text r)
        unfolding statement_returns bit
        no_otherwise n =
            sym (ap statement_returns (statement_if tree text good r x.below is-if
            (ne_eqb (detail_of tree r / 1 % 2) 1 (λ q. n (omega (arith, ed, q, if_detail tree text good r x.below is-if))))))

        module _ (one : d ≡ 1) where
          both : statement_returns (statement_at tree text r) ≡ (always_returns (block_at tree text (word_of tree r B)) && always_returns (block_at tree text (word_of tree r C)))
          unfolding statement_returns bit
          both = ap statement_returns (statement_if_else tree text good r x.below is-if (eq-eqb (detail_of tree r / 1 % 2) 1 (omega (arith, ed, one))))

          module _ {w : ℕ} {a : Bool} (ew : w ≡ word_of tree r B) (ea : a ≡ always_returns (block_at tree text w)) where
            first-is : (q : Bool) → a ≡ q → statement_returns (statement_at tree text r) ≡ (q && always_returns (block_at tree text (word_of tree r C)))
            first-is q e = both ∙ ap (λ (z : Bool). z && always_returns (block_at tree text (word_of tree r C)))
                (ap (λ (z : ℕ). always_returns (block_at tree text z)) (sym ew) ∙ sym ea ∙ e)

            pub first-not : a ≡ false → false ≡ statement_returns (statement_at tree text r)
            first-not q = sym (first-is false q)

            pub by-second : {v : ℕ} {b : Bool} → a ≡ true → v ≡ word_of tree r C → b ≡ always_returns (block_at tree text v) → b ≡ statement_returns (statement_at tree text r)
            by-second q ev eb = eb ∙ ap (λ (z : ℕ). always_returns (block_at tree text z)) ev ∙ sym (first-is true q)
