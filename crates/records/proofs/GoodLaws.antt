-- What a good tree says of each kind of record: its place, its detail, and what its words refer to.
-- Each is the rule of the word's role, at the row of the kind. Assumes nothing.
use mathlib.Core.Path.{◌≡◌, refl, sym, subst, ◌∙◌}
use mathlib.Core.Bool.{Bool, true, false, ◌||◌, false≢true}
use mathlib.Core.List.{List}
use mathlib.Core.Logic.{◌⊎◌, inl, inr}
use Prim.Native.Nat.{ℕ, suc, ◌+◌, ◌*◌, ◌<◌, ◌≤◌}
use native.Mathlib.Omega.{arith}
use lib.Dec.{eqb, ltb}
use lib.ListN.{length}
use borrow.Author.Tests.{ltb-true, leb-true, eqb-true, ne_eqb, le-leb}
use Rattle.laws.specs.Fix.{pick}
use Rattle.records.specs.declared.shape.Role.{Role}
use Rattle.records.specs.declared.shape.Role.TheVariants.{Arguments, Parameters, Body}
use Rattle.records.specs.declared.shape.Row.{Row}
use Rattle.records.specs.Words.{kind_of, detail_of, word_of, records, none, A, B, C, D, E}
use Rattle.records.specs.Shapes.{shape_of, row_of, row_at}
use Rattle.records.specs.Rules.{kind_below, is_expr, list_ok, word_ok, words_ok}
use Rattle.records.specs.Good.{Good}
use Rattle.records.proofs.Good as rules

or_cases : (a b : Bool) → (a || b) ≡ true → (a ≡ true) ⊎ (b ≡ true)
or_cases true b e = inl refl
or_cases false b e = inr e

-- ---- words that refer to a record

-- word w of record r refers to a lower expression; to a lower record of kind k
abbrev pub ToExpr : List ℕ → ℕ → ℕ → Type 0
ToExpr tree r w = (w < r) × (is_expr (kind_of tree w) ≡ true)

abbrev pub ToKind : List ℕ → ℕ → ℕ → ℕ → Type 0
ToKind tree k r w = (w < r) × (kind_of tree w ≡ k)

-- none, or the list that w opens has items of the role
abbrev pub ToList : List ℕ → Role → ℕ → ℕ → Type 0
ToList tree role r w = (w ≡ none) ⊎ (list_ok tree role r w ≡ true)

module _ (tree : List ℕ) (r w : ℕ) where
  to-expr : is_expr (kind_below tree r w) ≡ true → ToExpr tree r w
  unfolding kind_below
  to-expr = go (ltb w r) refl
    where
      go : (t : Bool) → ltb w r ≡ t → is_expr (pick t (kind_of tree w) 0) ≡ true → ToExpr tree r w
      go true e h = (ltb-true w r e, h)
      go false e h = absurd (false≢true h)

  to-kind : (k : ℕ) → eqb (kind_below tree r w) (suc k) ≡ true → ToKind tree (suc k) r w
  unfolding kind_below
  to-kind k = go (ltb w r) refl
    where
      go : (t : Bool) → ltb w r ≡ t → eqb (pick t (kind_of tree w) 0) (suc k) ≡ true → ToKind tree (suc k) r w
      go true e h = (ltb-true w r e, eqb-true (kind_of tree w) (suc k) h)
      go false e h = absurd (false≢true (sym (ne_eqb 0 (suc k) (λ q. omega arith)) ∙ h))

  or-none : (b : Bool) → (eqb w none || b) ≡ true → (w ≡ none) ⊎ (b ≡ true)
  or-none b h = go (or_cases (eqb w none) b h)
    where
      go : (eqb w none ≡ true) ⊎ (b ≡ true) → (w ≡ none) ⊎ (b ≡ true)
      go (inl e) = inl (eqb-true w none e)
      go (inr e) = inr e

  or-kind : (k : ℕ) → (eqb w none || eqb (kind_below tree r w) (suc k)) ≡ true → (w ≡ none) ⊎ ToKind tree (suc k) r w
  or-kind k h = go (or-none (eqb (kind_below tree r w) (suc k)) h)
    where
      go : (w ≡ none) ⊎ (eqb (kind_below tree r w) (suc k) ≡ true) → (w ≡ none) ⊎ ToKind tree (suc k) r w
      go (inl e) = inl e
      go (inr e) = inr (to-kind k e)

module _ (tree text : List ℕ) (good : Good tree text) (r : ℕ) (h : r < records tree) where
  pub inside : r * 32 + 32 ≤ length tree
  inside = omega (arith, good.whole)

  -- the rules that the record keeps, and the parts of its form
  pub keeps : rules.KeepsRules tree text r
  keeps = rules.good_of tree text r (good.ok r h)

  formed : rules.Formed tree (length text) r
  formed = rules.formed_of tree (length text) r keeps.form

  -- a record whose row is known
  module _ (ρ : Row) (e : row_at tree r ≡ ρ) where
    pub detail_below : detail_of tree r < ρ.limit
    detail_below = subst (λ (x : Row). detail_of tree r < x.limit) e (ltb-true (detail_of tree r) (row_at tree r).limit formed.detail)

    pub words : rules.WordsGood tree (length text) r ρ
    words = rules.words_of tree (length text) r ρ (subst (λ (x : Row). words_ok tree (length text) r x ≡ true) e formed.words)

  -- the row of a record that is no type
  pub row_is_lem : (k : ℕ) → kind_of tree r ≡ k → (k ≡ 1 → ⊥) → k ≤ 25 → row_at tree r ≡ row_of k
  unfolding row_at shape_of pick
  row_is_lem k e n l = rw (e, ne_eqb k 1 n, le-leb k 25 l)

  -- ---- the kinds

  pub int_detail : kind_of tree r ≡ 2 → detail_of tree r < 4
  unfolding row_of
  int_detail e = detail_below (row_of 2) (row_is_lem 2 e (λ q. omega arith) (omega arith))

  pub float_detail : kind_of tree r ≡ 3 → detail_of tree r < 2
  unfolding row_of
  float_detail e = detail_below (row_of 3) (row_is_lem 3 e (λ q. omega arith) (omega arith))

  pub str-a : kind_of tree r ≡ 4 → word_of tree r A + word_of tree r B ≤ length text
  unfolding row_of word_ok
  str-a e = leb-true (word_of tree r A + word_of tree r B) (length text) (words (row_of 4) (row_is_lem 4 e (λ q. omega arith) (omega arith))).a

  pub bool_detail : kind_of tree r ≡ 5 → detail_of tree r < 2
  unfolding row_of
  bool_detail e = detail_below (row_of 5) (row_is_lem 5 e (λ q. omega arith) (omega arith))

  pub name-a : kind_of tree r ≡ 6 → word_of tree r A + word_of tree r B ≤ length text
  unfolding row_of word_ok
  name-a e = leb-true (word_of tree r A + word_of tree r B) (length text) (words (row_of 6) (row_is_lem 6 e (λ q. omega arith) (omega arith))).a

  pub size_of_a : kind_of tree r ≡ 8 → ToKind tree 1 r (word_of tree r A)
  unfolding row_of word_ok
  size_of_a e = to-kind tree r (word_of tree r A) 0 (words (row_of 8) (row_is_lem 8 e (λ q. omega arith) (omega arith))).a

  pub unary_detail : kind_of tree r ≡ 9 → detail_of tree r < 3
  unfolding row_of
  unary_detail e = detail_below (row_of 9) (row_is_lem 9 e (λ q. omega arith) (omega arith))

  pub unary-a : kind_of tree r ≡ 9 → ToExpr tree r (word_of tree r A)
  unfolding row_of word_ok
  unary-a e = to-expr tree r (word_of tree r A) (words (row_of 9) (row_is_lem 9 e (λ q. omega arith) (omega arith))).a

  pub binary_detail : kind_of tree r ≡ 10 → detail_of tree r < 18
  unfolding row_of
  binary_detail e = detail_below (row_of 10) (row_is_lem 10 e (λ q. omega arith) (omega arith))

  pub binary-a : kind_of tree r ≡ 10 → ToExpr tree r (word_of tree r A)
  unfolding row_of word_ok
  binary-a e = to-expr tree r (word_of tree r A) (words (row_of 10) (row_is_lem 10 e (λ q. omega arith) (omega arith))).a

  pub binary-b : kind_of tree r ≡ 10 → ToExpr tree r (word_of tree r B)
  unfolding row_of word_ok
  binary-b e = to-expr tree r (word_of tree r B) (words (row_of 10) (row_is_lem 10 e (λ q. omega arith) (omega arith))).b

  pub call-a : kind_of tree r ≡ 11 → word_of tree r A + word_of tree r B ≤ length text
  unfolding row_of word_ok
  call-a e = leb-true (word_of tree r A + word_of tree r B) (length text) (words (row_of 11) (row_is_lem 11 e (λ q. omega arith) (omega arith))).a

  pub call-c : kind_of tree r ≡ 11 → ToList tree Arguments r (word_of tree r C)
  unfolding row_of word_ok
  call-c e = or-none tree r (word_of tree r C) (list_ok tree Arguments r (word_of tree r C)) (words (row_of 11) (row_is_lem 11 e (λ q. omega arith) (omega arith))).c

  pub list-a : kind_of tree r ≡ 12 → word_of tree r A < r
  unfolding row_of word_ok
  list-a e = ltb-true (word_of tree r A) r (words (row_of 12) (row_is_lem 12 e (λ q. omega arith) (omega arith))).a

  pub list-b : kind_of tree r ≡ 12 → (word_of tree r B ≡ none) ⊎ ToKind tree 12 r (word_of tree r B)
  unfolding row_of word_ok
  list-b e = or-kind tree r (word_of tree r B) 11 (words (row_of 12) (row_is_lem 12 e (λ q. omega arith) (omega arith))).b

  pub value-a : kind_of tree r ≡ 13 → ToExpr tree r (word_of tree r A)
  unfolding row_of word_ok
  value-a e = to-expr tree r (word_of tree r A) (words (row_of 13) (row_is_lem 13 e (λ q. omega arith) (omega arith))).a

  pub type_argument_a : kind_of tree r ≡ 14 → ToKind tree 1 r (word_of tree r A)
  unfolding row_of word_ok
  type_argument_a e = to-kind tree r (word_of tree r A) 0 (words (row_of 14) (row_is_lem 14 e (λ q. omega arith) (omega arith))).a

  pub declare-a : kind_of tree r ≡ 15 → word_of tree r A + word_of tree r B ≤ length text
  unfolding row_of word_ok
  declare-a e = leb-true (word_of tree r A + word_of tree r B) (length text) (words (row_of 15) (row_is_lem 15 e (λ q. omega arith) (omega arith))).a

  pub declare-c : kind_of tree r ≡ 15 → ToKind tree 1 r (word_of tree r C)
  unfolding row_of word_ok
  declare-c e = to-kind tree r (word_of tree r C) 0 (words (row_of 15) (row_is_lem 15 e (λ q. omega arith) (omega arith))).c

  pub init_detail : kind_of tree r ≡ 16 → detail_of tree r < 2
  unfolding row_of
  init_detail e = detail_below (row_of 16) (row_is_lem 16 e (λ q. omega arith) (omega arith))

  pub init_a : kind_of tree r ≡ 16 → word_of tree r A + word_of tree r B ≤ length text
  unfolding row_of word_ok
  init_a e = leb-true (word_of tree r A + word_of tree r B) (length text) (words (row_of 16) (row_is_lem 16 e (λ q. omega arith) (omega arith))).a

  pub init_c : kind_of tree r ≡ 16 → ToExpr tree r (word_of tree r C)
  unfolding row_of word_ok
  init_c e = to-expr tree r (word_of tree r C) (words (row_of 16) (row_is_lem 16 e (λ q. omega arith) (omega arith))).c

  pub return-a : kind_of tree r ≡ 17 → ToExpr tree r (word_of tree r A)
  unfolding row_of word_ok
  return-a e = to-expr tree r (word_of tree r A) (words (row_of 17) (row_is_lem 17 e (λ q. omega arith) (omega arith))).a

  pub call_statement-a : kind_of tree r ≡ 18 → ToExpr tree r (word_of tree r A)
  unfolding row_of word_ok
  call_statement-a e = to-expr tree r (word_of tree r A) (words (row_of 18) (row_is_lem 18 e (λ q. omega arith) (omega arith))).a

  pub if_detail : kind_of tree r ≡ 19 → detail_of tree r < 2
  unfolding row_of
  if_detail e = detail_below (row_of 19) (row_is_lem 19 e (λ q. omega arith) (omega arith))

  pub if-a : kind_of tree r ≡ 19 → ToExpr tree r (word_of tree r A)
  unfolding row_of word_ok
  if-a e = to-expr tree r (word_of tree r A) (words (row_of 19) (row_is_lem 19 e (λ q. omega arith) (omega arith))).a

  pub if-b : kind_of tree r ≡ 19 → ToList tree Body r (word_of tree r B)
  unfolding row_of word_ok
  if-b e = or-none tree r (word_of tree r B) (list_ok tree Body r (word_of tree r B)) (words (row_of 19) (row_is_lem 19 e (λ q. omega arith) (omega arith))).b

  pub if-c : kind_of tree r ≡ 19 → ToList tree Body r (word_of tree r C)
  unfolding row_of word_ok
  if-c e = or-none tree r (word_of tree r C) (list_ok tree Body r (word_of tree r C)) (words (row_of 19) (row_is_lem 19 e (λ q. omega arith) (omega arith))).c

  pub while_a : kind_of tree r ≡ 20 → ToExpr tree r (word_of tree r A)
  unfolding row_of word_ok
  while_a e = to-expr tree r (word_of tree r A) (words (row_of 20) (row_is_lem 20 e (λ q. omega arith) (omega arith))).a

  pub while_b : kind_of tree r ≡ 20 → ToList tree Body r (word_of tree r B)
  unfolding row_of word_ok
  while_b e = or-none tree r (word_of tree r B) (list_ok tree Body r (word_of tree r B)) (words (row_of 20) (row_is_lem 20 e (λ q. omega arith) (omega arith))).b

  pub for_a : kind_of tree r ≡ 21 → ToKind tree 24 r (word_of tree r A)
  unfolding row_of word_ok
  for_a e = to-kind tree r (word_of tree r A) 23 (words (row_of 21) (row_is_lem 21 e (λ q. omega arith) (omega arith))).a

  pub for_b : kind_of tree r ≡ 21 → ToExpr tree r (word_of tree r B)
  unfolding row_of word_ok
  for_b e = to-expr tree r (word_of tree r B) (words (row_of 21) (row_is_lem 21 e (λ q. omega arith) (omega arith))).b

  pub for_c : kind_of tree r ≡ 21 → ToExpr tree r (word_of tree r C)
  unfolding row_of word_ok
  for_c e = to-expr tree r (word_of tree r C) (words (row_of 21) (row_is_lem 21 e (λ q. omega arith) (omega arith))).c

  pub for_d : kind_of tree r ≡ 21 → ToList tree Body r (word_of tree r D)
  unfolding row_of word_ok
  for_d e = or-none tree r (word_of tree r D) (list_ok tree Body r (word_of tree r D)) (words (row_of 21) (row_is_lem 21 e (λ q. omega arith) (omega arith))).d

  pub variable-a : kind_of tree r ≡ 24 → word_of tree r A + word_of tree r B ≤ length text
  unfolding row_of word_ok
  variable-a e = leb-true (word_of tree r A + word_of tree r B) (length text) (words (row_of 24) (row_is_lem 24 e (λ q. omega arith) (omega arith))).a

  pub variable-c : kind_of tree r ≡ 24 → (word_of tree r C ≡ none) ⊎ ToKind tree 1 r (word_of tree r C)
  unfolding row_of word_ok
  variable-c e = or-kind tree r (word_of tree r C) 0 (words (row_of 24) (row_is_lem 24 e (λ q. omega arith) (omega arith))).c

  pub function_detail : kind_of tree r ≡ 25 → detail_of tree r < 8
  unfolding row_of
  function_detail e = detail_below (row_of 25) (row_is_lem 25 e (λ q. omega arith) (omega arith))

  pub function-a : kind_of tree r ≡ 25 → ToKind tree 6 r (word_of tree r A)
  unfolding row_of word_ok
  function-a e = to-kind tree r (word_of tree r A) 5 (words (row_of 25) (row_is_lem 25 e (λ q. omega arith) (omega arith))).a

  pub function-b : kind_of tree r ≡ 25 → ToKind tree 6 r (word_of tree r B)
  unfolding row_of word_ok
  function-b e = to-kind tree r (word_of tree r B) 5 (words (row_of 25) (row_is_lem 25 e (λ q. omega arith) (omega arith))).b

  pub function-c : kind_of tree r ≡ 25 → ToList tree Parameters r (word_of tree r C)
  unfolding row_of word_ok
  function-c e = or-none tree r (word_of tree r C) (list_ok tree Parameters r (word_of tree r C)) (words (row_of 25) (row_is_lem 25 e (λ q. omega arith) (omega arith))).c

  pub function-d : kind_of tree r ≡ 25 → (word_of tree r D ≡ none) ⊎ ToKind tree 1 r (word_of tree r D)
  unfolding row_of word_ok
  function-d e = or-kind tree r (word_of tree r D) 0 (words (row_of 25) (row_is_lem 25 e (λ q. omega arith) (omega arith))).d

  pub function-e : kind_of tree r ≡ 25 → ToList tree Body r (word_of tree r E)
  unfolding row_of word_ok
  function-e e = or-none tree r (word_of tree r E) (list_ok tree Body r (word_of tree r E)) (words (row_of 25) (row_is_lem 25 e (λ q. omega arith) (omega arith))).e
