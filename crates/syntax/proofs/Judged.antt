-- In a tree whose records all keep the rules, each record is complete and referred to at most once: what the count of records asks for.
-- By kind: a record's row says which words refer to an expression, a variable, a name, and which words refer at all. Assumes nothing.
use mathlib.Core.Path.{◌≡◌, refl, sym, ◌∙◌}
use mathlib.Core.Bool.{Bool, true, false, ◌&&◌, ◌||◌, false≢true}
use mathlib.Core.List.{List, [], ◌∷◌}
use Prim.Native.Nat.{ℕ, zero, suc, ◌+◌, ◌-◌, ◌≤◌, ◌<◌}
use native.Mathlib.Omega.{arith}
use lib.Dec.{eqb, leb, ltb}
use lib.ListN.{length, get_or}
use borrow.Author.Tests.{ltb-true, leb-true, eqb-true, ne_eqb}
use Rattle.laws.specs.Fix.{pick}
use Rattle.laws.specs.Below.{sum_below}
use Rattle.laws.proofs.Tests.{and_left, and_right}
use Rattle.records.specs.Words.{kind_of, detail_of, pad_of, word_of, records, A, B, C, D, E}
use Rattle.records.specs.declared.shape.Row.{Row}
use Rattle.records.specs.Shapes.{shape_of, row_of, row_at}
use Rattle.records.specs.Rules.{kind_below, is_expr, word_ok, words_ok, form_ok, refers_to, refers_from, references, otherwise_marked, body_marked, is_first_type, types_first, type_is_new, referred_once, record_ok}
use Rattle.syntax.specs.Decode.{child, node}
use Rattle.laws.proofs.Sums.{sum-le, hit}
use Rattle.syntax.proofs.Held.{AnExpr, AVariable, Leads, nowhere, leads_by_kind, Led, Complete, Once, mentions_by, mentions, expr-below, variable-below}

or_third : (a b c : Bool) → (a || b || c) ≡ true → a ≡ false → b ≡ false → c ≡ true
or_third true b c e f g = absurd (false≢true (sym f))
or_third false true c e f g = absurd (false≢true (sym g))
or_third false false c e f g = e

seven-first : (a b c d e f g : Bool) → (a && b && c && d && e && f && g) ≡ true → a ≡ true
seven-first a b c d e f g h = and_left a b (and_left (a && b) c (and_left (a && b && c) d (and_left (a && b && c && d) e
    (and_left (a && b && c && d && e) f (and_left (a && b && c && d && e && f) g h)))))

-- a lower record of a kind that passes a test which 0 does not pass
lower : (p : ℕ → Bool) → p 0 ≡ false → (b : Bool) (k : ℕ) → p (pick b k 0) ≡ true → (b ≡ true) × (p k ≡ true)
unfolding pick
lower p z true k e = (refl, e)
lower p z false k e = absurd (false≢true (sym z ∙ e))

module _ (tree text : List ℕ) where
  -- the words that must lead to something, by their roles
  kind-word : (p : ℕ → Bool) → p 0 ≡ false → ((k : ℕ) → p k ≡ true → (2 ≤ k) × (k ≤ 11)) → (r i : ℕ) → p (kind_below tree r (word_of tree r i)) ≡ true
      → AnExpr (child tree text (node tree text) r i)
  unfolding kind_below
  kind-word p z h r i e =
      let l = lower p z (ltb (word_of tree r i) r) (kind_of tree (word_of tree r i)) e in
      let b = h (kind_of tree (word_of tree r i)) l.1 in
      expr-below tree text r i (kind_of tree (word_of tree r i) - 2) (ltb-true (word_of tree r i) r l.0) (omega (arith, b)) (omega (arith, b))

  expr-word : (r i : ℕ) → is_expr (kind_below tree r (word_of tree r i)) ≡ true → AnExpr (child tree text (node tree text) r i)
  expr-word = kind-word is_expr refl (λ k e. omega (arith, leb-true 2 k (and_left (leb 2 k) (leb k 11) e), leb-true k 11 (and_right (leb 2 k) (leb k 11) e)))

  name-word : (r i : ℕ) → eqb (kind_below tree r (word_of tree r i)) 6 ≡ true → AnExpr (child tree text (node tree text) r i)
  name-word = kind-word (λ k. eqb k 6) refl (λ k e. omega (arith, eqb-true k 6 e))

  variable-word : (r i : ℕ) → eqb (kind_below tree r (word_of tree r i)) 24 ≡ true → AVariable (child tree text (node tree text) r i)
  unfolding kind_below
  variable-word r i e =
      let l = lower (λ k. eqb k 24) refl (ltb (word_of tree r i) r) (kind_of tree (word_of tree r i)) e in
      variable-below tree text r i (ltb-true (word_of tree r i) r l.0) (eqb-true (kind_of tree (word_of tree r i)) 24 l.1)

  module _ (r : ℕ) (ok : words_ok tree (length text) r (row_at tree r) ≡ true) where
    -- the five words' own tests, once the kind is known
    at-kind : (k : ℕ) → kind_of tree r ≡ k → words_ok tree (length text) r (row_of (shape_of k (detail_of tree r))) ≡ true
    unfolding row_at
    at-kind k e = rw e at ok

    abbrev wa : Row → Bool
    wa row = word_ok tree (length text) r row.a (word_of tree r A) (word_of tree r B)

    abbrev wb : Row → Bool
    wb row = word_ok tree (length text) r row.b (word_of tree r B) (word_of tree r C)

    abbrev wc : Row → Bool
    wc row = word_ok tree (length text) r row.c (word_of tree r C) (word_of tree r D)

    abbrev wd : Row → Bool
    wd row = word_ok tree (length text) r row.d (word_of tree r D) (word_of tree r E)

    abbrev we : Row → Bool
    we row = word_ok tree (length text) r row.e (word_of tree r E) 0

    first_three : (row : Row) → words_ok tree (length text) r row ≡ true → (wa row && wb row && wc row) ≡ true
    unfolding words_ok
    first_three row e =
        and_left (wa row && wb row && wc row) (wd row) (and_left (wa row && wb row && wc row && wd row) (we row) e)

    word-a : (row : Row) → words_ok tree (length text) r row ≡ true → wa row ≡ true
    word-a row e = and_left (wa row) (wb row) (and_left (wa row && wb row) (wc row) (first_three row e))

    word-b : (row : Row) → words_ok tree (length text) r row ≡ true → wb row ≡ true
    word-b row e = and_right (wa row) (wb row) (and_left (wa row && wb row) (wc row) (first_three row e))

    word-c : (row : Row) → words_ok tree (length text) r row ≡ true → wc row ≡ true
    word-c row e = and_right (wa row && wb row) (wc row) (first_three row e)

    unary_must : kind_of tree r ≡ 9 → Led tree text (node tree text) r (get_or leads_by_kind 9 nowhere)
    unfolding words_ok word_ok row_of shape_of pick
    unary_must e = ((expr-word r A (word-a (row_of (shape_of 9 (detail_of tree r))) (at-kind 9 e)), tt), tt)

    binary_must : kind_of tree r ≡ 10 → Led tree text (node tree text) r (get_or leads_by_kind 10 nowhere)
    unfolding words_ok word_ok row_of shape_of pick
    binary_must e = ((expr-word r A (word-a (row_of (shape_of 10 (detail_of tree r))) (at-kind 10 e)), (expr-word r B (word-b (row_of (shape_of 10 (detail_of tree r))) (at-kind 10 e)), tt)), tt)

    value_must : kind_of tree r ≡ 13 → Led tree text (node tree text) r (get_or leads_by_kind 13 nowhere)
    unfolding words_ok word_ok row_of shape_of pick
    value_must e = ((expr-word r A (word-a (row_of (shape_of 13 (detail_of tree r))) (at-kind 13 e)), tt), tt)

    init_must : kind_of tree r ≡ 16 → Led tree text (node tree text) r (get_or leads_by_kind 16 nowhere)
    unfolding words_ok word_ok row_of shape_of pick
    init_must e = ((expr-word r C (word-c (row_of (shape_of 16 (detail_of tree r))) (at-kind 16 e)), tt), tt)

    return_must : kind_of tree r ≡ 17 → Led tree text (node tree text) r (get_or leads_by_kind 17 nowhere)
    unfolding words_ok word_ok row_of shape_of pick
    return_must e = ((expr-word r A (word-a (row_of (shape_of 17 (detail_of tree r))) (at-kind 17 e)), tt), tt)

    call_statement_must : kind_of tree r ≡ 18 → Led tree text (node tree text) r (get_or leads_by_kind 18 nowhere)
    unfolding words_ok word_ok row_of shape_of pick
    call_statement_must e = ((expr-word r A (word-a (row_of (shape_of 18 (detail_of tree r))) (at-kind 18 e)), tt), tt)

    if_must : kind_of tree r ≡ 19 → Led tree text (node tree text) r (get_or leads_by_kind 19 nowhere)
    unfolding words_ok word_ok row_of shape_of pick
    if_must e = ((expr-word r A (word-a (row_of (shape_of 19 (detail_of tree r))) (at-kind 19 e)), tt), tt)

    while_must : kind_of tree r ≡ 20 → Led tree text (node tree text) r (get_or leads_by_kind 20 nowhere)
    unfolding words_ok word_ok row_of shape_of pick
    while_must e = ((expr-word r A (word-a (row_of (shape_of 20 (detail_of tree r))) (at-kind 20 e)), tt), tt)

    for_must : kind_of tree r ≡ 21 → Led tree text (node tree text) r (get_or leads_by_kind 21 nowhere)
    unfolding words_ok word_ok row_of shape_of pick
    for_must e = ((expr-word r B (word-b (row_of (shape_of 21 (detail_of tree r))) (at-kind 21 e)), (expr-word r C (word-c (row_of (shape_of 21 (detail_of tree r))) (at-kind 21 e)), tt)), (variable-word r A (word-a (row_of (shape_of 21 (detail_of tree r))) (at-kind 21 e)), tt))

    function_must : kind_of tree r ≡ 25 → Led tree text (node tree text) r (get_or leads_by_kind 25 nowhere)
    unfolding words_ok word_ok row_of shape_of pick
    function_must e = ((name-word r A (word-a (row_of (shape_of 25 (detail_of tree r))) (at-kind 25 e)), (name-word r B (word-b (row_of (shape_of 25 (detail_of tree r))) (at-kind 25 e)), tt)), tt)

    AllMust : ℕ → List Leads → Type 0
    AllMust i [] = Unit {0}
    AllMust i (w ∷ ws) = (kind_of tree r ≡ i → Led tree text (node tree text) r w) × AllMust (suc i) ws

    must_at : (i : ℕ) (ws : List Leads) → AllMust i ws → (k : ℕ) → kind_of tree r ≡ i + k → Led tree text (node tree text) r (get_or ws k nowhere)
    unfolding AllMust
    must_at i [] a k e = (tt, tt)
    must_at i (w ∷ ws) a zero e = a.0 (e ∙ omega arith)
    must_at i (w ∷ ws) a (suc k) e = must_at (suc i) ws a.1 k (e ∙ omega arith)

    all_must : AllMust 0 leads_by_kind
    unfolding AllMust
    all_must = ((λ e. (tt, tt)), ((λ e. (tt, tt)), ((λ e. (tt, tt)), ((λ e. (tt, tt)), ((λ e. (tt, tt)), ((λ e. (tt, tt)), ((λ e. (tt, tt)), ((λ e. (tt, tt)), ((λ e. (tt, tt)), (unary_must, (binary_must, ((λ e. (tt, tt)), ((λ e. (tt, tt)), (value_must, ((λ e. (tt, tt)), ((λ e. (tt, tt)), (init_must, (return_must, (call_statement_must, (if_must, (while_must, (for_must, ((λ e. (tt, tt)), ((λ e. (tt, tt)), ((λ e. (tt, tt)), (function_must, tt))))))))))))))))))))))))))

    complete : Complete tree text r
    complete = must_at 0 leads_by_kind all_must (kind_of tree r) (sym (omega arith))

  -- ---- how often a record refers: its row counts each word that leads to a record of its own

  unary-counts : (r j : ℕ) → kind_of tree r ≡ 9 → mentions_by tree text r (get_or leads_by_kind 9 nowhere).all j ≤ refers_from tree j r
  unfolding mentions_by hit refers_from refers_to row_at row_of shape_of pick
  unary-counts r j e = rw e (omega arith)

  binary-counts : (r j : ℕ) → kind_of tree r ≡ 10 → mentions_by tree text r (get_or leads_by_kind 10 nowhere).all j ≤ refers_from tree j r
  unfolding mentions_by hit refers_from refers_to row_at row_of shape_of pick
  binary-counts r j e = rw e (omega arith)

  call-counts : (r j : ℕ) → kind_of tree r ≡ 11 → mentions_by tree text r (get_or leads_by_kind 11 nowhere).all j ≤ refers_from tree j r
  unfolding mentions_by hit refers_from refers_to row_at row_of shape_of pick
  call-counts r j e = rw e (omega arith)

  list_counts : (r j : ℕ) → kind_of tree r ≡ 12 → mentions_by tree text r (get_or leads_by_kind 12 nowhere).all j ≤ refers_from tree j r
  unfolding mentions_by hit refers_from refers_to row_at row_of shape_of pick
  list_counts r j e = rw e (omega arith)

  value-counts : (r j : ℕ) → kind_of tree r ≡ 13 → mentions_by tree text r (get_or leads_by_kind 13 nowhere).all j ≤ refers_from tree j r
  unfolding mentions_by hit refers_from refers_to row_at row_of shape_of pick
  value-counts r j e = rw e (omega arith)

  init_counts : (r j : ℕ) → kind_of tree r ≡ 16 → mentions_by tree text r (get_or leads_by_kind 16 nowhere).all j ≤ refers_from tree j r
  unfolding mentions_by hit refers_from refers_to row_at row_of shape_of pick
  init_counts r j e = rw e (omega arith)

  return-counts : (r j : ℕ) → kind_of tree r ≡ 17 → mentions_by tree text r (get_or leads_by_kind 17 nowhere).all j ≤ refers_from tree j r
  unfolding mentions_by hit refers_from refers_to row_at row_of shape_of pick
  return-counts r j e = rw e (omega arith)

  call_statement-counts : (r j : ℕ) → kind_of tree r ≡ 18 → mentions_by tree text r (get_or leads_by_kind 18 nowhere).all j ≤ refers_from tree j r
  unfolding mentions_by hit refers_from refers_to row_at row_of shape_of pick
  call_statement-counts r j e = rw e (omega arith)

  if-counts : (r j : ℕ) → kind_of tree r ≡ 19 → mentions_by tree text r (get_or leads_by_kind 19 nowhere).all j ≤ refers_from tree j r
  unfolding mentions_by hit refers_from refers_to row_at row_of shape_of pick
  if-counts r j e = rw e (omega arith)

  while_counts : (r j : ℕ) → kind_of tree r ≡ 20 → mentions_by tree text r (get_or leads_by_kind 20 nowhere).all j ≤ refers_from tree j r
  unfolding mentions_by hit refers_from refers_to row_at row_of shape_of pick
  while_counts r j e = rw e (omega arith)

  for_counts : (r j : ℕ) → kind_of tree r ≡ 21 → mentions_by tree text r (get_or leads_by_kind 21 nowhere).all j ≤ refers_from tree j r
  unfolding mentions_by hit refers_from refers_to row_at row_of shape_of pick
  for_counts r j e = rw e (omega arith)

  function-counts : (r j : ℕ) → kind_of tree r ≡ 25 → mentions_by tree text r (get_or leads_by_kind 25 nowhere).all j ≤ refers_from tree j r
  unfolding mentions_by hit refers_from refers_to row_at row_of shape_of pick
  function-counts r j e = rw e (omega arith)

  module _ (r j : ℕ) where
    AllCount : ℕ → List Leads → Type 0
    AllCount i [] = Unit {0}
    AllCount i (w ∷ ws) = (kind_of tree r ≡ i → mentions_by tree text r w.all j ≤ refers_from tree j r) × AllCount (suc i) ws

    nowhere_counts : mentions_by tree text r [] j ≤ refers_from tree j r
    unfolding mentions_by
    nowhere_counts = omega arith

    counts-at : (i : ℕ) (ws : List Leads) → AllCount i ws → (k : ℕ) → kind_of tree r ≡ i + k → mentions_by tree text r (get_or ws k nowhere).all j ≤ refers_from tree j r
    unfolding AllCount
    counts-at i [] a k e = nowhere_counts
    counts-at i (w ∷ ws) a zero e = a.0 (e ∙ omega arith)
    counts-at i (w ∷ ws) a (suc k) e = counts-at (suc i) ws a.1 k (e ∙ omega arith)

    all-counts : AllCount 0 leads_by_kind
    unfolding AllCount
    all-counts = ((λ e. nowhere_counts), ((λ e. nowhere_counts), ((λ e. nowhere_counts), ((λ e. nowhere_counts), ((λ e. nowhere_counts), ((λ e. nowhere_counts), ((λ e. nowhere_counts), ((λ e. nowhere_counts), ((λ e. nowhere_counts), (unary-counts r j, (binary-counts r j, (call-counts r j, (list_counts r j, (value-counts r j, ((λ e. nowhere_counts), ((λ e. nowhere_counts), (init_counts r j, (return-counts r j, (call_statement-counts r j, (if-counts r j, (while_counts r j, (for_counts r j, ((λ e. nowhere_counts), ((λ e. nowhere_counts), ((λ e. nowhere_counts), (function-counts r j, tt))))))))))))))))))))))))))

    counted : mentions tree text r j ≤ refers_from tree j r
    unfolding mentions
    counted = counts-at 0 leads_by_kind all-counts (kind_of tree r) (sym (omega arith))

  once : (j : ℕ) → referred_once tree j ≡ true → Once tree text (records tree) j
  unfolding referred_once references
  once j e a b =
      let q = eqb-true (sum_below (records tree) (refers_from tree j)) 1
      (or_third (eqb (kind_of tree j) 1) (eqb (kind_of tree j) 25) _ e (ne_eqb (kind_of tree j) 1 a) (ne_eqb (kind_of tree j) 25 b)) in
      omega (arith, q, sum-le (records tree) (λ r. mentions tree text r j) (refers_from tree j) (λ r h. counted r j))

  -- THE LINK: records that keep the rules are complete and referred to at most once
  module _ (ok : (r : ℕ) → r < records tree → record_ok tree text r ≡ true) where
    pub judged_complete : (r : ℕ) → r < records tree → Complete tree text r
    unfolding record_ok form_ok
    judged_complete r h = complete r (and_right (eqb (pad_of tree r) 0 && ltb (detail_of tree r) (row_at tree r).limit) (words_ok tree (length text) r (row_at tree r))
        (seven-first (form_ok tree (length text) r) (otherwise_marked tree r) (body_marked tree r) (is_first_type tree r) (types_first tree r) (type_is_new tree text r)
        (referred_once tree r) (ok r h)))

    pub judged-once : (j : ℕ) → j < records tree → Once tree text (records tree) j
    unfolding record_ok
    judged-once j h = once j (and_right (form_ok tree (length text) j && otherwise_marked tree j && body_marked tree j && is_first_type tree j && types_first tree j
        && type_is_new tree text j) (referred_once tree j) (ok j h))
