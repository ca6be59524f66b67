-- The records of an expression: its own and those of its parts, which have lower numbers.
-- By the cases of nodes, and by induction on a bound of the numbers. Assumes nothing.
use mathlib.Core.Path.{◌≡◌, refl, ap, ◌∙◌}
use mathlib.Core.Logic.{◌⊎◌, inl, inr}
use mathlib.Core.Bool.{false, ◌&&◌}
use mathlib.Core.List.{List, [], ◌∷◌, ◌++◌}
use Prim.Native.Nat.{ℕ, zero, suc, ◌≤◌, ◌<◌}
use native.Mathlib.Omega.{arith}
use lib.Dec.{eqb, leb, ltb}
use lib.ListN.{get_or}
use borrow.Author.Tests.{leb-true, ltb-true, ltb-false, eqb-true, eqb-false, ne_eqb}
use Rattle.laws.specs.Different.{has}
use Rattle.laws.proofs.Tests.{tested, and_left, and_right}
use Rattle.laws.proofs.DifferentLaws.{has-append}
use Rattle.records.specs.declared.shape.Role.TheVariants.{Arguments}
use Rattle.records.specs.Words.{kind_of, detail_of, word_of, records, none, A, B, C}
use Rattle.records.specs.Rules.{twelve_details, twelve_inner}
use Rattle.records.specs.Good.{Good}
use Rattle.records.proofs.GoodLaws.{keeps, unary-a, binary-a, binary-b, call-c}
use Rattle.records.proofs.TypeLaws.{first_twelve}
use Rattle.syntax.specs.Syntax.{Expr, EInt, EFloat, EStr, EBool, EName, ENull, ESizeOf, EUnary, EBinary, ECall, place}
use Rattle.syntax.specs.Exprs.{exprs, args_exprs, parts_exprs}
use Rattle.syntax.specs.Places.{IsExpr, IsKind, ArgsAt, expr_at, args_at}
use Rattle.syntax.proofs.Lists.{Cell, cell-is, args_end, list-lower, list_at_lem, value-item, value-lower, value-inside, value-kind, type-item}
use Rattle.syntax.proofs.Records.{expr_int, expr_float, expr-str, expr-bool, expr-name, expr_null, expr_size_of, expr-unary, expr-binary, expr-call, expr-place}
use Rattle.types.proofs.FromGood.{is_expr_lem}

-- its own record, and its parts'
pub exprs_parts : (x : Expr) → exprs x ≡ place x ∷ parts_exprs x
unfolding exprs parts_exprs place
exprs_parts (EInt r v s u) = refl
exprs_parts (EFloat r b s) = refl
exprs_parts (EStr r o n t) = refl
exprs_parts (EBool r b) = refl
exprs_parts (EName r t) = refl
exprs_parts (ENull r) = refl
exprs_parts (ESizeOf r y) = refl
exprs_parts (EUnary r o a) = refl
exprs_parts (EBinary r o a b) = refl
exprs_parts (ECall r v l) = refl

module _ (tree text : List ℕ) (good : Good tree text) where
  pub expr-low : (e : ℕ) → IsExpr tree e → e < records tree
  expr-low e x = omega (arith, x.inside)

  -- the twelve first records are types, so that no expression is record 0
  pub first_kind : (r : ℕ) → r < records tree → r < 12 → kind_of tree r ≡ 1
  first_kind r h l =
      let K = eqb (kind_of tree r) 1 in
      let D = eqb (detail_of tree r) (get_or twelve_details r 0) in
      let W = eqb (word_of tree r A) (get_or twelve_inner r 0) in
      eqb-true (kind_of tree r) 1 (and_left K D (and_left (K && D) W (first_twelve tree r l ∙ (keeps tree text good r h).first)))

  pub expr-behind : (e : ℕ) → IsExpr tree e → 0 < e
  expr-behind e x = tested (ltb 0 e) (λ q. ltb-true 0 e q) (λ q. absurd (omega (arith, first_kind e (expr-low e x) (omega (arith, ltb-false 0 e q)), leb-true 2 (kind_of tree e) (and_left (leb 2 (kind_of tree e)) (leb (kind_of tree e) 11) x.expression))))

  -- an expression's record is its place
  pub place_is : (e : ℕ) → IsExpr tree e → place (expr_at tree text e) ≡ e
  place_is e x = expr-place tree text good e (expr-low e x) x.expression

  -- ---- a call's arguments

  module _ (r : ℕ) (k : IsKind tree 11 r) where
    pub call-list : ArgsAt tree (word_of tree r C)
    call-list = list_at_lem tree text good Arguments r (word_of tree r C) k.below (call-c tree text good r k.below k.kind)

    pub call-low : (word_of tree r C ≡ none) ⊎ (word_of tree r C < r)
    call-low = list-lower tree text good Arguments r (word_of tree r C) (call-c tree text good r k.below k.kind)

  -- ---- the parts by kind

  module _ (e : ℕ) (x : IsExpr tree e) where
    pub own-exprs : exprs (expr_at tree text e) ≡ e ∷ parts_exprs (expr_at tree text e)
    own-exprs = exprs_parts (expr_at tree text e) ∙ ap (λ (z : ℕ). z ∷ parts_exprs (expr_at tree text e)) (place_is e x)

    pub leaf_parts : kind_of tree e ≤ 8 → parts_exprs (expr_at tree text e) ≡ []
    unfolding parts_exprs
    leaf_parts to =
        let k = kind_of tree e in
        let from : 2 ≤ k = leb-true 2 k (and_left (leb 2 k) (leb k 11) x.expression) in
        tested (ltb k 3) (λ q. rw (expr_int tree text e (omega (arith, ltb-true k 3 q))))
        λ n₃. tested (ltb k 4) (λ q. rw (expr_float tree text e (omega (arith, ltb-true k 4 q, ltb-false k 3 n₃))))
        λ n₄. tested (ltb k 5) (λ q. rw (expr-str tree text e (omega (arith, ltb-true k 5 q, ltb-false k 4 n₄))))
        λ n₅. tested (ltb k 6) (λ q. rw (expr-bool tree text e (omega (arith, ltb-true k 6 q, ltb-false k 5 n₅))))
        λ n₆. tested (ltb k 7) (λ q. rw (expr-name tree text e (omega (arith, ltb-true k 7 q, ltb-false k 6 n₆))))
        λ n₇. tested (ltb k 8) (λ q. rw (expr_null tree text e (omega (arith, ltb-true k 8 q, ltb-false k 7 n₇))))
        λ n₈. rw (expr_size_of tree text e (omega (arith, ltb-false k 8 n₈)))

    pub unary_parts : kind_of tree e ≡ 9 → parts_exprs (expr_at tree text e) ≡ exprs (expr_at tree text (word_of tree e A))
    unfolding parts_exprs
    unary_parts k = rw (expr-unary tree text good e (expr-low e x) k)

    pub binary_parts : kind_of tree e ≡ 10
        → parts_exprs (expr_at tree text e) ≡ exprs (expr_at tree text (word_of tree e A)) ++ exprs (expr_at tree text (word_of tree e B))
    unfolding parts_exprs
    binary_parts k = rw (expr-binary tree text good e (expr-low e x) k)

    pub call_parts : kind_of tree e ≡ 11 → parts_exprs (expr_at tree text e) ≡ args_exprs (args_at tree text (word_of tree e C))
    unfolding parts_exprs
    call_parts k = rw (expr-call tree text good e (expr-low e x) k)

  -- ---- no record of an expression is above its own

  abbrev Lower : ℕ → Type 0
  Lower e = (r : ℕ) → e < r → has r (exprs (expr_at tree text e)) ≡ false

  abbrev LowerTo : ℕ → Type 0
  LowerTo m = (e : ℕ) → e < m → IsExpr tree e → Lower e

  -- of arguments from cell w on, where it holds of the rest and of the expressions below m
  one_lower : (w : ℕ) → Cell tree text good Arguments w → (m : ℕ) → LowerTo m → w ≤ m → (r : ℕ) → w ≤ r
      → has r (args_exprs (args_at tree text (word_of tree w B))) ≡ false → has r (args_exprs (args_at tree text w)) ≡ false
  unfolding args_exprs
  one_lower w here m all h r g rest = tested (eqb (kind_of tree (word_of tree w A)) 13)
      (λ q. a-value (eqb-true (kind_of tree (word_of tree w A)) 13 q))
      (λ q. a_type (eqb-false (kind_of tree (word_of tree w A)) 13 q))
    where
      a-value : kind_of tree (word_of tree w A) ≡ 13 → has r (args_exprs (args_at tree text w)) ≡ false
      a-value q =
          let e = word_of tree (word_of tree w A) A in
          let low : e < w = value-lower tree text good w here q in
          let x : IsExpr tree e = is_expr_lem tree text good e (value-inside tree text good w here q) (value-kind tree text good w here q) in
          rw (
            value-item tree text good w here q,
            has-append r (exprs (expr_at tree text e)) (args_exprs (args_at tree text (word_of tree w B))),
            all e (omega arith) x r (omega arith),
          ) rest

      a_type : (kind_of tree (word_of tree w A) ≡ 13 → ⊥) → has r (args_exprs (args_at tree text w)) ≡ false
      a_type q = rw (type-item tree text good w here q) rest

  -- of arguments from a cell below k on
  abbrev ArgsLower : ℕ → ℕ → Type 0
  ArgsLower m k = (w : ℕ) → (w ≡ none) ⊎ (w < k) → k ≤ m → ArgsAt tree w → (r : ℕ) → k ≤ r → has r (args_exprs (args_at tree text w)) ≡ false

  end_lower : (w r : ℕ) → w ≡ none → has r (args_exprs (args_at tree text w)) ≡ false
  unfolding has args_exprs
  end_lower w r e = rw (ap (args_at tree text) e ∙ args_end tree text good)

  next-lower : (m : ℕ) → LowerTo m → m ≤ records tree → (k : ℕ) → ArgsLower m k → ArgsLower m (suc k)
  next-lower m all few k rest w (inl e) h l r g = end_lower w r e
  next-lower m all few k rest w (inr f) h l r g =
      let here = cell-is tree text good Arguments w l (λ e. omega (arith, good.few)) in
      one_lower w here m all (omega arith) r (omega arith) (rest (word_of tree w B) (falls here.falls) (omega arith) here.rest r (omega arith))
    where
      falls : (word_of tree w B ≡ none) ⊎ (word_of tree w B < w) → (word_of tree w B ≡ none) ⊎ (word_of tree w B < k)
      falls (inl e) = inl e
      falls (inr e) = inr (omega arith)

  args-lower : (m : ℕ) → LowerTo m → m ≤ records tree → (k : ℕ) → ArgsLower m k
  args-lower m all few zero w f h l r g = first f
    where
      first : (w ≡ none) ⊎ (w < 0) → has r (args_exprs (args_at tree text w)) ≡ false
      first (inl e) = end_lower w r e
      first (inr f) = absurd (omega arith)
  args-lower m all few (suc k) w f h l r g = next-lower m all few k (args-lower m all few k) w f h l r g

  parts_lower : (e : ℕ) → IsExpr tree e → LowerTo e → (r : ℕ) → e ≤ r → has r (parts_exprs (expr_at tree text e)) ≡ false
  unfolding has
  parts_lower e x all r g =
      let k = kind_of tree e in
      let low = expr-low e x in
      let to : k ≤ 11 = leb-true k 11 (and_right (leb 2 k) (leb k 11) x.expression) in
      tested (ltb k 9) (λ q. rw (leaf_parts e x (omega (arith, ltb-true k 9 q))))
      λ n₉. tested (ltb k 10) (λ q. unary (omega (arith, ltb-true k 10 q, ltb-false k 9 n₉)))
      λ n₁₀. tested (ltb k 11) (λ q. binary (omega (arith, ltb-true k 11 q, ltb-false k 10 n₁₀)))
      λ n₁₁. call (omega (arith, ltb-false k 11 n₁₁))
    where
      unary : kind_of tree e ≡ 9 → has r (parts_exprs (expr_at tree text e)) ≡ false
      unary k =
          let h = unary-a tree text good e (expr-low e x) k in
          rw (unary_parts e x k) (all (word_of tree e A) h.0 (is_expr_lem tree text good (word_of tree e A) (omega (arith, h.0, expr-low e x)) h.1) r (omega (arith, h.0)))

      binary : kind_of tree e ≡ 10 → has r (parts_exprs (expr_at tree text e)) ≡ false
      binary k =
          let h = binary-a tree text good e (expr-low e x) k in
          let i = binary-b tree text good e (expr-low e x) k in
          rw (
            binary_parts e x k,
            has-append r (exprs (expr_at tree text (word_of tree e A))) (exprs (expr_at tree text (word_of tree e B))),
            all (word_of tree e A) h.0 (is_expr_lem tree text good (word_of tree e A) (omega (arith, h.0, expr-low e x)) h.1) r (omega (arith, h.0)),
          )
          (all (word_of tree e B) i.0 (is_expr_lem tree text good (word_of tree e B) (omega (arith, i.0, expr-low e x)) i.1) r (omega (arith, i.0)))

      call : kind_of tree e ≡ 11 → has r (parts_exprs (expr_at tree text e)) ≡ false
      call k =
          let c : IsKind tree 11 e = record { below = expr-low e x; kind = k } in
          rw (call_parts e x k)
          (args-lower e all (omega (arith, expr-low e x)) e (word_of tree e C) (call-low e c) (omega arith) (call-list e c) r g)

  exprs-lower : (m : ℕ) → LowerTo m
  unfolding has
  exprs-lower zero e h x r g = absurd (omega arith)
  exprs-lower (suc m) e h x r g =
      rw (own-exprs e x, ne_eqb r e (λ q. omega arith))
      (parts_lower e x (λ d f y. exprs-lower m d (omega arith) y) r (omega arith))

  -- so its own record is in none of its parts
  pub own-apart : (e : ℕ) → IsExpr tree e → has e (parts_exprs (expr_at tree text e)) ≡ false
  own-apart e x = parts_lower e x (exprs-lower e) e (omega arith)
