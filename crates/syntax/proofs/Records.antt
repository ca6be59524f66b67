-- What each record of a good tree stands for, by its kind: expressions 2 to 11, statements 15 to 23 and functions 25, in terms of its words.
-- Each is the case of its kind, at the words that the rules of that kind make refer to lower records. Assumes nothing.
use mathlib.Core.Path.{◌≡◌, ap, ◌∙◌, sym}
use mathlib.Core.Logic.{◌⊎◌, inl, inr}
use mathlib.Core.Bool.{true, false}
use mathlib.Core.List.{List}
use mathlib.Core.Option.{none as nothing, some}
use Prim.Native.Nat.{ℕ, ◌+◌, ◌*◌, ◌≤◌, ◌<◌}
use native.Mathlib.Omega.{arith}
use lib.Dec.{leb, ltb}
use lib.ListN.{length, get_or}
use borrow.Author.Tests.{leb-true, ltb-true, ltb-false}
use mir.Syntax.{w64}
use mir.Val.{to_z}
use Rattle.laws.specs.Fix.{pick}
use Rattle.laws.proofs.Tests.{tested, and_left, and_right}
use Rattle.records.specs.declared.shape.Role.TheVariants.{Arguments, Parameters, Body}
use Rattle.records.specs.Words.{kind_of, detail_of, word_of, records, none, A, B, C, D, E}
use Rattle.records.specs.Rules.{is_expr}
use Rattle.records.specs.Good.{Good}
use Rattle.records.proofs.GoodLaws.{ToList, inside, unary-a, binary-a, binary-b, call-c, init_c, return-a, call_statement-a, if-a, if-b, if-c, while_a, while_b, for_a, for_b, for_c, for_d, function-a, function-b, function-c, function-d, function-e}
use Rattle.syntax.specs.Syntax.{Neg, Or, EInt, EFloat, EStr, EBool, EName, ENull, ESizeOf, EUnary, EBinary, ECall, SDeclare, SInit, SReturn, SCall, SIf, SIfElse, SWhile, SFor, SBreak, SContinue, Function, place, unary_ops, binary_ops}
use Rattle.syntax.specs.Decode.{func, expr_of, block_of, params_of, name_in, variable_name, variable_type, bit, reference, text_of, wide_of, child, expr_in, block_in, kinds, function_at, node}
use Rattle.syntax.specs.Places.{IsKind, TypeAt, FunctionAt, ParamsAt, BodyAt, func_of, function_of, expr_at, args_at, params_at, block_at, statement_of, statement_at}
use Rattle.syntax.proofs.Unfold.{node-is}
use Rattle.syntax.proofs.Cases.{child_in, int_case, float_case, str_case, bool_case, name_case, null_case, size_of_case, unary_case, binary_case, call_case, declare_case, init_case, return_case, call_statement_case, if_case, if_else_case, while_case, for_case, break_case, continue_case, variable_case}
use Rattle.syntax.proofs.Lists.{list-child, list_at_lem}

-- ---- expressions that refer to no other record

module _ (tree text : List ℕ) (r : ℕ) where
  pub expr_int : kind_of tree r ≡ 2
      → expr_at tree text r ≡ EInt r (to_z w64 (wide_of tree text r A)) (bit 1 (detail_of tree r)) (bit 2 (detail_of tree r))
  unfolding expr_at expr_of
  expr_int e = rw (int_case tree text r e)

  pub expr_float : kind_of tree r ≡ 3 → expr_at tree text r ≡ EFloat r (wide_of tree text r A) (bit 1 (detail_of tree r))
  unfolding expr_at expr_of
  expr_float e = rw (float_case tree text r e)

  pub expr-str : kind_of tree r ≡ 4 → expr_at tree text r ≡ EStr r (word_of tree r A) (word_of tree r B) (text_of tree text r A)
  unfolding expr_at expr_of
  expr-str e = rw (str_case tree text r e)

  pub expr-bool : kind_of tree r ≡ 5 → expr_at tree text r ≡ EBool r (bit 1 (detail_of tree r))
  unfolding expr_at expr_of
  expr-bool e = rw (bool_case tree text r e)

  pub expr-name : kind_of tree r ≡ 6 → expr_at tree text r ≡ EName r (text_of tree text r A)
  unfolding expr_at expr_of
  expr-name e = rw (name_case tree text r e)

  pub expr_null : kind_of tree r ≡ 7 → expr_at tree text r ≡ ENull r
  unfolding expr_at expr_of
  expr_null e = rw (null_case tree text r e)

  pub expr_size_of : kind_of tree r ≡ 8 → expr_at tree text r ≡ ESizeOf r (word_of tree r A)
  unfolding expr_at expr_of
  expr_size_of e = rw (size_of_case tree text r e)

  -- ---- statements that refer to no other record

  pub statement_declare : kind_of tree r ≡ 15 → statement_at tree text r ≡ SDeclare r (text_of tree text r A) (word_of tree r C)
  unfolding statement_at statement_of
  statement_declare e = rw (declare_case tree text r e)

  pub statement_break : kind_of tree r ≡ 22 → statement_at tree text r ≡ SBreak r
  unfolding statement_at statement_of
  statement_break e = rw (break_case tree text r e)

  pub statement_continue : kind_of tree r ≡ 23 → statement_at tree text r ≡ SContinue r
  unfolding statement_at statement_of
  statement_continue e = rw (continue_case tree text r e)

module _ (tree text : List ℕ) (good : Good tree text) (r : ℕ) (h : r < records tree) where
  -- ---- expressions

  pub expr-unary : kind_of tree r ≡ 9 → expr_at tree text r ≡ EUnary r (get_or unary_ops (detail_of tree r) Neg) (expr_at tree text (word_of tree r A))
  unfolding expr_at expr_of
  expr-unary e = rw (unary_case tree text r e (unary-a tree text good r h e).0)

  pub expr-binary : kind_of tree r ≡ 10
      → expr_at tree text r ≡ EBinary r (get_or binary_ops (detail_of tree r) Or) (expr_at tree text (word_of tree r A)) (expr_at tree text (word_of tree r B))
  unfolding expr_at expr_of
  expr-binary e = rw (binary_case tree text r e (binary-a tree text good r h e).0 (binary-b tree text good r h e).0)

  pub expr-call : kind_of tree r ≡ 11 → expr_at tree text r ≡ ECall r (text_of tree text r A) (args_at tree text (word_of tree r C))
  unfolding expr_at expr_of args_at
  expr-call e = rw (call_case tree text r e, list-child tree text good Arguments r C h (call-c tree text good r h e))

  -- an expression's record is its place
  pub expr-place : is_expr (kind_of tree r) ≡ true → place (expr_at tree text r) ≡ r
  unfolding place
  expr-place x =
      let k = kind_of tree r in
      let from : 2 ≤ k = leb-true 2 k (and_left (leb 2 k) (leb k 11) x) in
      let to : k ≤ 11 = leb-true k 11 (and_right (leb 2 k) (leb k 11) x) in
      tested (ltb k 3) (λ q. rw (expr_int tree text r (omega (arith, ltb-true k 3 q))))
      λ n₃. tested (ltb k 4) (λ q. rw (expr_float tree text r (omega (arith, ltb-true k 4 q, ltb-false k 3 n₃))))
      λ n₄. tested (ltb k 5) (λ q. rw (expr-str tree text r (omega (arith, ltb-true k 5 q, ltb-false k 4 n₄))))
      λ n₅. tested (ltb k 6) (λ q. rw (expr-bool tree text r (omega (arith, ltb-true k 6 q, ltb-false k 5 n₅))))
      λ n₆. tested (ltb k 7) (λ q. rw (expr-name tree text r (omega (arith, ltb-true k 7 q, ltb-false k 6 n₆))))
      λ n₇. tested (ltb k 8) (λ q. rw (expr_null tree text r (omega (arith, ltb-true k 8 q, ltb-false k 7 n₇))))
      λ n₈. tested (ltb k 9) (λ q. rw (expr_size_of tree text r (omega (arith, ltb-true k 9 q, ltb-false k 8 n₈))))
      λ n₉. tested (ltb k 10) (λ q. rw (expr-unary (omega (arith, ltb-true k 10 q, ltb-false k 9 n₉))))
      λ n₁₀. tested (ltb k 11) (λ q. rw (expr-binary (omega (arith, ltb-true k 11 q, ltb-false k 10 n₁₀))))
      λ n₁₁. rw (expr-call (omega (arith, ltb-false k 11 n₁₁)))

  -- ---- statements

  block_child : (k : ℕ) → ToList tree Body r (word_of tree r k) → block_of (child tree text (node tree text) r k) ≡ block_at tree text (word_of tree r k)
  unfolding block_at
  block_child k l = ap block_of (list-child tree text good Body r k h l)

  pub statement_init : kind_of tree r ≡ 16
      → statement_at tree text r ≡ SInit r (bit 1 (detail_of tree r)) (text_of tree text r A) (expr_at tree text (word_of tree r C))
  unfolding statement_at statement_of expr_at
  statement_init e = rw (init_case tree text r e (init_c tree text good r h e).0)

  pub statement_return : kind_of tree r ≡ 17 → statement_at tree text r ≡ SReturn r (expr_at tree text (word_of tree r A))
  unfolding statement_at statement_of expr_at
  statement_return e = rw (return_case tree text r e (return-a tree text good r h e).0)

  pub statement_call : kind_of tree r ≡ 18 → statement_at tree text r ≡ SCall r (expr_at tree text (word_of tree r A))
  unfolding statement_at statement_of expr_at
  statement_call e = rw (call_statement_case tree text r e (call_statement-a tree text good r h e).0)

  -- without and with otherwise
  pub statement_if : kind_of tree r ≡ 19 → bit 1 (detail_of tree r) ≡ false
      → statement_at tree text r ≡ SIf r (expr_at tree text (word_of tree r A)) (block_at tree text (word_of tree r B))
  unfolding statement_at statement_of expr_at
  statement_if e b = rw (if_case tree text r e (if-a tree text good r h e).0 b, block_child B (if-b tree text good r h e))

  pub statement_if_else : kind_of tree r ≡ 19 → bit 1 (detail_of tree r) ≡ true
      → statement_at tree text r ≡ SIfElse r (expr_at tree text (word_of tree r A)) (block_at tree text (word_of tree r B)) (block_at tree text (word_of tree r C))
  unfolding statement_at statement_of expr_at
  statement_if_else e b =
      rw (if_else_case tree text r e (if-a tree text good r h e).0 b, block_child B (if-b tree text good r h e), block_child C (if-c tree text good r h e))

  pub statement_while : kind_of tree r ≡ 20 → statement_at tree text r ≡ SWhile r (expr_at tree text (word_of tree r A)) (block_at tree text (word_of tree r B))
  unfolding statement_at statement_of expr_at
  statement_while e = rw (while_case tree text r e (while_a tree text good r h e).0, block_child B (while_b tree text good r h e))

  pub statement_for : kind_of tree r ≡ 21
      → statement_at tree text r ≡ SFor r (text_of tree text (word_of tree r A) A) (reference (word_of tree (word_of tree r A) C))
      (expr_at tree text (word_of tree r B)) (expr_at tree text (word_of tree r C)) (block_at tree text (word_of tree r D))
  unfolding statement_at statement_of expr_at variable_name variable_type
  statement_for e =
      rw (
        for_case tree text r e (for_a tree text good r h e).0 (for_b tree text good r h e).0 (for_c tree text good r h e).0,
        variable_case tree text (word_of tree r A) (for_a tree text good r h e).1,
        block_child D (for_d tree text good r h e),
      )

-- ---- functions

module _ (tree text : List ℕ) where
  -- the node of a function's record
  abbrev made : ℕ → Function
  made f = func_of (function_at tree text (node tree text) f)

  pub node-function : (f : ℕ) → kind_of tree f ≡ 25 → node tree text f ≡ func (function_of tree text f)
  unfolding kinds function_at func_of function_of
  node-function f e = rw (node-is tree text f 25 (sym e))

  function-is : (f : ℕ) → kind_of tree f ≡ 25 → function_of tree text f ≡ made f
  unfolding kinds function_at func_of function_of
  function-is f e = rw (node-is tree text f 25 (sym e))

module _ (tree text : List ℕ) (good : Good tree text) (f : ℕ) (at : FunctionAt tree f) where
  whole : function_of tree text f ≡ made tree text f
  whole = function-is tree text f at.kind

  -- the record lies inside the tree
  pub function-inside : f * 32 + 32 ≤ length tree
  function-inside = inside tree text good f at.below

  pub function_rec : (function_of tree text f).rec_of ≡ f
  unfolding function_at func_of
  function_rec = ap (λ (x : Function). x.rec_of) whole

  pub function-external : (function_of tree text f).external ≡ bit 1 (detail_of tree f)
  unfolding function_at func_of
  function-external = ap (λ (x : Function). x.external) whole

  pub function-variadic : (function_of tree text f).variadic ≡ bit 2 (detail_of tree f)
  unfolding function_at func_of
  function-variadic = ap (λ (x : Function). x.variadic) whole

  -- the names: texts of records of kind 6
  named : (k : ℕ) → (word_of tree f k < f) × (kind_of tree (word_of tree f k) ≡ 6)
      → name_in (expr_in tree text (node tree text) f k) ≡ text_of tree text (word_of tree f k) A
  unfolding expr_in name_in expr_of
  named k h = rw (child_in tree text f k h.0, name_case tree text (word_of tree f k) h.1)

  pub name_record : IsKind tree 6 (word_of tree f A)
  name_record = let h = function-a tree text good f at.below at.kind in record { below = omega (arith, h.0, at.below); kind = h.1 }

  pub mangled_record : IsKind tree 6 (word_of tree f B)
  mangled_record = let h = function-b tree text good f at.below at.kind in record { below = omega (arith, h.0, at.below); kind = h.1 }

  pub function-name : (function_of tree text f).name ≡ text_of tree text (word_of tree f A) A
  unfolding function_at func_of
  function-name = ap (λ (x : Function). x.name) whole ∙ named A (function-a tree text good f at.below at.kind)

  pub function_mangled : (function_of tree text f).mangled_name ≡ text_of tree text (word_of tree f B) A
  unfolding function_at func_of
  function_mangled = ap (λ (x : Function). x.mangled_name) whole ∙ named B (function-b tree text good f at.below at.kind)

  -- the return type: none, or a type's record
  pub function-return : (function_of tree text f).return_type ≡ reference (word_of tree f D)
  unfolding function_at func_of
  function-return = ap (λ (x : Function). x.return_type) whole

  pub return-is : (word_of tree f D ≡ none) ⊎ TypeAt tree (word_of tree f D)
  return-is = go (function-d tree text good f at.below at.kind)
    where
      go : (word_of tree f D ≡ none) ⊎ ((word_of tree f D < f) × (kind_of tree (word_of tree f D) ≡ 1)) → (word_of tree f D ≡ none) ⊎ TypeAt tree (word_of tree f D)
      go (inl e) = inl e
      go (inr h) = inr (record { below = omega (arith, h.0, at.below); kind = h.1 })

  -- the parameters
  pub params_are : ParamsAt tree (word_of tree f C)
  params_are = list_at_lem tree text good Parameters f (word_of tree f C) at.below (function-c tree text good f at.below at.kind)

  pub function-params : (function_of tree text f).params ≡ params_at tree text (word_of tree f C)
  unfolding function_at func_of params_at
  function-params =
      ap (λ (x : Function). x.params) whole ∙ ap params_of (list-child tree text good Parameters f C at.below (function-c tree text good f at.below at.kind))

  -- the body, where the mark says that there is one
  pub body_is : BodyAt tree (word_of tree f E)
  body_is = list_at_lem tree text good Body f (word_of tree f E) at.below (function-e tree text good f at.below at.kind)

  pub function-body : (function_of tree text f).body ≡ pick (bit 4 (detail_of tree f)) (some (block_at tree text (word_of tree f E))) nothing
  unfolding function_at func_of block_in
  function-body =
      ap (λ (x : Function). x.body) whole
      ∙ rw (block_child tree text good f at.below E (function-e tree text good f at.below at.kind))
