-- What a record of each kind stands for, as code meets it: the kind is known, and the words that must refer to lower records do.
-- Each is the law `node-is` at one kind. Assumes nothing.
use mathlib.Core.Path.{◌≡◌, sym, ◌∙◌}
use mathlib.Core.Bool.{true, false}
use mathlib.Core.List.{List}
use Prim.Native.Nat.{ℕ, ◌≤◌, ◌<◌}
use lib.ListN.{get_or}
use mir.Syntax.{w64}
use mir.Val.{to_z}
use Rattle.laws.specs.Fix.{pick}
use Rattle.laws.proofs.FixLaws.{below_in, below_out}
use Rattle.records.specs.Words.{kind_of, detail_of, word_of, A, B, C, D}
use Rattle.syntax.specs.Syntax.{Expr, Neg, Or, EInt, EFloat, EStr, EBool, EName, ENull, ESizeOf, EUnary, EBinary, ECall, SDeclare, SInit, SReturn, SCall, SIf, SIfElse, SWhile, SFor, SBreak, SContinue, unary_ops, binary_ops}
use Rattle.syntax.specs.Decode.{absent, expr, value, to_type, stmt, variable, cell, expr_of, args_of, block_of, variable_name, variable_type, bit, reference, text_of, wide_of, child, expr_in, block_in, int_at, float_at, str_at, bool_at, name_at, null_at, size_of_at, unary_at, binary_at, call_at, list_at, value_at, type_argument_at, declare_at, init_at, return_at, call_statement_at, if_at, while_at, for_at, break_at, continue_at, variable_at, kinds, node}
use Rattle.syntax.proofs.Unfold.{node-is}

module _ (tree text : List ℕ) where
  -- what word k of record r leads to: a lower record's node, or nothing
  pub child_in : (r k : ℕ) → word_of tree r k < r → child tree text (node tree text) r k ≡ node tree text (word_of tree r k)
  unfolding child
  child_in r k h = below_in (node tree text) r (word_of tree r k) absent h

  pub child-out : (r k : ℕ) → r ≤ word_of tree r k → child tree text (node tree text) r k ≡ absent
  unfolding child
  child-out r k h = below_out (node tree text) r (word_of tree r k) absent h

  -- the expression that record r stands for
  abbrev expr_is : ℕ → Expr
  expr_is r = expr_of (node tree text r)

  pub int_case : (r : ℕ) → kind_of tree r ≡ 2
      → node tree text r ≡ expr (EInt r (to_z w64 (wide_of tree text r A)) (bit 1 (detail_of tree r)) (bit 2 (detail_of tree r)))
  unfolding kinds int_at
  int_case r e = node-is tree text r 2 (sym e)

  pub float_case : (r : ℕ) → kind_of tree r ≡ 3 → node tree text r ≡ expr (EFloat r (wide_of tree text r A) (bit 1 (detail_of tree r)))
  unfolding kinds float_at
  float_case r e = node-is tree text r 3 (sym e)

  pub str_case : (r : ℕ) → kind_of tree r ≡ 4 → node tree text r ≡ expr (EStr r (word_of tree r A) (word_of tree r B) (text_of tree text r A))
  unfolding kinds str_at
  str_case r e = node-is tree text r 4 (sym e)

  pub bool_case : (r : ℕ) → kind_of tree r ≡ 5 → node tree text r ≡ expr (EBool r (bit 1 (detail_of tree r)))
  unfolding kinds bool_at
  bool_case r e = node-is tree text r 5 (sym e)

  pub name_case : (r : ℕ) → kind_of tree r ≡ 6 → node tree text r ≡ expr (EName r (text_of tree text r A))
  unfolding kinds name_at
  name_case r e = node-is tree text r 6 (sym e)

  pub null_case : (r : ℕ) → kind_of tree r ≡ 7 → node tree text r ≡ expr (ENull r)
  unfolding kinds null_at
  null_case r e = node-is tree text r 7 (sym e)

  pub size_of_case : (r : ℕ) → kind_of tree r ≡ 8 → node tree text r ≡ expr (ESizeOf r (word_of tree r A))
  unfolding kinds size_of_at
  size_of_case r e = node-is tree text r 8 (sym e)

  pub unary_case : (r : ℕ) → kind_of tree r ≡ 9 → word_of tree r A < r
      → node tree text r ≡ expr (EUnary r (get_or unary_ops (detail_of tree r) Neg) (expr_is (word_of tree r A)))
  unfolding kinds unary_at expr_in
  unary_case r e a = rw (← child_in r A a) (node-is tree text r 9 (sym e))

  pub binary_case : (r : ℕ) → kind_of tree r ≡ 10 → word_of tree r A < r → word_of tree r B < r
      → node tree text r ≡ expr (EBinary r (get_or binary_ops (detail_of tree r) Or) (expr_is (word_of tree r A)) (expr_is (word_of tree r B)))
  unfolding kinds binary_at expr_in
  binary_case r e a b = node-is tree text r 10 (sym e) ∙ rw (child_in r A a, child_in r B b)

  -- arguments, bodies and rests of lists may be none
  pub call_case : (r : ℕ) → kind_of tree r ≡ 11
      → node tree text r ≡ expr (ECall r (text_of tree text r A) (args_of (child tree text (node tree text) r C)))
  unfolding kinds call_at
  call_case r e = node-is tree text r 11 (sym e)

  pub list_case : (r : ℕ) → kind_of tree r ≡ 12 → word_of tree r A < r
      → node tree text r ≡ cell (node tree text (word_of tree r A)) (child tree text (node tree text) r B)
  unfolding kinds list_at
  list_case r e a = node-is tree text r 12 (sym e) ∙ rw (child_in r A a)

  pub value_case : (r : ℕ) → kind_of tree r ≡ 13 → word_of tree r A < r → node tree text r ≡ value r (expr_is (word_of tree r A))
  unfolding kinds value_at expr_in
  value_case r e a = node-is tree text r 13 (sym e) ∙ rw (child_in r A a)

  pub type_argument_case : (r : ℕ) → kind_of tree r ≡ 14 → node tree text r ≡ to_type r (word_of tree r A)
  unfolding kinds type_argument_at
  type_argument_case r e = node-is tree text r 14 (sym e)

  pub declare_case : (r : ℕ) → kind_of tree r ≡ 15 → node tree text r ≡ stmt (SDeclare r (text_of tree text r A) (word_of tree r C))
  unfolding kinds declare_at
  declare_case r e = node-is tree text r 15 (sym e)

  pub init_case : (r : ℕ) → kind_of tree r ≡ 16 → word_of tree r C < r
      → node tree text r ≡ stmt (SInit r (bit 1 (detail_of tree r)) (text_of tree text r A) (expr_is (word_of tree r C)))
  unfolding kinds init_at expr_in
  init_case r e c = node-is tree text r 16 (sym e) ∙ rw (child_in r C c)

  pub return_case : (r : ℕ) → kind_of tree r ≡ 17 → word_of tree r A < r → node tree text r ≡ stmt (SReturn r (expr_is (word_of tree r A)))
  unfolding kinds return_at expr_in
  return_case r e a = node-is tree text r 17 (sym e) ∙ rw (child_in r A a)

  pub call_statement_case : (r : ℕ) → kind_of tree r ≡ 18 → word_of tree r A < r → node tree text r ≡ stmt (SCall r (expr_is (word_of tree r A)))
  unfolding kinds call_statement_at expr_in
  call_statement_case r e a = node-is tree text r 18 (sym e) ∙ rw (child_in r A a)

  pub if_case : (r : ℕ) → kind_of tree r ≡ 19 → word_of tree r A < r → bit 1 (detail_of tree r) ≡ false
      → node tree text r ≡ stmt (SIf r (expr_is (word_of tree r A)) (block_of (child tree text (node tree text) r B)))
  unfolding kinds if_at expr_in block_in pick
  if_case r e a b = node-is tree text r 19 (sym e) ∙ rw (b, child_in r A a)

  pub if_else_case : (r : ℕ) → kind_of tree r ≡ 19 → word_of tree r A < r → bit 1 (detail_of tree r) ≡ true
      → node tree text r ≡ stmt (SIfElse r (expr_is (word_of tree r A)) (block_of (child tree text (node tree text) r B)) (block_of (child tree text (node tree text) r C)))
  unfolding kinds if_at expr_in block_in pick
  if_else_case r e a b = node-is tree text r 19 (sym e) ∙ rw (b, child_in r A a)

  pub while_case : (r : ℕ) → kind_of tree r ≡ 20 → word_of tree r A < r
      → node tree text r ≡ stmt (SWhile r (expr_is (word_of tree r A)) (block_of (child tree text (node tree text) r B)))
  unfolding kinds while_at expr_in block_in
  while_case r e a = node-is tree text r 20 (sym e) ∙ rw (child_in r A a)

  pub for_case : (r : ℕ) → kind_of tree r ≡ 21 → word_of tree r A < r → word_of tree r B < r → word_of tree r C < r
      → node tree text r ≡ stmt (SFor r (variable_name (node tree text (word_of tree r A))) (variable_type (node tree text (word_of tree r A)))
      (expr_is (word_of tree r B)) (expr_is (word_of tree r C)) (block_of (child tree text (node tree text) r D)))
  unfolding kinds for_at expr_in block_in
  for_case r e a b c = node-is tree text r 21 (sym e) ∙ rw (child_in r A a, child_in r B b, child_in r C c)

  pub break_case : (r : ℕ) → kind_of tree r ≡ 22 → node tree text r ≡ stmt (SBreak r)
  unfolding kinds break_at
  break_case r e = node-is tree text r 22 (sym e)

  pub continue_case : (r : ℕ) → kind_of tree r ≡ 23 → node tree text r ≡ stmt (SContinue r)
  unfolding kinds continue_at
  continue_case r e = node-is tree text r 23 (sym e)

  pub variable_case : (r : ℕ) → kind_of tree r ≡ 24 → node tree text r ≡ variable r (text_of tree text r A) (reference (word_of tree r C))
  unfolding kinds variable_at
  variable_case r e = node-is tree text r 24 (sym e)
