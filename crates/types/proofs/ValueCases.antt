-- The value of a record's expression, as the code meets it: by the record's kind, from the values of the records that it refers to.
-- One level of the syntax tree at a time; a kind that is no constant has no value. Assumes nothing.
use mathlib.Core.Path.{◌≡◌, refl, sym, ap, ◌∙◌}
use mathlib.Core.Bool.{Bool, true, false}
use mathlib.Core.List.{List}
use mathlib.Core.Logic.{⊎_elim}
use mathlib.Core.Option.{Option, none, some}
use Prim.Native.Nat.{ℕ, ◌+◌, ◌*◌, ◌<◌, ◌≤◌}
use native.Mathlib.Omega.{arith}
use lib.Dec.{eqb, leb}
use lib.IntN.{ℤ}
use lib.ListN.{get_or}
use lib.Ieee as Ieee
use lib.Ieee.{Float, binary64}
use mir.Syntax.{w64}
use mir.Val.{to_z}
use borrow.Author.Tests.{leb-true, eqb-true, eqb-false}
use Rattle.laws.specs.Fix.{pick}
use Rattle.laws.proofs.Tests.{and_left, and_right}
use Rattle.records.specs.Words.{kind_of, detail_of, word_of, A, B}
use Rattle.records.specs.Rules.{is_expr}
use Rattle.int128.specs.declared.Int128.{Int128}
use Rattle.std.specs.Prelude as Std
use Rattle.std.specs.Prelude.{Some, None}
use Rattle.int128.specs.Value.{value_of, checked_of}
use Rattle.syntax.specs.Syntax.{Expr, EUnary, EBinary, Neg, Or, BinaryOp, unary_ops, binary_ops}
use Rattle.syntax.specs.Decode.{Node, absent, expr, expr_of, bit, wide_of, child, expr_in, nothing_at, int_at, float_at, str_at, bool_at, name_at, null_at, size_of_at, unary_at, binary_at, call_at, list_at, value_at, type_argument_at, declare_at, init_at, return_at, call_statement_at, if_at, while_at, for_at, break_at, continue_at, variable_at, function_at, kinds, node}
use Rattle.syntax.proofs.Unfold.{node-is}
use Rattle.syntax.proofs.Cases.{child_in, child-out, int_case, float_case}
use Rattle.conversion.specs.Types.{fold_unary, fold_binary, int_value, neg_float, float_binary, float_value, is_null_literal}
use Rattle.types.specs.declared.float_value.FloatValue.{FloatValue}
use Rattle.types.specs.Floats.{float_of}
use Rattle.types.proofs.Tables.{at_each, past, below_or_not}

-- no constant of either form
NoValue : Expr → Type 0
NoValue e = (int_value e ≡ none) × (float_value e ≡ none)

two_none : (o : BinaryOp) (a : Option ℤ) → fold_binary o a none ≡ none
unfolding fold_binary
two_none o none = refl
two_none o (some v) = refl

float_two-none : (o : BinaryOp) (a : Option Float) → float_binary o a none ≡ none
unfolding float_binary
float_two-none o none = refl
float_two-none o (some v) = refl

module _ (tree text : List ℕ) (r k : ℕ) (ek : k ≡ kind_of tree r) where
  unary_any : k ≡ 9 → node tree text r ≡ expr (EUnary r (get_or unary_ops (detail_of tree r) Neg) (expr_of (child tree text (node tree text) r A)))
  unfolding kinds unary_at expr_in
  unary_any q = node-is tree text r 9 (sym q ∙ ek)

  binary_any : k ≡ 10 → node tree text r ≡ expr (EBinary r (get_or binary_ops (detail_of tree r) Or) (expr_of (child tree text (node tree text) r A)) (expr_of (child tree text (node tree text) r B)))
  unfolding kinds binary_at expr_in
  binary_any q = node-is tree text r 10 (sym q ∙ ek)

  lower : (i a : ℕ) → a ≡ word_of tree r i → a < r → child tree text (node tree text) r i ≡ node tree text a
  lower i a e h = rw e (child_in tree text r i (omega arith))

  not_lower : (i a : ℕ) → a ≡ word_of tree r i → r ≤ a → child tree text (node tree text) r i ≡ absent
  not_lower i a e h = child-out tree text r i (omega arith)

  -- the kinds that are no constants
  if_none : (b : Bool) (x y : Node) → expr_of x ≡ expr_of absent → expr_of y ≡ expr_of absent → NoValue (expr_of (pick b x y))
  unfolding NoValue pick expr_of int_value float_value
  if_none true x y p q = (rw p, rw p)
  if_none false x y p q = (rw q, rw q)

  no_value : (k ≡ 2 → ⊥) → (k ≡ 3 → ⊥) → (k ≡ 9 → ⊥) → (k ≡ 10 → ⊥) → NoValue (expr_of (node tree text r))
  unfolding NoValue kinds expr_of int_value float_value nothing_at int_at float_at str_at bool_at name_at null_at size_of_at unary_at binary_at call_at list_at value_at type_argument_at declare_at init_at return_at call_statement_at if_at while_at for_at break_at continue_at variable_at function_at
  no_value n₂ n₃ n₉ n₁₀ = rw (node-is tree text r k ek) (⊎_elim
      (λ h. at_each 26 (λ j. (j ≡ 2 → ⊥) → (j ≡ 3 → ⊥) → (j ≡ 9 → ⊥) → (j ≡ 10 → ⊥)
      → NoValue (expr_of (get_or (kinds tree text) j (nothing_at tree text) (node tree text) r)))
      (λ a b c d. (refl, refl), (λ a b c d. (refl, refl), (λ a b c d. (refl, refl), (λ a b c d. (refl, refl), (λ a b c d. (refl, refl), (λ a b c d. (refl, refl), (λ a b c d. if_none (bit 1 (detail_of tree r)) _ _ refl refl, (λ a b c d. (refl, refl), (λ a b c d. (refl, refl), (λ a b c d. (refl, refl), (λ a b c d. (refl, refl), (λ a b c d. (refl, refl), (λ a b c d. (refl, refl), (λ a b c d. (refl, refl), (λ a b c d. (refl, refl), (λ a b c d. absurd (d refl), (λ a b c d. absurd (c refl), (λ a b c d. (refl, refl), (λ a b c d. (refl, refl), (λ a b c d. (refl, refl), (λ a b c d. (refl, refl), (λ a b c d. (refl, refl), (λ a b c d. absurd (b refl), (λ a b c d. absurd (a refl), (λ a b c d. (refl, refl), (λ a b c d. (refl, refl), tt))))))))))))))))))))))))))
      k h n₂ n₃ n₉ n₁₀)
      (λ h. rw (past (kinds tree text) (nothing_at tree text) k h) (refl, refl)) (below_or_not k 26))

  -- ---- int_value
  pub int_is : k ≡ 2 → (b : ℕ) → b ≡ word_of tree r 0 + word_of tree r 1 * 4294967296 → (w : Int128) → value_of w ≡ to_z w64 b
      → checked_of (Some w) ≡ int_value (expr_of (node tree text r))
  unfolding int_value expr_of wide_of
  int_is q b eb w ew = rw (int_case tree text r (sym ek ∙ q)) (ap some (ew ∙ ap (to_z w64) eb))

  module _ (q : k ≡ 9) (a : ℕ) (ea : a ≡ word_of tree r 0) where
    pub int_unary : a < r → (d : ℕ) → d ≡ detail_of tree r → (x v : Std.Option Int128) → checked_of x ≡ int_value (expr_of (node tree text a))
        → checked_of v ≡ fold_unary (get_or unary_ops d Neg) (checked_of x) → checked_of v ≡ int_value (expr_of (node tree text r))
    unfolding int_value expr_of
    int_unary h d ed x v ex ev = rw (unary_any q, lower A a ea h, ← ed, ← ex) ev

    pub int_unary-out : r ≤ a → checked_of None ≡ int_value (expr_of (node tree text r))
    unfolding int_value expr_of fold_unary
    int_unary-out h = rw (unary_any q, not_lower A a ea h)

    pub float_unary : a < r → (d : ℕ) → d ≡ detail_of tree r → (x v : Std.Option FloatValue) → float_of x ≡ float_value (expr_of (node tree text a))
        → float_of v ≡ neg_float (get_or unary_ops d Neg) (float_of x) → float_of v ≡ float_value (expr_of (node tree text r))
    unfolding float_value expr_of
    float_unary h d ed x v ex ev = rw (unary_any q, lower A a ea h, ← ed, ← ex) ev

    pub float_unary-out : r ≤ a → float_of None ≡ float_value (expr_of (node tree text r))
    unfolding float_value expr_of neg_float float_of
    float_unary-out h = rw (unary_any q, not_lower A a ea h)

  module _ (q : k ≡ 10) (a : ℕ) (ea : a ≡ word_of tree r 0) (b : ℕ) (eb : b ≡ word_of tree r 1) where
    pub int_binary : a < r → b < r → (d : ℕ) → d ≡ detail_of tree r → (x y v : Std.Option Int128) → checked_of x ≡ int_value (expr_of (node tree text a))
        → checked_of y ≡ int_value (expr_of (node tree text b)) → checked_of v ≡ fold_binary (get_or binary_ops d Or) (checked_of x) (checked_of y)
        → checked_of v ≡ int_value (expr_of (node tree text r))
    unfolding int_value expr_of
    int_binary h l d ed x y v ex ey ev = rw (binary_any q, lower A a ea h, lower B b eb l, ← ed, ← ex, ← ey) ev

    pub int_left_out : r ≤ a → checked_of None ≡ int_value (expr_of (node tree text r))
    unfolding int_value expr_of fold_binary
    int_left_out h = rw (binary_any q, not_lower A a ea h)

    pub int_right_out : r ≤ b → checked_of None ≡ int_value (expr_of (node tree text r))
    unfolding int_value expr_of
    int_right_out h = rw (binary_any q, not_lower B b eb h) (sym (two_none (get_or binary_ops (detail_of tree r) Or) (int_value (expr_of (child tree text (node tree text) r A)))))

    pub float_binary_lem : a < r → b < r → (d : ℕ) → d ≡ detail_of tree r → (x y v : Std.Option FloatValue) → float_of x ≡ float_value (expr_of (node tree text a))
        → float_of y ≡ float_value (expr_of (node tree text b)) → float_of v ≡ float_binary (get_or binary_ops d Or) (float_of x) (float_of y)
        → float_of v ≡ float_value (expr_of (node tree text r))
    unfolding float_value expr_of
    float_binary_lem h l d ed x y v ex ey ev = rw (binary_any q, lower A a ea h, lower B b eb l, ← ed, ← ex, ← ey) ev

    pub float_left_out : r ≤ a → float_of None ≡ float_value (expr_of (node tree text r))
    unfolding float_value expr_of float_binary float_of
    float_left_out h = rw (binary_any q, not_lower A a ea h)

    pub float_right_out : r ≤ b → float_of None ≡ float_value (expr_of (node tree text r))
    unfolding float_value expr_of float_of
    float_right_out h = rw (binary_any q, not_lower B b eb h) (sym (float_two-none (get_or binary_ops (detail_of tree r) Or) (float_value (expr_of (child tree text (node tree text) r A)))))

  pub int_other : (k ≡ 2 → ⊥) → (k ≡ 9 → ⊥) → (k ≡ 10 → ⊥) → checked_of None ≡ int_value (expr_of (node tree text r))
  unfolding int_value expr_of NoValue
  int_other n₂ n₉ n₁₀ = go (eqb k 3) refl
    where
      go : (t : Bool) → eqb k 3 ≡ t → none ≡ int_value (expr_of (node tree text r))
      go true e = rw (float_case tree text r (sym ek ∙ eqb-true k 3 e))
      go false e = sym (no_value n₂ (eqb-false k 3 e) n₉ n₁₀).0

  -- ---- float_value
  pub float_is : k ≡ 3 → (b : ℕ) → b ≡ word_of tree r 0 + word_of tree r 1 * 4294967296 → (v : Std.Option FloatValue) → float_of v ≡ some (Ieee.of_bits binary64 b)
      → float_of v ≡ float_value (expr_of (node tree text r))
  unfolding float_value expr_of wide_of
  float_is q b eb v ev = rw (float_case tree text r (sym ek ∙ q)) (ev ∙ ap (λ (x : ℕ). some (Ieee.of_bits binary64 x)) eb)

  pub float_other : (k ≡ 3 → ⊥) → (k ≡ 9 → ⊥) → (k ≡ 10 → ⊥) → float_of None ≡ float_value (expr_of (node tree text r))
  unfolding float_value expr_of float_of NoValue
  float_other n₃ n₉ n₁₀ = go (eqb k 2) refl
    where
      go : (t : Bool) → eqb k 2 ≡ t → none ≡ float_value (expr_of (node tree text r))
      go true e = rw (int_case tree text r (sym ek ∙ eqb-true k 2 e))
      go false e = sym (no_value (eqb-false k 2 e) n₃ n₉ n₁₀).1

  -- ---- the literal null, of an expression
  pub null_is : is_expr (kind_of tree r) ≡ true → eqb k 7 ≡ is_null_literal (expr_of (node tree text r))
  unfolding kinds expr_of is_null_literal int_at float_at str_at bool_at name_at null_at size_of_at unary_at binary_at call_at
  null_is h = let l : 2 ≤ kind_of tree r = leb-true 2 (kind_of tree r) (and_left (leb 2 (kind_of tree r)) (leb (kind_of tree r) 11) h) in
      let u : kind_of tree r ≤ 11 = leb-true (kind_of tree r) 11 (and_right (leb 2 (kind_of tree r)) (leb (kind_of tree r) 11) h) in
      rw (node-is tree text r k ek) (at_each 12 (λ j. 2 ≤ j → eqb j 7 ≡ is_null_literal (expr_of (get_or (kinds tree text) j (nothing_at tree text) (node tree text) r)))
      (λ i. refl, (λ i. refl, (λ i. refl, (λ i. refl, (λ i. refl, (λ i. refl, (λ i. refl, (λ i. refl, (λ i. refl, (λ i. refl, (λ i. absurd (omega arith), (λ i. absurd (omega arith), tt))))))))))))
      k (omega arith) (omega arith))
