-- Folding of one operator, as the code meets it: the operator is known by its number, the operands by what they were folded to.
-- A number names its operator; where it names none of those that fold, each operator is tried. Assumes nothing.
use mathlib.Core.Path.{◌≡◌, refl, sym, ap, ◌∙◌, subst}
use mathlib.Core.Bool.{Bool, true, false}
use mathlib.Core.Option.{Option, none, some}
use Prim.Native.Nat.{ℕ, zero, suc, ◌<◌, ◌≤◌}
use native.Mathlib.Omega.{arith}
use mathlib.Core.Logic.{⊎_elim}
use lib.IntN.{ℤ, pos, negsuc}
use lib.ListN.{get_or}
use lib.Ieee as Ieee
use lib.Ieee.{Float, nan, inf, fin, binary64}
use lib.Dec.{T}
use borrow.Author.Tests.{eq-eqb, ne_eqb}
use Rattle.laws.specs.Fix.{pick}
use Rattle.int128.specs.declared.Int128.{Int128}
use Rattle.std.specs.Prelude as Std
use Rattle.std.specs.Prelude.{Some, None}
use Rattle.int128.specs.Value.{value_of, checked_of}
use Rattle.int128.specs.Ops.{neg_of, not_of, add_of, sub_of, mul_of, div_of, rem_of, and_of, or_of, xor_of, shl_of, shr_of, by_count}
use Rattle.syntax.specs.Syntax.{UnaryOp, Neg, Or, unary_ops, binary_ops}
use Rattle.conversion.specs.Types.{fold_unary, same_int, kept_if, taken_back, shl_kept, fold_two, fold_binary, neg_float, float_two, float_binary}
use Rattle.types.specs.declared.float_value.FloatValue.{FloatValue}
use Rattle.types.specs.declared.float_value.FloatValue.TheVariants as F
use Rattle.types.specs.Floats.{float_of}
use Rattle.types.proofs.Tables.{at_each, past, below_or_not}

-- an operator that is neither BitNot nor Not
neg_is : (op : ℕ) → (op ≡ 1 → ⊥) → (op ≡ 2 → ⊥) → get_or unary_ops op Neg ≡ Neg
neg_is zero n₁ n₂ = refl
neg_is (suc zero) n₁ n₂ = absurd (n₁ refl)
neg_is (suc (suc zero)) n₁ n₂ = absurd (n₂ refl)
neg_is (suc (suc (suc op))) n₁ n₂ = refl

beyond_13 : (op : ℕ) → 11 ≤ op → (op ≡ 11 → ⊥) → (op ≡ 12 → ⊥) → (op ≡ 13 → ⊥) → 14 ≤ op
beyond_13 op h n₁ n₂ n₃ = omega arith

beyond_17 : (op : ℕ) → 14 ≤ op → (op ≡ 14 → ⊥) → (op ≡ 15 → ⊥) → (op ≡ 16 → ⊥) → (op ≡ 17 → ⊥) → 18 ≤ op
beyond_17 op h n₁ n₂ n₃ n₄ = omega arith

-- ---- a left shift, taken back

pub true_false : true ≡ false → ⊥
true_false e = subst T e tt

same_yes : (a b : ℤ) → a ≡ b → same_int a b ≡ true
unfolding same_int
same_yes (pos n) b e = rw (sym e) (eq-eqb n n refl)
same_yes (negsuc n) b e = rw (sym e) (eq-eqb n n refl)

same-no : (a b : ℤ) → (a ≡ b → ⊥) → same_int a b ≡ false
unfolding same_int
same-no (pos m) (pos n) d = ne_eqb m n (λ e. d (ap pos e))
same-no (pos m) (negsuc n) d = refl
same-no (negsuc m) (pos n) d = refl
same-no (negsuc m) (negsuc n) d = ne_eqb m n (λ e. d (ap negsuc e))

module _ (a b : ℤ) (x : Std.Option Int128) (ex : checked_of x ≡ by_count (shl_of a) b) where
  pub shift_nothing : x ≡ None → checked_of None ≡ shl_kept a b
  unfolding shl_kept taken_back
  shift_nothing e = ap (taken_back a b) (sym (ap checked_of e) ∙ ex)

  module _ (v : Int128) (ev : x ≡ Some v) (y : Std.Option Int128) (ey : checked_of y ≡ by_count (shr_of (value_of v)) b) where
    shifted : kept_if a (value_of v) (checked_of y) ≡ shl_kept a b
    unfolding shl_kept taken_back
    shifted = ap (kept_if a (value_of v)) ey ∙ ap (taken_back a b) (sym (ap checked_of ev) ∙ ex)

    pub back_nothing : y ≡ None → checked_of None ≡ shl_kept a b
    unfolding kept_if
    back_nothing e = ap (λ (z : Std.Option Int128). kept_if a (value_of v) (checked_of z)) (sym e) ∙ shifted

    module _ (w : Int128) (ew : y ≡ Some w) where
      back : pick (same_int (value_of w) a) (some (value_of v)) none ≡ shl_kept a b
      unfolding kept_if
      back = ap (λ (z : Std.Option Int128). kept_if a (value_of v) (checked_of z)) (sym ew) ∙ shifted

      pub back_same : value_of w ≡ a → checked_of (Some v) ≡ shl_kept a b
      unfolding pick
      back_same e = ap (λ (t : Bool). pick t (some (value_of v)) none) (sym (same_yes (value_of w) a e)) ∙ back

      pub back_other : (value_of w ≡ a → ⊥) → checked_of None ≡ shl_kept a b
      unfolding pick
      back_other d = ap (λ (t : Bool). pick t (some (value_of v)) none) (sym (same-no (value_of w) a d)) ∙ back

module _ (op : ℕ) where
  -- ---- integers
  pub unary_nothing : (x : Std.Option Int128) → x ≡ None → checked_of None ≡ fold_unary (get_or unary_ops op Neg) (checked_of x)
  unfolding fold_unary
  unary_nothing x e = rw e

  module _ (x : Std.Option Int128) (v : Int128) (ex : x ≡ Some v) where
    pub unary-not : op ≡ 1 → (w : Int128) → value_of w ≡ not_of (value_of v) → checked_of (Some w) ≡ fold_unary (get_or unary_ops op Neg) (checked_of x)
    unfolding fold_unary
    unary-not e w ew = rw (ex, e) (ap some ew)

    pub unary-none : op ≡ 2 → checked_of None ≡ fold_unary (get_or unary_ops op Neg) (checked_of x)
    unfolding fold_unary
    unary-none e = rw (ex, e)

    pub unary_neg : (op ≡ 1 → ⊥) → (op ≡ 2 → ⊥) → (w : Std.Option Int128) → checked_of w ≡ neg_of (value_of v) → checked_of w ≡ fold_unary (get_or unary_ops op Neg) (checked_of x)
    unfolding fold_unary
    unary_neg n₁ n₂ w ew = rw (ex, neg_is op n₁ n₂) ew

  past-or : 18 ≤ op → get_or binary_ops op Or ≡ Or
  past-or h = past binary_ops Or op h

  module _ (a b : ℤ) where
    pub two_low : op < 2 → none ≡ fold_two (get_or binary_ops op Or) a b
    unfolding fold_two
    two_low h = at_each 2 (λ k. none ≡ fold_two (get_or binary_ops k Or) a b) (refl, (refl, tt)) op h

    pub two_middle : 4 < op → op < 11 → none ≡ fold_two (get_or binary_ops op Or) a b
    unfolding fold_two
    two_middle l h = at_each 11 (λ k. 4 < k → none ≡ fold_two (get_or binary_ops k Or) a b)
        (λ i. refl, (λ i. refl, (λ i. refl, (λ i. refl, (λ i. refl, (λ i. refl, (λ i. absurd (omega arith), (λ i. absurd (omega arith), (λ i. absurd (omega arith), (λ i. refl, (λ i. refl, tt))))))))))) op h l

    two_past : 18 ≤ op → none ≡ fold_two (get_or binary_ops op Or) a b
    unfolding fold_two
    two_past h = rw (past-or h)

    pub two_shl : op ≡ 11 → (r : Std.Option Int128) → checked_of r ≡ shl_kept a b → checked_of r ≡ fold_two (get_or binary_ops op Or) a b
    unfolding fold_two
    two_shl e r q = rw e q

    pub two_shr : op ≡ 12 → (r : Std.Option Int128) → checked_of r ≡ by_count (shr_of a) b → checked_of r ≡ fold_two (get_or binary_ops op Or) a b
    unfolding fold_two
    two_shr e r q = rw e q

    pub two_add : op ≡ 13 → (r : Std.Option Int128) → checked_of r ≡ add_of a b → checked_of r ≡ fold_two (get_or binary_ops op Or) a b
    unfolding fold_two
    two_add e r q = rw e q

    pub two_sub : op ≡ 14 → (r : Std.Option Int128) → checked_of r ≡ sub_of a b → checked_of r ≡ fold_two (get_or binary_ops op Or) a b
    unfolding fold_two
    two_sub e r q = rw e q

    pub two_mul : op ≡ 15 → (r : Std.Option Int128) → checked_of r ≡ mul_of a b → checked_of r ≡ fold_two (get_or binary_ops op Or) a b
    unfolding fold_two
    two_mul e r q = rw e q

    pub two_div : op ≡ 16 → (r : Std.Option Int128) → checked_of r ≡ div_of a b → checked_of r ≡ fold_two (get_or binary_ops op Or) a b
    unfolding fold_two
    two_div e r q = rw e q

    pub two_rem : op ≡ 17 → (r : Std.Option Int128) → checked_of r ≡ rem_of a b → checked_of r ≡ fold_two (get_or binary_ops op Or) a b
    unfolding fold_two
    two_rem e r q = rw e q

    pub two_or : op ≡ 2 → (v : ℤ) → v ≡ or_of a b → some v ≡ fold_two (get_or binary_ops op Or) a b
    unfolding fold_two
    two_or e v q = rw e (ap some q)

    pub two_xor : op ≡ 3 → (v : ℤ) → v ≡ xor_of a b → some v ≡ fold_two (get_or binary_ops op Or) a b
    unfolding fold_two
    two_xor e v q = rw e (ap some q)

    two_and-is : op ≡ 4 → (v : ℤ) → v ≡ and_of a b → some v ≡ fold_two (get_or binary_ops op Or) a b
    unfolding fold_two
    two_and-is e v q = rw e (ap some q)

    pub two_and : 2 ≤ op → op ≤ 4 → (op ≡ 2 → ⊥) → (op ≡ 3 → ⊥) → (v : ℤ) → v ≡ and_of a b → some v ≡ fold_two (get_or binary_ops op Or) a b
    two_and h l n₂ n₃ v q = two_and-is (omega arith) v q

    pub two_none : 11 ≤ op → (op ≡ 11 → ⊥) → (op ≡ 12 → ⊥) → (op ≡ 13 → ⊥) → (op ≡ 14 → ⊥) → (op ≡ 15 → ⊥) → (op ≡ 16 → ⊥) → (op ≡ 17 → ⊥)
        → none ≡ fold_two (get_or binary_ops op Or) a b
    two_none h n₁ n₂ n₃ n₄ n₅ n₆ n₇ = two_past (beyond_17 op (beyond_13 op h n₁ n₂ n₃) n₄ n₅ n₆ n₇)

  pub binary-left : (x y : Std.Option Int128) → x ≡ None → checked_of None ≡ fold_binary (get_or binary_ops op Or) (checked_of x) (checked_of y)
  unfolding fold_binary
  binary-left x y e = rw e

  module _ (x y : Std.Option Int128) (v : Int128) (ex : x ≡ Some v) where
    pub binary-right : y ≡ None → checked_of None ≡ fold_binary (get_or binary_ops op Or) (checked_of x) (checked_of y)
    unfolding fold_binary
    binary-right e = rw (ex, e)

    pub binary_two : (w : Int128) → y ≡ Some w → (r : Std.Option Int128) → checked_of r ≡ fold_two (get_or binary_ops op Or) (value_of v) (value_of w)
        → checked_of r ≡ fold_binary (get_or binary_ops op Or) (checked_of x) (checked_of y)
    unfolding fold_binary
    binary_two w ey r e = rw (ex, ey) e

  -- ---- floats
  module _ (x : Std.Option FloatValue) where
    unless_neg : (o : UnaryOp) → (k : ℕ) → 1 ≤ k → k ≤ 2 → none ≡ neg_float (get_or unary_ops k Neg) (float_of x)
    unfolding neg_float
    unless_neg o zero h l = absurd (omega arith)
    unless_neg o (suc zero) h l = flip (float_of x)
      where
        flip : (v : Option Float) → none ≡ neg_float (get_or unary_ops 1 Neg) v
        flip none = refl
        flip (some v) = refl
    unless_neg o (suc (suc zero)) h l = flip (float_of x)
      where
        flip : (v : Option Float) → none ≡ neg_float (get_or unary_ops 2 Neg) v
        flip none = refl
        flip (some v) = refl
    unless_neg o (suc (suc (suc k))) h l = absurd (omega arith)

    pub neg_none : 1 ≤ op → op ≤ 2 → float_of None ≡ neg_float (get_or unary_ops op Neg) (float_of x)
    unfolding float_of
    neg_none = unless_neg Neg op

    module _ (n₁ : op ≡ 1 → ⊥) (n₂ : op ≡ 2 → ⊥) where
      pub neg_value : (v : Float) → x ≡ Some (F.Value v) → float_of (Some (F.Value (Ieee.neg v))) ≡ neg_float (get_or unary_ops op Neg) (float_of x)
      unfolding float_of neg_float
      neg_value v e = rw (e, neg_is op n₁ n₂)

      pub neg_nan : x ≡ Some F.Nan → float_of (Some F.Nan) ≡ neg_float (get_or unary_ops op Neg) (float_of x)
      unfolding float_of neg_float Ieee.neg
      neg_nan e = rw (e, neg_is op n₁ n₂)

      pub neg_nothing : x ≡ None → float_of None ≡ neg_float (get_or unary_ops op Neg) (float_of x)
      unfolding float_of neg_float
      neg_nothing e = rw e

  pub float_add : op ≡ 13 → (a b : Float) (r : Std.Option FloatValue) → float_of r ≡ some (Ieee.add binary64 a b) → float_of r ≡ float_two (get_or binary_ops op Or) a b
  unfolding float_two
  float_add e a b r q = rw e q

  pub float_sub : op ≡ 14 → (a b : Float) (r : Std.Option FloatValue) → float_of r ≡ some (Ieee.sub binary64 a b) → float_of r ≡ float_two (get_or binary_ops op Or) a b
  unfolding float_two
  float_sub e a b r q = rw e q

  pub float_mul : op ≡ 15 → (a b : Float) (r : Std.Option FloatValue) → float_of r ≡ some (Ieee.mul binary64 a b) → float_of r ≡ float_two (get_or binary_ops op Or) a b
  unfolding float_two
  float_mul e a b r q = rw e q

  pub float_div : op ≡ 16 → (a b : Float) (r : Std.Option FloatValue) → float_of r ≡ some (Ieee.div binary64 a b) → float_of r ≡ float_two (get_or binary_ops op Or) a b
  unfolding float_two
  float_div e a b r q = rw e q

  -- an operator that is none of the four
  float_none : (13 ≤ op → op ≤ 16 → ⊥) → (a b : Float) → none ≡ float_two (get_or binary_ops op Or) a b
  unfolding float_two
  float_none n a b = ⊎_elim
      (λ h. at_each 18 (λ k. (13 ≤ k → k ≤ 16 → ⊥) → none ≡ float_two (get_or binary_ops k Or) a b)
      (λ m. refl, (λ m. absurd (m (omega arith) (omega arith)), (λ m. absurd (m (omega arith) (omega arith)), (λ m. absurd (m (omega arith) (omega arith)), (λ m. absurd (m (omega arith) (omega arith)), (λ m. refl, (λ m. refl, (λ m. refl, (λ m. refl, (λ m. refl, (λ m. refl, (λ m. refl, (λ m. refl, (λ m. refl, (λ m. refl, (λ m. refl, (λ m. refl, (λ m. refl, tt)))))))))))))))))) op h n)
      (λ h. rw (past-or h)) (below_or_not op 18)

  pub float_none-low : op < 13 → (a b : Float) → none ≡ float_two (get_or binary_ops op Or) a b
  float_none-low h = float_none (λ i j. omega arith)

  pub float_none-high : 16 < op → (a b : Float) → none ≡ float_two (get_or binary_ops op Or) a b
  float_none-high h = float_none (λ i j. omega arith)

  pub float_none_four : (op ≡ 13 → ⊥) → (op ≡ 14 → ⊥) → (op ≡ 15 → ⊥) → (op ≡ 16 → ⊥) → (a b : Float) → none ≡ float_two (get_or binary_ops op Or) a b
  float_none_four n₁ n₂ n₃ n₄ = float_none (λ i j. omega arith)

nan_add : (x : Float) → nan ≡ Ieee.add binary64 x nan
unfolding Ieee.add
nan_add nan = refl
nan_add (inf s) = refl
nan_add (fin s m e) = refl

nan_sub : (x : Float) → nan ≡ Ieee.sub binary64 x nan
unfolding Ieee.sub Ieee.neg
nan_sub x = nan_add x

nan_mul : (x : Float) → nan ≡ Ieee.mul binary64 x nan
unfolding Ieee.mul
nan_mul nan = refl
nan_mul (inf s) = refl
nan_mul (fin s m e) = refl

nan_div : (x : Float) → nan ≡ Ieee.div binary64 x nan
unfolding Ieee.div
nan_div nan = refl
nan_div (inf s) = refl
nan_div (fin s m e) = refl

module _ (op : ℕ) (h : 13 ≤ op) (l : op ≤ 16) where
  pub nan_left : (y : Float) → some nan ≡ float_two (get_or binary_ops op Or) nan y
  unfolding float_two Ieee.add Ieee.sub Ieee.mul Ieee.div
  nan_left y = at_each 17 (λ k. 13 ≤ k → some nan ≡ float_two (get_or binary_ops k Or) nan y)
      (λ i. refl, (λ i. refl, (λ i. refl, (λ i. refl, (λ i. absurd (omega arith), (λ i. absurd (omega arith), (λ i. absurd (omega arith), (λ i. absurd (omega arith), (λ i. absurd (omega arith), (λ i. absurd (omega arith), (λ i. absurd (omega arith), (λ i. absurd (omega arith), (λ i. absurd (omega arith), (λ i. absurd (omega arith), (λ i. absurd (omega arith), (λ i. absurd (omega arith), (λ i. absurd (omega arith), tt))))))))))))))))) op (omega arith) h

  pub nan_right : (x : Float) → some nan ≡ float_two (get_or binary_ops op Or) x nan
  unfolding float_two
  nan_right x = at_each 17 (λ k. 13 ≤ k → some nan ≡ float_two (get_or binary_ops k Or) x nan)
      (λ i. ap some (nan_div x), (λ i. ap some (nan_mul x), (λ i. ap some (nan_sub x), (λ i. ap some (nan_add x), (λ i. absurd (omega arith), (λ i. absurd (omega arith), (λ i. absurd (omega arith), (λ i. absurd (omega arith), (λ i. absurd (omega arith), (λ i. absurd (omega arith), (λ i. absurd (omega arith), (λ i. absurd (omega arith), (λ i. absurd (omega arith), (λ i. absurd (omega arith), (λ i. absurd (omega arith), (λ i. absurd (omega arith), (λ i. absurd (omega arith), tt))))))))))))))))) op (omega arith) h

module _ (op : ℕ) where
  module _ (x : Float) (y : Std.Option FloatValue) where
    pub right-value : (v : Float) → y ≡ Some (F.Value v) → (r : Std.Option FloatValue) → float_of r ≡ float_two (get_or binary_ops op Or) x v
        → float_of r ≡ float_binary (get_or binary_ops op Or) (some x) (float_of y)
    unfolding float_binary float_of
    right-value v e r q = rw e q

    pub right_nan : y ≡ Some F.Nan → (r : Std.Option FloatValue) → ((x : Float) → float_of r ≡ float_two (get_or binary_ops op Or) x nan)
        → float_of r ≡ float_binary (get_or binary_ops op Or) (some x) (float_of y)
    unfolding float_binary float_of
    right_nan e r q = rw e (q x)

    pub right_nothing : y ≡ None → float_of None ≡ float_binary (get_or binary_ops op Or) (some x) (float_of y)
    unfolding float_binary float_of
    right_nothing e = rw e

  module _ (x y : Std.Option FloatValue) where
    pub left-value : (v : Float) → x ≡ Some (F.Value v) → (r : Std.Option FloatValue) → float_of r ≡ float_binary (get_or binary_ops op Or) (some v) (float_of y)
        → float_of r ≡ float_binary (get_or binary_ops op Or) (float_of x) (float_of y)
    unfolding float_of
    left-value v e r q = rw e q

    pub left_nothing : x ≡ None → float_of None ≡ float_binary (get_or binary_ops op Or) (float_of x) (float_of y)
    unfolding float_binary float_of
    left_nothing e = rw e

    module _ (ex : x ≡ Some F.Nan) (r : Std.Option FloatValue) (q : (y : Float) → float_of r ≡ float_two (get_or binary_ops op Or) nan y) where
      pub nan_some : (w : FloatValue) → y ≡ Some w → float_of r ≡ float_binary (get_or binary_ops op Or) (float_of x) (float_of y)
      unfolding float_binary float_of
      nan_some (F.Value v) e = rw (ex, e) (q v)
      nan_some F.Nan e = rw (ex, e) (q nan)

    pub nan_nothing : x ≡ Some F.Nan → y ≡ None → float_of None ≡ float_binary (get_or binary_ops op Or) (float_of x) (float_of y)
    unfolding float_binary float_of
    nan_nothing ex e = rw (ex, e)
