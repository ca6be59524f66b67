-- The rules of operators as the code meets them: classes of operands, one operand, two operands, their common type, and what is refused.
-- By the form of a type, by the cases of a class, and by the tests' answers one after the other. Assumes nothing.
use Rattle.std.specs.Prelude.{Option as StdOption, Some, None, Ok, Err}
use Rattle.expressions.specs.Answers.{OrRefused}
use mathlib.Core.Path.{◌≡◌, refl, sym, ap, ◌∙◌, subst}
use mathlib.Core.Bool.{Bool, true, false}
use mathlib.Core.List.{List, [], ◌∷◌}
use mathlib.Core.Option.{Option, some}
use Prim.Native.Nat.{ℕ, zero, suc, ◌%◌, ◌<◌}
use native.Mathlib.Omega.{arith}
use lib.Dec.{eqb, leb}
use lib.ListN.{get_or}
use borrow.Author.Tests.{ne_eqb, leb-true, leb-false}
use Rattle.laws.specs.Fix.{pick}
use Rattle.records.specs.Words.{kind_of, detail_of, word_of, records, A, B}
use Rattle.records.specs.Good.{Good}
use Rattle.records.proofs.GoodLaws.{binary_detail}
use Rattle.syntax.specs.Syntax.{Text, TInt, TFloat, TBool, TChar, TByte, TAddress, TArray, TCustom, TNull, BinaryOp, unary_ops, binary_ops, Neg, Or}
use Rattle.syntax.specs.Decode.{bit, text_of, wide_of, program, type_at}
use Rattle.conversion.specs.ConvertError.{ConvertErrorKind, Result, err, WrongOperands, LiteralOutOfRange}
use Rattle.conversion.specs.Types.{is_int, on_int, is_number, fits, range_error}
use Rattle.conversion.specs.Expressions.{OperandClass, Bools, Any, Numbers, Integers, operand_class, gives_bool, filter_option, common_of, accepts_unary, accepts_class, unary_type, binary_error, accepted, binary_type}
use Rattle.types.specs.Fits.{IsType, fits_at, range_error_at}
use Rattle.types.specs.Operators.{class_of, result_of}
use Rattle.types.specs.declared.operators.OperandClass as CodeClass
use Rattle.types.specs.declared.operators.ResultClass.{ResultClass}
use Rattle.types.proofs.FromGood.{is-type}
use Rattle.expressions.specs.declared.operands.Sides.{Sides}
use Rattle.syntax.specs.Places.{IsExpr, IsKind, TypeAt, expr_at}
use Rattle.keys.specs.Keys.{all_keys}
use Rattle.expressions.specs.Answers.{refusal, type_result, found_number, TypeFound, IsTyped, TypeIs, FoundIs, Operands, Accepts}
use Rattle.expressions.proofs.PartLaws.{first_kind}
use Rattle.expressions.proofs.TypingLaws.{place_is, found-is}

-- a refusal as the answer
pub refused-at : (tree : List ℕ) (m : Result ℕ) (k : ConvertErrorKind) (p : ℕ) (a : OrRefused ℕ) → m ≡ err k p → a ≡ Err (record { kind = k; place = p })
    → TypeIs tree a m
unfolding type_result refusal
refused-at tree m k p a e q = record { is = e ∙ sym (ap type_result q); type = subst (λ (z : OrRefused ℕ). IsTyped tree z) (sym q) IsTyped.no }

-- a type that was found
pub found_type_lem : (tree : List ℕ) (f : StdOption ℕ) (y : ℕ) → TypeFound tree f → f ≡ Some y → TypeAt tree y
found_type_lem tree f y t q = found-is (subst (λ (z : StdOption ℕ). TypeFound tree z) q t)

-- two expressions with their types, put together
pub operands-are : (tree : List ℕ) (s : Sides) (a l b r : ℕ) → s ≡ record { left = a; left_type = l; right = b; right_type = r }
    → IsExpr tree a → TypeAt tree l → IsExpr tree b → TypeAt tree r → Operands tree s
operands-are tree s a l b r e x t y u = subst (Operands tree) (sym e) (record { left = x; left_type = t; right = y; right_type = u })

-- ---- the twelve first types

module _ (tree text : List ℕ) (good : Good tree text) where
  -- behind a record that is no type they all stand
  pub first-type : (e : ℕ) → e < records tree → (kind_of tree e ≡ 1 → ⊥) → (y : ℕ) → y < 12 → TypeAt tree y
  first-type e h n y l = go (leb 12 e) refl
    where
      go : (b : Bool) → leb 12 e ≡ b → TypeAt tree y
      go true q = let w : y < records tree = omega (arith, leb-true 12 e q) in record { below = w; kind = first_kind tree text good y w l }
      go false q = absurd (n (first_kind tree text good e h (leb-false 12 e q)))

  pub type_of_lem : (y : ℕ) → TypeAt tree y → IsType tree y
  type_of_lem y t = is-type tree text good y t.below t.kind

-- ---- classes of operands and of results

-- different classes of the definition are different in the code
class_back : CodeClass.OperandClass → OperandClass
class_back CodeClass.OperandClass.Bools = Bools
class_back CodeClass.OperandClass.Any = Any
class_back CodeClass.OperandClass.Numbers = Numbers
class_back CodeClass.OperandClass.Integers = Integers

there_and_back : (c : OperandClass) → class_back (class_of c) ≡ c
unfolding class_back
there_and_back Bools = refl
there_and_back Any = refl
there_and_back Numbers = refl
there_and_back Integers = refl

one_class : (c k : OperandClass) → class_of c ≡ class_of k → c ≡ k
one_class c k e = sym (there_and_back c) ∙ ap class_back e ∙ there_and_back k

result_back : ResultClass → Bool
result_back ResultClass.Common = false
result_back ResultClass.Bool = true

result_is : (r : ResultClass) (g : Bool) → r ≡ result_of g → g ≡ result_back r
unfolding result_back
result_is r true e = sym (ap result_back e)
result_is r false e = sym (ap result_back e)

-- among the forms only the first is an Int
int_entry : (p q : Bool) (u n : ℕ) (t : Text) (f : ℕ)
    → eqb f 1 ≡ is_int (get_or (TNull ∷ TInt p q ∷ TFloat p ∷ TBool ∷ TChar ∷ TByte ∷ TAddress u ∷ TArray u n ∷ TCustom t ∷ TNull ∷ []) f TNull)
unfolding is_int on_int
int_entry p q u n t zero = refl
int_entry p q u n t (suc zero) = refl
int_entry p q u n t (suc (suc zero)) = refl
int_entry p q u n t (suc (suc (suc zero))) = refl
int_entry p q u n t (suc (suc (suc (suc zero)))) = refl
int_entry p q u n t (suc (suc (suc (suc (suc zero))))) = refl
int_entry p q u n t (suc (suc (suc (suc (suc (suc zero)))))) = refl
int_entry p q u n t (suc (suc (suc (suc (suc (suc (suc zero))))))) = refl
int_entry p q u n t (suc (suc (suc (suc (suc (suc (suc (suc zero)))))))) = refl
int_entry p q u n t (suc (suc (suc (suc (suc (suc (suc (suc (suc zero))))))))) = refl
int_entry p q u n t (suc (suc (suc (suc (suc (suc (suc (suc (suc (suc k)))))))))) = ne_eqb (suc (suc (suc (suc (suc (suc (suc (suc (suc (suc k)))))))))) 1 (λ e. omega arith)

module _ (tree text : List ℕ) (y : ℕ) where
  pub int_form : (f : ℕ) → f ≡ detail_of tree y % 16 → eqb f 1 ≡ is_int (type_at tree text y)
  unfolding type_at
  int_form f e = rw e
      (int_entry (bit 16 (detail_of tree y)) (bit 32 (detail_of tree y)) (word_of tree y A) (wide_of tree text y B) (text_of tree text y A) (detail_of tree y % 16))

  -- the class in the code is the definition's k
  pub accepts_as : (class : CodeClass.OperandClass) (k : OperandClass) → class ≡ class_of k → (b : Bool)
      → b ≡ accepts_class (program tree text) (all_keys tree text) k y → Accepts tree text class y b
  accepts_as class k q b h c e = h ∙ ap (λ (z : OperandClass). accepts_class (program tree text) (all_keys tree text) z y) (one_class k c (sym q ∙ e))

  -- one operand
  pub unary_int : (op : ℕ) → op ≡ 1 → (f : ℕ) → f ≡ detail_of tree y % 16 → eqb f 1 ≡ accepts_unary (program tree text) (all_keys tree text) (get_or unary_ops op Neg) y
  unfolding accepts_unary program
  unary_int op q f ef = rw q (int_form f ef)

  pub unary_bool : (op : ℕ) → op ≡ 2 → eqb y 6 ≡ accepts_unary (program tree text) (all_keys tree text) (get_or unary_ops op Neg) y
  unfolding accepts_unary
  unary_bool op q = rw q refl

  pub unary_number_lem : (op : ℕ) → (op ≡ 1 → ⊥) → (op ≡ 2 → ⊥) → (b : Bool) → ((text' : List ℕ) → b ≡ is_number (type_at tree text' y))
      → b ≡ accepts_unary (program tree text) (all_keys tree text) (get_or unary_ops op Neg) y
  unfolding accepts_unary program
  unary_number_lem zero n₁ n₂ b h = h text
  unary_number_lem (suc zero) n₁ n₂ b h = absurd (n₁ refl)
  unary_number_lem (suc (suc zero)) n₁ n₂ b h = absurd (n₂ refl)
  unary_number_lem (suc (suc (suc op))) n₁ n₂ b h = h text

  module _ (e d : ℕ) (ed : d ≡ detail_of tree e) (b : Bool) (eb : b ≡ accepts_unary (program tree text) (all_keys tree text) (get_or unary_ops d Neg) y) where
    tested-by : accepts_unary (program tree text) (all_keys tree text) (get_or unary_ops (detail_of tree e) Neg) y ≡ b
    tested-by = sym (eb ∙ ap (λ (z : ℕ). accepts_unary (program tree text) (all_keys tree text) (get_or unary_ops z Neg) y) ed)

    pub unary-taken : b ≡ true → TypeAt tree y
        → TypeIs tree (Ok y) (unary_type (program tree text) (all_keys tree text) e (get_or unary_ops (detail_of tree e) Neg) y)
    unfolding unary_type pick type_result
    unary-taken q t = record { is = rw (tested-by ∙ q); type = IsTyped.is t }

    pub unary-refused : b ≡ false → (a : OrRefused ℕ) → a ≡ Err (record { kind = WrongOperands; place = e })
        → TypeIs tree a (unary_type (program tree text) (all_keys tree text) e (get_or unary_ops (detail_of tree e) Neg) y)
    unfolding unary_type pick
    unary-refused q a w =
        refused-at tree (unary_type (program tree text) (all_keys tree text) e (get_or unary_ops (detail_of tree e) Neg) y) WrongOperands e a (rw (tested-by ∙ q)) w

-- ---- two operands

module _ (tree text : List ℕ) (good : Good tree text) (s : Sides) (o : Operands tree s) where
  abbrev common : Option ℕ
  common = common_of (program tree text) (all_keys tree text) (expr_at tree text s.left) s.left_type (expr_at tree text s.right) s.right_type

  pub right-fits : IsExpr tree s.right × (IsType tree s.right_type × IsType tree s.left_type)
  right-fits = (o.right, (type_of_lem tree text good s.right_type o.right_type, type_of_lem tree text good s.left_type o.left_type))

  pub left-fits : IsExpr tree s.left × (IsType tree s.left_type × IsType tree s.right_type)
  left-fits = (o.left, (type_of_lem tree text good s.left_type o.left_type, type_of_lem tree text good s.right_type o.right_type))

  module _ (b : Bool) (eb : (text' : List ℕ) → b ≡ fits_at tree text' s.right s.right_type s.left_type) where
    right-test : fits (program tree text).type_of (expr_at tree text s.right) s.right_type s.left_type ≡ b
    unfolding fits_at expr_at program
    right-test = sym (eb text)

    pub common-left : b ≡ true → FoundIs tree (Some s.left_type) common
    unfolding common_of pick found_number
    common-left q = record { is = rw (right-test ∙ q); type = TypeFound.a_type o.left_type }

    module _ (q : b ≡ false) (c : Bool) (ec : (text' : List ℕ) → c ≡ fits_at tree text' s.left s.left_type s.right_type) where
      left-test : fits (program tree text).type_of (expr_at tree text s.left) s.left_type s.right_type ≡ c
      unfolding fits_at expr_at program
      left-test = sym (ec text)

      pub common-right : c ≡ true → FoundIs tree (Some s.right_type) common
      unfolding common_of pick found_number
      common-right p = record { is = rw (right-test ∙ q, left-test ∙ p); type = TypeFound.a_type o.right_type }

      pub common-none : c ≡ false → FoundIs tree None common
      unfolding common_of pick found_number
      common-none p = record { is = rw (right-test ∙ q, left-test ∙ p); type = TypeFound.no_type }

  -- what is refused
  module _ (e : ℕ) where
    abbrev error : Result ℕ
    error = binary_error (program tree text) (all_keys tree text) e (expr_at tree text s.left) s.left_type (expr_at tree text s.right) s.right_type

    module _ (b : Bool) (eb : (text' : List ℕ) → b ≡ range_error_at tree text' s.right s.right_type s.left_type) where
      right_range : range_error (program tree text).type_of (expr_at tree text s.right) s.right_type s.left_type ≡ b
      unfolding range_error_at expr_at program
      right_range = sym (eb text)

      pub error-right : b ≡ true → (a : OrRefused ℕ) → a ≡ Err (record { kind = LiteralOutOfRange; place = s.right }) → TypeIs tree a error
      unfolding binary_error pick
      error-right q a w =
          refused-at tree error LiteralOutOfRange s.right a
          (rw (right_range ∙ q) (ap (λ (z : ℕ). err LiteralOutOfRange z) (place_is tree text good s.right o.right))) w

      module _ (q : b ≡ false) (c : Bool) (ec : (text' : List ℕ) → c ≡ range_error_at tree text' s.left s.left_type s.right_type) where
        left_range : range_error (program tree text).type_of (expr_at tree text s.left) s.left_type s.right_type ≡ c
        unfolding range_error_at expr_at program
        left_range = sym (ec text)

        pub error-left : c ≡ true → (a : OrRefused ℕ) → a ≡ Err (record { kind = LiteralOutOfRange; place = s.left }) → TypeIs tree a error
        unfolding binary_error pick
        error-left p a w =
            refused-at tree error LiteralOutOfRange s.left a
            (rw (right_range ∙ q, left_range ∙ p) (ap (λ (z : ℕ). err LiteralOutOfRange z) (place_is tree text good s.left o.left))) w

        pub error-rest : c ≡ false → (a : OrRefused ℕ) → a ≡ Err (record { kind = WrongOperands; place = e }) → TypeIs tree a error
        unfolding binary_error pick
        error-rest p a w = refused-at tree error WrongOperands e a (rw (right_range ∙ q, left_range ∙ p)) w

    -- the operator's rule; its number is d, its class of operands cl, its class of results rs
    module _ (k : IsKind tree 10 e) (d : ℕ) (ed : d ≡ detail_of tree e) where
      pub operator-known : d < 18
      operator-known = omega (arith, binary_detail tree text good e k.below k.kind)

      abbrev op : BinaryOp
      op = get_or binary_ops (detail_of tree e) Or

      abbrev whole : Result ℕ
      whole = binary_type (program tree text) (all_keys tree text) e op (expr_at tree text s.left) s.left_type (expr_at tree text s.right) s.right_type

      module _ (cl : CodeClass.OperandClass) (rs : ResultClass)
          (ops : (cl ≡ class_of (operand_class (get_or binary_ops d Or))) × (rs ≡ result_of (gives_bool (get_or binary_ops d Or))))
          (f : StdOption ℕ) (ef : FoundIs tree f common) where
        class_is : cl ≡ class_of (operand_class op)
        class_is = ops.0 ∙ ap (λ (z : ℕ). class_of (operand_class (get_or binary_ops z Or))) ed

        gives : gives_bool op ≡ result_back rs
        gives = result_is rs (gives_bool op) (ops.1 ∙ ap (λ (z : ℕ). result_of (gives_bool (get_or binary_ops z Or))) ed)

        -- no common type
        pub none-common : f ≡ None → (a : OrRefused ℕ) → TypeIs tree a error → TypeIs tree a whole
        unfolding binary_type accepted filter_option found_number
        none-common q a h = record { is = rw (sym ef.is ∙ ap found_number q) h.is; type = h.type }

        module _ (y : ℕ) (q : f ≡ Some y) (b : Bool)
            (eb : Accepts tree text cl y b) where
          found : common ≡ some y
          unfolding found_number
          found = sym ef.is ∙ ap found_number q

          taken : accepts_class (program tree text) (all_keys tree text) (operand_class op) y ≡ b
          taken = sym (eb (operand_class op) class_is)

          pub not_taken : b ≡ false → (a : OrRefused ℕ) → TypeIs tree a error → TypeIs tree a whole
          unfolding binary_type accepted filter_option pick
          not_taken n a h = record { is = rw (found, taken ∙ n) h.is; type = h.type }

          module _ (t : b ≡ true) where
            pub gives_bool_lem : rs ≡ ResultClass.Bool → TypeIs tree (Ok 6) whole
            unfolding binary_type accepted filter_option pick type_result result_back
            gives_bool_lem z = record {
              is = rw (found, taken ∙ t, gives ∙ ap result_back z);
              type = IsTyped.is (first-type tree text good e k.below (λ w. omega (arith, k.kind)) 6 (omega arith));
            }

            pub gives-common : rs ≡ ResultClass.Common → TypeIs tree (Ok y) whole
            unfolding binary_type accepted filter_option pick type_result result_back
            gives-common z = record {
              is = rw (found, taken ∙ t, gives ∙ ap result_back z);
              type = IsTyped.is (found_type_lem tree f y ef.type q);
            }
