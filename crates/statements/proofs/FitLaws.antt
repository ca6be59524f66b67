-- Fitting as the code meets it: a float that takes another mark, a variable that is cast, an operand by the form of its place's type, the
-- parameters' types one by one, and the check before. By the cases of the types and of the tests. Assumes nothing.
use Rattle.std.specs.Prelude.{Ok, Err}
use mathlib.Core.Path.{◌≡◌, refl, sym, ap, ◌∙◌, subst}
use mathlib.Core.Bool.{Bool, true, false, not, ◌&&◌}
use mathlib.Core.Logic.{◌⊎◌, inl, inr}
use mathlib.Core.List.{List, [], ◌∷◌}
use Prim.Native.Nat.{ℕ, zero, suc, ◌%◌}
use native.Mathlib.Omega.{arith}
use lib.Dec.{eqb}
use lib.ListN.{length, get_or}
use mir.Syntax.{w64}
use mir.Val.{to_z}
use borrow.Author.Tests.{ne_eqb}
use Rattle.laws.specs.Fix.{pick}
use Rattle.records.specs.declared.shape.Role.TheVariants.{Parameters}
use Rattle.records.specs.declared.convert_error.ConvertError.{ConvertError}
use Rattle.records.specs.Words.{detail_of, word_of, none, A, B, C}
use Rattle.records.specs.Good.{Good}
use Rattle.syntax.specs.Syntax.{Text, Ty, TInt, TFloat, TBool, TChar, TByte, TAddress, TArray, TCustom, TNull}
use Rattle.syntax.specs.Decode.{program, bit, type_at, text_of, wide_of}
use Rattle.syntax.specs.Places.{IsExpr, TypeAt, ParamsAt, expr_at, params_at}
use Rattle.syntax.proofs.Lists.{cell-is, next-list, params_end, parameter_item}
use Rattle.conversion.specs.ConvertError.{ConvertErrorKind, LiteralOutOfRange}
use Rattle.conversion.specs.Ir as Ir
use Rattle.conversion.specs.Ir.{FloatEntry, OVar, OInt, OFloat, M, pure, fail, lift, float_id, float_bits}
use Rattle.conversion.specs.Types.{on_float, on_int, is_float, is_int}
use Rattle.conversion.specs.Expressions.{Functions}
use Rattle.conversion.specs.Statements.{refloat, cast_operand, fit_operand, parameter_type, check_fits}
use Rattle.types.specs.Fits.{fits_at, range_error_at}
use Rattle.ir.specs.declared.structs.Counters.{Counters}
use Rattle.ir.specs.declared.structs.VarId.{VarId}
use Rattle.ir.specs.declared.structs.WithCounters.{WithCounters}
use Rattle.ir.specs.declared.structs.Operand.{Operand}
use Rattle.ir.specs.declared.floats.FloatBits.{FloatBits}
use Rattle.ir.specs.Amounts.{Amount, amount}
use Rattle.ir.specs.Arena.{Room}
use Rattle.ir.specs.Floats.{entry, entry_of_float}
use Rattle.ir.specs.Instructions.{var_of, operand_of}
use Rattle.ir.specs.Steps.{Next, Emits, AddsVar, NumbersFloat}
use Rattle.ir.proofs.AmountLaws.{both-spent}
use Rattle.laws.proofs.FixLaws.{pick_yes, pick_no}
use Rattle.ir.proofs.StepCases.{on_int_lem, on_float_lem, no_int, no_float_lem}
use Rattle.ir.proofs.StepUses.{refloat-next, cast-next}
use Rattle.expressions.specs.Answers.{refusal, outcome_of}
use Rattle.expressions.proofs.ArgumentLaws.{place_is}
use Rattle.statements.specs.Lent.{Fitted}
use Rattle.statements.specs.Converting.{OperandIn}
use Rattle.statements.specs.Answers.{FitAdds}
use Rattle.statements.proofs.MeetLaws.{Most, adds-pure, adds-most, adds_same}

-- ---- what is owed, put another way

module _ {tree : List ℕ} {k : Counters} {l : List ℕ} where
  pub fits-same : {m m' : M Ir.Operand} {n : Amount} {r : Fitted} {l' : List ℕ} → m ≡ m' → FitAdds tree m n k l r l' → FitAdds tree m' n k l r l'
  fits-same e p = record { adds = adds_same e p.adds; operand = p.operand }

  pub fits-most : {m : M Ir.Operand} {n n' : Amount} {r : Fitted} {l' : List ℕ} → FitAdds tree m n k l r l' → Most n n' → FitAdds tree m n' k l r l'
  fits-most p q = record { adds = adds-most p.adds q; operand = p.operand }

  -- an operand that stays as it is
  pub stays_as : {m : M Ir.Operand} {n : Amount} (o : Operand) → m ≡ pure (operand_of o) → OperandIn tree (operand_of o) → Room k l
      → FitAdds tree m n k l (record { operand = o; counters = k }) l
  stays_as o e h room = record { adds = adds_same (sym e) (adds-most (adds-pure (operand_of o) k l room) (omega arith)); operand = h }

  -- ---- a float that takes another mark, and a variable that is cast

  pub refloat-fits : {l' : List ℕ} (i b : ℕ) (short : Bool) (f : FloatBits) (p : WithCounters ℕ) → length l' ≡ length l
      → Next (float_bits i) k l b k l → entry_of_float f ≡ entry b short → NumbersFloat (entry_of_float f) k l p l'
      → FitAdds tree (refloat i short) (amount 0 0 0 0 1) k l (record { operand = Operand.Float p.value; counters = p.counters }) l'
  unfolding OperandIn
  refloat-fits {l'} i b short f p long q e n = record {
    adds = record {
      next = refloat-next i short k p.counters l l' b p.value q
          (subst (λ (x : FloatEntry). Next (float_id x) k l p.value p.counters l') e n.next);
      spent = n.spent;
      long = long;
    };
    operand = tt;
  }

  pub cast_fits : {k₂ : Counters} {l₁ l₂ : List ℕ} (v : VarId) (y : ℕ) (made : WithCounters VarId) → length l₂ ≡ length l → AddsVar y k l made l₁
      → Emits (Ir.Cast (var_of made.value) (OVar (var_of v))) made.counters l₁ k₂ l₂ → made.value.1 ≡ y → TypeAt tree y
      → FitAdds tree (cast_operand true (var_of v) y) (amount 1 1 0 0 0) k l (record { operand = Operand.Var made.value; counters = k₂ }) l₂
  unfolding OperandIn
  cast_fits {k₂} {l₁} {l₂} v y made long a e typed t = record {
    adds = record {
      next = cast-next (var_of v) (var_of made.value) y k made.counters k₂ l l₁ l₂ a.next e.next;
      spent = both-spent a.spent e.spent;
      long = long;
    };
    operand = subst (λ (z : ℕ). TypeAt tree z) (sym typed) t;
  }

-- ---- by the form of the place's type

-- the types by form, with marks s and u: only form 1 is an Int, only form 2 a Float
abbrev pub forms : Bool → Bool → ℕ → ℕ → Text → List Ty
forms s u a n t = TNull ∷ TInt s u ∷ TFloat s ∷ TBool ∷ TChar ∷ TByte ∷ TAddress a ∷ TArray a n ∷ TCustom t ∷ TNull ∷ []

only : (s u : Bool) (a n : ℕ) (t : Text) (f : ℕ)
    → (is_int (get_or (forms s u a n t) f TNull) ≡ eqb f 1) × (is_float (get_or (forms s u a n t) f TNull) ≡ eqb f 2)
unfolding is_int is_float on_int on_float
only s u a n t zero = (refl, refl)
only s u a n t (suc zero) = (refl, refl)
only s u a n t (suc (suc zero)) = (refl, refl)
only s u a n t (suc (suc (suc zero))) = (refl, refl)
only s u a n t (suc (suc (suc (suc zero)))) = (refl, refl)
only s u a n t (suc (suc (suc (suc (suc zero))))) = (refl, refl)
only s u a n t (suc (suc (suc (suc (suc (suc zero)))))) = (refl, refl)
only s u a n t (suc (suc (suc (suc (suc (suc (suc zero))))))) = (refl, refl)
only s u a n t (suc (suc (suc (suc (suc (suc (suc (suc zero)))))))) = (refl, refl)
only s u a n t (suc (suc (suc (suc (suc (suc (suc (suc (suc zero))))))))) = (refl, refl)
only s u a n t (suc (suc (suc (suc (suc (suc (suc (suc (suc (suc f)))))))))) =
    (sym (ne_eqb (suc (suc (suc (suc (suc (suc (suc (suc (suc (suc f)))))))))) 1 (λ e. omega arith)), sym (ne_eqb (suc (suc (suc (suc (suc (suc (suc (suc (suc (suc f)))))))))) 2 (λ e. omega arith)))

module _ (tree text : List ℕ) (y f : ℕ) (ef : f ≡ detail_of tree y % 16) where
  pub type-is : type_at tree text y
      ≡ get_or (forms (bit 16 (detail_of tree y)) (bit 32 (detail_of tree y)) (word_of tree y A) (wide_of tree text y B) (text_of tree text y A)) f TNull
  unfolding type_at
  type-is = rw ef

  pub forms_are : (is_int (type_at tree text y) ≡ eqb f 1) × (is_float (type_at tree text y) ≡ eqb f 2)
  forms_are = rw type-is (only (bit 16 (detail_of tree y)) (bit 32 (detail_of tree y)) (word_of tree y A) (wide_of tree text y B) (text_of tree text y A) f)

  module _ {k : Counters} {l : List ℕ} where
    -- a float: at a Float type with its mark, else as it is
    pub float_marked : {l' : List ℕ} {r : Fitted} (i : ℕ) (short : Bool) → f ≡ 2 → short ≡ bit 16 (detail_of tree y)
        → FitAdds tree (refloat i short) (amount 0 0 0 0 1) k l r l' → FitAdds tree (fit_operand (program tree text) (OFloat i) y) (amount 0 0 0 0 1) k l r l'
    unfolding fit_operand program
    float_marked i short e es p = fits-same
        (sym (on_float_lem (type_at tree text y) (pure (OFloat i)) (λ (b : Bool). refloat i b) short (type-is ∙ rw (e, es)))) p

    pub float_stays : (i : ℕ) → (f ≡ 2 → ⊥) → Room k l
        → FitAdds tree (fit_operand (program tree text) (OFloat i) y) (amount 0 0 0 0 1) k l (record { operand = Operand.Float i; counters = k }) l
    unfolding fit_operand program OperandIn
    float_stays i n room = stays_as (Operand.Float i)
        (no_float_lem (type_at tree text y) (pure (OFloat i)) (λ (b : Bool). refloat i b) (forms_are.1 ∙ ne_eqb f 2 n)) tt room

    -- an Int likewise
    module _ (o : Operand) (b : ℕ) (short unsigned : Bool) (eo : o ≡ Operand.Int b short unsigned) (room : Room k l) where
      pub int_marked : (s u : Bool) → f ≡ 1 → s ≡ bit 16 (detail_of tree y) → u ≡ bit 32 (detail_of tree y)
          → FitAdds tree (fit_operand (program tree text) (operand_of o) y) (amount 0 0 0 0 0) k l (record { operand = Operand.Int b s u; counters = k }) l
      unfolding fit_operand program OperandIn
      int_marked s u e es eu = rw eo (stays_as (Operand.Int b s u)
          (on_int_lem (type_at tree text y) (pure (OInt (to_z w64 b) short unsigned)) (λ (p q : Bool). pure (OInt (to_z w64 b) p q)) s u
          (type-is ∙ rw (e, es, eu))) tt room)

      pub int_stays : (f ≡ 1 → ⊥)
          → FitAdds tree (fit_operand (program tree text) (operand_of o) y) (amount 0 0 0 0 0) k l (record { operand = o; counters = k }) l
      unfolding fit_operand program OperandIn
      int_stays n = rw eo (stays_as (Operand.Int b short unsigned)
          (no_int (type_at tree text y) (pure (OInt (to_z w64 b) short unsigned)) (λ (p q : Bool). pure (OInt (to_z w64 b) p q)) (forms_are.0 ∙ ne_eqb f 1 n)) tt room)

-- ---- a variable: cast if both types are Floats and differ

on_float-pick : {X : Type 0} (t : Ty) (d x : X) → on_float t d (λ (s : Bool). x) ≡ pick (is_float t) x d
unfolding on_float is_float pick
on_float-pick (TFloat s) d x = refl
on_float-pick (TInt s u) d x = refl
on_float-pick TBool d x = refl
on_float-pick TChar d x = refl
on_float-pick TByte d x = refl
on_float-pick (TAddress y) d x = refl
on_float-pick (TArray y n) d x = refl
on_float-pick (TCustom t) d x = refl
on_float-pick TNull d x = refl

cast-pick : (b : Bool) (x : Ir.VarId) (y : ℕ) → cast_operand b x y ≡ pick b (cast_operand true x y) (pure (OVar x))
unfolding cast_operand pick
cast-pick true x y = refl
cast-pick false x y = refl

three : {X : Type 0} (a b c : Bool) (x d : X) → pick a (pick (b && c) x d) d ≡ pick ((a && b) && c) x d
unfolding pick
three true true c x d = refl
three true false c x d = refl
three false b c x d = refl

module _ (tree text : List ℕ) (y f : ℕ) (ef : f ≡ detail_of tree y % 16) (v : VarId) (g : ℕ) (eg : g ≡ detail_of tree v.1 % 16) where
  pub variable-is : fit_operand (program tree text) (OVar (var_of v)) y
      ≡ pick ((eqb f 2 && eqb g 2) && not (eqb v.1 y)) (cast_operand true (var_of v) y) (pure (OVar (var_of v)))
  unfolding fit_operand program
  variable-is =
      on_float-pick (type_at tree text y) (pure (OVar (var_of v))) (cast_operand (is_float (type_at tree text v.1) && not (eqb v.1 y)) (var_of v) y)
      ∙ rw (cast-pick (is_float (type_at tree text v.1) && not (eqb v.1 y)) (var_of v) y, (forms_are tree text y f ef).1, (forms_are tree text v.1 g eg).1)
      (three (eqb f 2) (eqb g 2) (not (eqb v.1 y)) (cast_operand true (var_of v) y) (pure (OVar (var_of v))))

  module _ {k : Counters} {l : List ℕ} where
    pub variable-cast : {l' : List ℕ} {r : Fitted} → ((eqb f 2 && eqb g 2) && not (eqb v.1 y)) ≡ true
        → FitAdds tree (cast_operand true (var_of v) y) (amount 1 1 0 0 0) k l r l'
        → FitAdds tree (fit_operand (program tree text) (OVar (var_of v)) y) (amount 1 1 0 0 0) k l r l'
    variable-cast e p = fits-same (sym (variable-is ∙ pick_yes ((eqb f 2 && eqb g 2) && not (eqb v.1 y)) (cast_operand true (var_of v) y) (pure (OVar (var_of v))) e)) p

    pub variable-stays : ((eqb f 2 && eqb g 2) && not (eqb v.1 y)) ≡ false → TypeAt tree v.1 → Room k l
        → FitAdds tree (fit_operand (program tree text) (OVar (var_of v)) y) (amount 1 1 0 0 0) k l (record { operand = Operand.Var v; counters = k }) l
    unfolding OperandIn
    variable-stays e t room = stays_as (Operand.Var v)
        (variable-is ∙ pick_no ((eqb f 2 && eqb g 2) && not (eqb v.1 y)) (cast_operand true (var_of v) y) (pure (OVar (var_of v))) e) t room

-- ---- any operand, by its constructor

module _ {tree : List ℕ} (text : List ℕ) {k : Counters} {l : List ℕ} (o : Operand) (y : ℕ) where
  -- fitted as the one that it is
  pub fitted_as : {l' : List ℕ} {r : Fitted} {n : Amount} (p : Operand) → o ≡ p → Most n (amount 1 1 0 0 1)
      → FitAdds tree (fit_operand (program tree text) (operand_of p) y) n k l r l'
      → FitAdds tree (fit_operand (program tree text) (operand_of o) y) (amount 1 1 0 0 1) k l r l'
  fitted_as p e q h = rw e (fits-most h q)

  -- one that is fitted to every type
  module _ (room : Room k l) where
    pub plain-fits : ((b : Bool) × (o ≡ Operand.Bool b)) ⊎ (((i : ℕ) × (o ≡ Operand.DataAddress i)) ⊎ (o ≡ Operand.Null))
        → FitAdds tree (fit_operand (program tree text) (operand_of o) y) (amount 1 1 0 0 1) k l (record { operand = o; counters = k }) l
    unfolding fit_operand OperandIn
    plain-fits (inl b) = rw b.1 (stays_as (Operand.Bool b.0) refl tt room)
    plain-fits (inr (inl i)) = rw i.1 (stays_as (Operand.DataAddress i.0) refl tt room)
    plain-fits (inr (inr e)) = rw e (stays_as Operand.Null refl tt room)

-- a variable that is one of the operands
pub variable_in_lem : (tree : List ℕ) (o : Operand) (v : VarId) → o ≡ Operand.Var v → OperandIn tree (operand_of o) → TypeAt tree v.1
unfolding OperandIn
variable_in_lem tree o v e h = rw e at h

-- ---- the types of the parameters

module _ (tree text : List ℕ) (good : Good tree text) (w : ℕ) (p : ParamsAt tree w) where
  pub behind-type : w ≡ none → 4 ≡ parameter_type (params_at tree text w) 0
  unfolding parameter_type
  behind-type e = sym (rw (e, params_end tree text good))

  pub behind-next : w ≡ none → ParamsAt tree none × ((k : ℕ) → parameter_type (params_at tree text none) k ≡ parameter_type (params_at tree text w) (suc k))
  unfolding parameter_type
  behind-next e = (rw e at p, λ k. rw (e, params_end tree text good))

  module _ (n : w ≡ none → ⊥) where
    pub own-type : (item : ℕ) → item ≡ word_of tree w A → (y : ℕ) → y ≡ word_of tree item C → y ≡ parameter_type (params_at tree text w) 0
    unfolding parameter_type
    own-type item ei y ey = ey ∙ ap (λ (z : ℕ). word_of tree z C) ei ∙ sym (rw (parameter_item tree text good w (cell-is tree text good Parameters w p n)))

    pub own-next : (v : ℕ) → v ≡ word_of tree w B
        → ParamsAt tree v × ((k : ℕ) → parameter_type (params_at tree text v) k ≡ parameter_type (params_at tree text w) (suc k))
    unfolding parameter_type
    own-next v e = (
      next-list tree text good Parameters w v p n e,
      λ k. ap (λ (z : ℕ). parameter_type (params_at tree text z) k) e ∙ sym (rw (parameter_item tree text good w (cell-is tree text good Parameters w p n))),
    )

-- ---- the check before

module _ (tree text : List ℕ) (F : Functions) (e y expected : ℕ) (kind : ConvertErrorKind) (place : ℕ) where
  pub check_done : fits_at tree text e y expected ≡ true
      → check_fits (program tree text) F (expr_at tree text e) y expected kind place ≡ lift (outcome_of (Ok tt))
  unfolding check_fits program fits_at expr_at outcome_of pure lift
  check_done h = pick_yes (fits_at tree text e y expected) _ _ h

  module _ (no : fits_at tree text e y expected ≡ false) where
    pub check_range : IsExpr tree e → range_error_at tree text e y expected ≡ true → (x : ConvertError) → x ≡ record { kind = LiteralOutOfRange; place = e }
        → check_fits (program tree text) F (expr_at tree text e) y expected kind place ≡ lift (outcome_of (Err x))
    unfolding check_fits program fits_at range_error_at expr_at outcome_of refusal fail lift
    check_range is h x ex =
        pick_no (fits_at tree text e y expected) _ _ no ∙ pick_yes (range_error_at tree text e y expected) _ _ h
        ∙ rw (ex, place_is tree text e is.expression)

    pub check-place : range_error_at tree text e y expected ≡ false → (x : ConvertError) → x ≡ record { kind = kind; place = place }
        → check_fits (program tree text) F (expr_at tree text e) y expected kind place ≡ lift (outcome_of (Err x))
    unfolding check_fits program fits_at range_error_at expr_at outcome_of refusal fail lift
    check-place h x ex =
        pick_no (fits_at tree text e y expected) _ _ no ∙ pick_no (range_error_at tree text e y expected) _ _ h ∙ rw ex
