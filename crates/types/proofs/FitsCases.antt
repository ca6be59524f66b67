-- `fits` and `range_error`, as the code meets them: by the forms of the two types, and by what a constant folds to.
-- Each takes the types apart by their forms. Assumes nothing.
use mathlib.Core.Path.{◌≡◌, refl, sym, ap, ◌∙◌}
use mathlib.Core.Bool.{Bool, true, false, not, ◌||◌}
use mathlib.Core.List.{List}
use mathlib.Core.Option.{Option}
use Prim.Native.Nat.{ℕ, ◌%◌, ◌≤◌}
use native.Mathlib.Omega.{arith}
use lib.Dec.{eqb}
use lib.IntN.{ℤ}
use lib.Ieee.{Float}
use borrow.Author.Tests.{eq-eqb, ne_eqb}
use Rattle.records.specs.Words.{detail_of, word_of}
use Rattle.int128.specs.declared.Int128.{Int128}
use Rattle.std.specs.Prelude as Std
use Rattle.std.specs.Prelude.{Some, None}
use Rattle.int128.specs.Value.{checked_of}
use Rattle.int128.specs.Ops.{int_fits}
use Rattle.syntax.specs.Decode.{bit, expr_of, node, type_at}
use Rattle.conversion.specs.Types.{on_int, on_float, on_address, some_and, is_some, int_value, float_value, float_fits, is_null_literal, fits_into, is_literal, fits, range_error}
use Rattle.types.specs.declared.float_value.FloatValue.{FloatValue}
use Rattle.types.specs.declared.float_value.FloatValue.TheVariants as F
use Rattle.types.specs.Floats.{float_of}
use Rattle.types.specs.Fits.{fits_at, into_at, literal_at, range_error_at}
use Rattle.types.proofs.TypeCases.{type-is, type_int, type_float, type_address, type_null, by_form}

-- ---- what a constant folds to

module _ (o : Option ℤ) (x : Std.Option Int128) (ex : checked_of x ≡ o) where
  pub int-is_some : Std.is_some x ≡ is_some o
  unfolding is_some some_and
  int-is_some = told x ∙ ap is_some ex
    where
      told : (y : Std.Option Int128) → Std.is_some y ≡ is_some (checked_of y)
      told (Some v) = refl
      told None = refl

module _ (o : Option Float) (x : Std.Option FloatValue) (ex : float_of x ≡ o) where
  pub float_fits-value : (v : Float) → x ≡ Some (F.Value v) → (s a r : Bool) → s ≡ a → r ≡ float_fits v s → r ≡ some_and o (λ z. float_fits z a)
  unfolding some_and float_of
  float_fits-value v e s a r es er = rw (← ex, e, ← es) er

  pub float_fits_nan : x ≡ Some F.Nan → (a : Bool) → false ≡ some_and o (λ z. float_fits z a)
  unfolding some_and float_of float_fits
  float_fits_nan e a = rw (← ex, e)

  pub float_fits_nothing : x ≡ None → (p : Float → Bool) → false ≡ some_and o p
  unfolding some_and float_of
  float_fits_nothing e p = rw (← ex, e)

  pub float-is_some : Std.is_some x ≡ is_some o
  unfolding is_some some_and float_of
  float-is_some = told x ∙ ap is_some ex
    where
      told : (y : Std.Option FloatValue) → Std.is_some y ≡ is_some (float_of y)
      told (Some (F.Value v)) = refl
      told (Some F.Nan) = refl
      told None = refl

-- ---- a type of another form

module _ (tree text : List ℕ) (y : ℕ) where
  pub on_int-no : {X : Type 0} (g : ℕ) → g ≡ detail_of tree y % 16 → (g ≡ 1 → ⊥) → (d : X) (h : Bool → Bool → X) → on_int (type_at tree text y) d h ≡ d
  unfolding on_int
  on_int-no g eg n d h = rw (type-is tree text y g eg) (by_form tree text y (λ k t. (k ≡ 1 → ⊥) → on_int t d h ≡ d)
      (λ m. refl) (λ m. absurd (m refl)) (λ m. refl) (λ m. refl) (λ m. refl) (λ m. refl) (λ m. refl) (λ m. refl) (λ m. refl) (λ k l m. refl) g n)

  pub on_float-no : {X : Type 0} (g : ℕ) → g ≡ detail_of tree y % 16 → (g ≡ 2 → ⊥) → (d : X) (h : Bool → X) → on_float (type_at tree text y) d h ≡ d
  unfolding on_float
  on_float-no g eg n d h = rw (type-is tree text y g eg) (by_form tree text y (λ k t. (k ≡ 2 → ⊥) → on_float t d h ≡ d)
      (λ m. refl) (λ m. refl) (λ m. absurd (m refl)) (λ m. refl) (λ m. refl) (λ m. refl) (λ m. refl) (λ m. refl) (λ m. refl) (λ k l m. refl) g n)

  pub on_address-no : {X : Type 0} (g : ℕ) → g ≡ detail_of tree y % 16 → (g ≡ 6 → ⊥) → (d : X) (h : ℕ → X) → on_address (type_at tree text y) d h ≡ d
  unfolding on_address
  on_address-no g eg n d h = rw (type-is tree text y g eg) (by_form tree text y (λ k t. (k ≡ 6 → ⊥) → on_address t d h ≡ d)
      (λ m. refl) (λ m. refl) (λ m. refl) (λ m. refl) (λ m. refl) (λ m. refl) (λ m. absurd (m refl)) (λ m. refl) (λ m. refl) (λ k l m. refl) g n)

-- ---- the two types

module _ (tree text : List ℕ) (e ty expected f : ℕ) (ef : f ≡ detail_of tree ty % 16) (g : ℕ) (eg : g ≡ detail_of tree expected % 16) where
  module _ (q : f ≡ 1) where
    pub into_int : g ≡ 1 → (r : Bool)
        → r ≡ some_and (int_value (expr_of (node tree text e))) (λ v. int_fits v (bit 16 (detail_of tree expected)) (bit 32 (detail_of tree expected)))
        → r ≡ into_at tree text e ty expected
    unfolding into_at fits_into on_int
    into_int p r h = rw (type_int tree text ty f ef q, type_int tree text expected g eg p) h

    pub into_int_no : (g ≡ 1 → ⊥) → false ≡ into_at tree text e ty expected
    unfolding into_at fits_into
    into_int_no n = rw (type_int tree text ty f ef q) (sym (on_int-no tree text expected g eg n _ _))

    pub literal_int : g ≡ 1 → (r : Bool) → r ≡ is_some (int_value (expr_of (node tree text e))) → r ≡ literal_at tree text e ty expected
    unfolding literal_at is_literal on_int
    literal_int p r h = rw (type_int tree text ty f ef q, type_int tree text expected g eg p) h

    pub literal_int_no : (g ≡ 1 → ⊥) → false ≡ literal_at tree text e ty expected
    unfolding literal_at is_literal
    literal_int_no n = rw (type_int tree text ty f ef q) (sym (on_int-no tree text expected g eg n _ _))

  module _ (q : f ≡ 2) where
    pub into_float : g ≡ 2 → (r : Bool) → r ≡ some_and (float_value (expr_of (node tree text e))) (λ v. float_fits v (bit 16 (detail_of tree expected)))
        → r ≡ into_at tree text e ty expected
    unfolding into_at fits_into on_float
    into_float p r h = rw (type_float tree text ty f ef q, type_float tree text expected g eg p) h

    pub into_float_no : (g ≡ 2 → ⊥) → false ≡ into_at tree text e ty expected
    unfolding into_at fits_into
    into_float_no n = rw (type_float tree text ty f ef q) (sym (on_float-no tree text expected g eg n _ _))

    pub literal_float : g ≡ 2 → (r : Bool) → r ≡ is_some (float_value (expr_of (node tree text e))) → r ≡ literal_at tree text e ty expected
    unfolding literal_at is_literal on_float
    literal_float p r h = rw (type_float tree text ty f ef q, type_float tree text expected g eg p) h

    pub literal_float_no : (g ≡ 2 → ⊥) → false ≡ literal_at tree text e ty expected
    unfolding literal_at is_literal
    literal_float_no n = rw (type_float tree text ty f ef q) (sym (on_float-no tree text expected g eg n _ _))

  pub into_address : f ≡ 6 → g ≡ 6 → (r : Bool) → r ≡ (eqb (word_of tree ty 0) 9 || eqb (word_of tree expected 0) 9) → r ≡ into_at tree text e ty expected
  unfolding into_at fits_into on_address
  into_address q p r h = rw (type_address tree text ty f ef q, type_address tree text expected g eg p) h

  pub into_null : f ≡ 9 → g ≡ 6 → (r : Bool) → r ≡ is_null_literal (expr_of (node tree text e)) → r ≡ into_at tree text e ty expected
  unfolding into_at fits_into on_address
  into_null q p r h = rw (type_null tree text ty f ef (omega arith), type_address tree text expected g eg p) h

  module _ (n₁ : f ≡ 1 → ⊥) (n₂ : f ≡ 2 → ⊥) where
    pub into_rest : (f ≡ 6 → ⊥) → (f ≡ 9 → ⊥) → 1 ≤ detail_of tree ty % 16 → detail_of tree ty % 16 ≤ 9 → false ≡ into_at tree text e ty expected
    unfolding into_at fits_into
    into_rest n₆ n₉ h l = rw (type-is tree text ty f ef) (by_form tree text ty
        (λ k t. (k ≡ 1 → ⊥) → (k ≡ 2 → ⊥) → (k ≡ 6 → ⊥) → (k ≡ 9 → ⊥) → 1 ≤ k → k ≤ 9 → false ≡ fits_into (expr_of (node tree text e)) t (type_at tree text expected))
        (λ a b c d i j. absurd (omega arith)) (λ a b c d i j. absurd (a refl)) (λ a b c d i j. absurd (b refl)) (λ a b c d i j. refl) (λ a b c d i j. refl) (λ a b c d i j. refl) (λ a b c d i j. absurd (c refl)) (λ a b c d i j. refl) (λ a b c d i j. refl)
        (λ k m a b c d i j. absurd (d (omega arith))) f n₁ n₂ n₆ n₉ (omega arith) (omega arith))

    pub into_far : (g ≡ 6 → ⊥) → false ≡ into_at tree text e ty expected
    unfolding into_at fits_into
    into_far n = rw (type-is tree text ty f ef) (by_form tree text ty
        (λ k t. (k ≡ 1 → ⊥) → (k ≡ 2 → ⊥) → false ≡ fits_into (expr_of (node tree text e)) t (type_at tree text expected))
        (λ a b. sym (on_address-no tree text expected g eg n _ _)) (λ a b. absurd (a refl)) (λ a b. absurd (b refl)) (λ a b. refl) (λ a b. refl) (λ a b. refl) (λ a b. sym (on_address-no tree text expected g eg n _ _)) (λ a b. refl) (λ a b. refl)
        (λ k m a b. sym (on_address-no tree text expected g eg n _ _)) f n₁ n₂)

    pub literal-rest : false ≡ literal_at tree text e ty expected
    unfolding literal_at is_literal
    literal-rest = rw (type-is tree text ty f ef) (by_form tree text ty
        (λ k t. (k ≡ 1 → ⊥) → (k ≡ 2 → ⊥) → false ≡ is_literal (expr_of (node tree text e)) t (type_at tree text expected))
        (λ a b. refl) (λ a b. absurd (a refl)) (λ a b. absurd (b refl)) (λ a b. refl) (λ a b. refl) (λ a b. refl) (λ a b. refl) (λ a b. refl) (λ a b. refl) (λ k m a b. refl) f n₁ n₂)

module _ (tree text : List ℕ) (e ty expected : ℕ) where
  pub fits-same : ty ≡ expected → true ≡ fits_at tree text e ty expected
  unfolding fits_at fits
  fits-same q = rw (eq-eqb ty expected q)

  pub fits-other : (ty ≡ expected → ⊥) → (r : Bool) → r ≡ into_at tree text e ty expected → r ≡ fits_at tree text e ty expected
  unfolding fits_at fits into_at
  fits-other n r h = rw (ne_eqb ty expected n) h

  module _ (l : Bool) (el : l ≡ literal_at tree text e ty expected) where
    pub range_yes : l ≡ true → (r : Bool) → r ≡ fits_at tree text e ty expected → not r ≡ range_error_at tree text e ty expected
    unfolding range_error_at range_error literal_at fits_at
    range_yes q r h = rw (sym el ∙ q) (ap not h)

    pub range_no : l ≡ false → false ≡ range_error_at tree text e ty expected
    unfolding range_error_at range_error literal_at
    range_no q = rw (sym el ∙ q)
