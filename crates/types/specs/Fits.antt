-- `fits` and `range_error` at records of a tree. Assumes nothing: these are definitions.
use Rattle.std.specs.Prelude.{ℕ, ◌+◌, ◌*◌, ◌%◌, ◌≤◌, Bool, List, length, ℤ}
use Rattle.records.specs.Words.{record_bytes, detail_of}
use Rattle.int128.specs.Ops.{int_fits}
use Rattle.syntax.specs.Decode.{expr_of, node, type_at, bit}
use Rattle.conversion.specs.Types.{fits_into, is_literal, fits, range_error}

-- record y is one of the tree, and its detail one of a type's: '1 Int, 2 Float, .. 9 Null', marks aside
pub record IsType (tree : List ℕ) (y : ℕ) : Type 0 where
  pub inside : y * record_bytes + record_bytes ≤ length tree
  pub least : 1 ≤ detail_of tree y % 16
  pub most : detail_of tree y % 16 ≤ 9

-- v is in the range that the marks of the integer type y say: of weight 16 short, of weight 32 unsigned
abbrev pub in_range_of : List ℕ → ℕ → ℤ → Bool
in_range_of tree y v = int_fits v (bit 16 (detail_of tree y)) (bit 32 (detail_of tree y))

module _ (tree text : List ℕ) (e ty expected : ℕ) where
  unfoldable pub fits_at : Bool
  unfolding fits
  fits_at = fits (type_at tree text) (expr_of (node tree text e)) ty expected

  unfoldable pub range_error_at : Bool
  unfolding range_error
  range_error_at = range_error (type_at tree text) (expr_of (node tree text e)) ty expected

  -- their parts, the types taken apart
  unfoldable pub into_at : Bool
  unfolding fits_into
  into_at = fits_into (expr_of (node tree text e)) (type_at tree text ty) (type_at tree text expected)

  unfoldable pub literal_at : Bool
  unfolding is_literal
  literal_at = is_literal (expr_of (node tree text e)) (type_at tree text ty) (type_at tree text expected)
