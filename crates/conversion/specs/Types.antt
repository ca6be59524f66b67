-- types.rs: literals, what fits where, casts; and `Type::size`. Equality of types is equality of record numbers, since in a good tree no two
-- types are equal. Assumes nothing: these are definitions.
use Rattle.std.specs.Prelude.{ℕ, ◌*◌, ◌^◌, Bool, true, ◌&&◌, ◌||◌, List, [], ◌∷◌, ltb, ℤ, pos, negsuc, Float}
use Rattle.std.proofs.Math.Bool.{false, not}
use Rattle.std.proofs.Math.Option.{Option, none, some}
use Rattle.std.proofs.Math.Dec.{eqb}
use Rattle.std.proofs.Math.ListN.{get_or}
use Rattle.std.specs.Float.Ieee as Ieee
use Rattle.std.specs.Float.{nan, inf, fin, binary64}
use Rattle.laws.specs.Fix.{pick, below, fix}
use Rattle.syntax.specs.Syntax.{Ty, TInt, TFloat, TBool, TChar, TByte, TAddress, TArray, TCustom, TNull, UnaryOp, Neg, BitNot, Not, BinaryOp, Or, And, BitOr, BitXor, BitAnd, Eq, NotEq, Lt, Le, Gt, Ge, Shl, Shr, Add, Sub, Mul, Div, Rem, Expr, EInt, EFloat, EStr, EBool, EName, ENull, ESizeOf, EUnary, EBinary, ECall, null_type}
use Rattle.int128.specs.Ops.{neg_of, not_of, add_of, sub_of, mul_of, div_of, rem_of, and_of, or_of, xor_of, shl_of, shr_of, by_count, int_fits}

-- ---- a type taken apart: `matches!(ty, Type::Int { .. })` and its like

-- what f says of an Int, else d
unfoldable pub on_int : {X : Type 0} → Ty → X → (Bool → Bool → X) → X
on_int (TInt s u) d f = f s u
on_int (TFloat s) d f = d
on_int TBool d f = d
on_int TChar d f = d
on_int TByte d f = d
on_int (TAddress y) d f = d
on_int (TArray y n) d f = d
on_int (TCustom t) d f = d
on_int TNull d f = d

unfoldable pub on_float : {X : Type 0} → Ty → X → (Bool → X) → X
on_float (TFloat s) d f = f s
on_float (TInt s u) d f = d
on_float TBool d f = d
on_float TChar d f = d
on_float TByte d f = d
on_float (TAddress y) d f = d
on_float (TArray y n) d f = d
on_float (TCustom t) d f = d
on_float TNull d f = d

unfoldable pub on_address : {X : Type 0} → Ty → X → (ℕ → X) → X
on_address (TAddress y) d f = f y
on_address (TInt s u) d f = d
on_address (TFloat s) d f = d
on_address TBool d f = d
on_address TChar d f = d
on_address TByte d f = d
on_address (TArray y n) d f = d
on_address (TCustom t) d f = d
on_address TNull d f = d

unfoldable pub is_int : Ty → Bool
unfolding on_int
is_int t = on_int t false (λ s u. true)

unfoldable pub is_float : Ty → Bool
unfolding on_float
is_float t = on_float t false (λ s. true)

-- `is_number`
unfoldable pub is_number : Ty → Bool
unfolding is_int is_float
is_number t = is_int t || is_float t

-- ---- `int_value`: 'An integer constant folds in 128 bits; overflow, zero divisor and a count outside 0 to 127 fold to nothing'

-- two whole numbers are the same
unfoldable pub same_int : ℤ → ℤ → Bool
same_int (pos m) (pos n) = eqb m n
same_int (pos m) (negsuc n) = false
same_int (negsuc m) (pos n) = false
same_int (negsuc m) (negsuc n) = eqb m n

unfoldable pub fold_unary : UnaryOp → Option ℤ → Option ℤ
fold_unary o none = none
fold_unary Neg (some v) = neg_of v
fold_unary BitNot (some v) = some (not_of v)
fold_unary Not (some v) = none

-- document 02, point 6: 'a left shift folds to nothing unless the shifted value, taken back right by the same count, gives the old one'

-- v, where what it was taken back to is a
unfoldable pub kept_if : ℤ → ℤ → Option ℤ → Option ℤ
unfolding pick same_int
kept_if a v none = none
kept_if a v (some w) = pick (same_int w a) (some v) none

-- a shifted value, taken back by b
unfoldable pub taken_back : ℤ → ℤ → Option ℤ → Option ℤ
unfolding kept_if
taken_back a b none = none
taken_back a b (some v) = kept_if a v (by_count (shr_of v) b)

-- a << b where no bit is lost
unfoldable pub shl_kept : ℤ → ℤ → Option ℤ
unfolding taken_back
shl_kept a b = taken_back a b (by_count (shl_of a) b)

unfoldable pub fold_two : BinaryOp → ℤ → ℤ → Option ℤ
unfolding shl_kept
fold_two Add a b = add_of a b
fold_two Sub a b = sub_of a b
fold_two Mul a b = mul_of a b
fold_two Div a b = div_of a b
fold_two Rem a b = rem_of a b
fold_two BitAnd a b = some (and_of a b)
fold_two BitOr a b = some (or_of a b)
fold_two BitXor a b = some (xor_of a b)
fold_two Shl a b = shl_kept a b
fold_two Shr a b = by_count (shr_of a) b
fold_two Or a b = none
fold_two And a b = none
fold_two Eq a b = none
fold_two NotEq a b = none
fold_two Lt a b = none
fold_two Le a b = none
fold_two Gt a b = none
fold_two Ge a b = none

unfoldable pub fold_binary : BinaryOp → Option ℤ → Option ℤ → Option ℤ
unfolding fold_two
fold_binary o none b = none
fold_binary o (some a) none = none
fold_binary o (some a) (some b) = fold_two o a b

unfoldable pub int_value : Expr → Option ℤ
unfolding fold_unary fold_binary
int_value (EInt r v s u) = some v
int_value (EUnary r o a) = fold_unary o (int_value a)
int_value (EBinary r o a b) = fold_binary o (int_value a) (int_value b)
int_value (EFloat r b s) = none
int_value (EStr r o n t) = none
int_value (EBool r b) = none
int_value (EName r t) = none
int_value (ENull r) = none
int_value (ESizeOf r y) = none
int_value (ECall r v l) = none

-- ---- `float_value`: folded in f64, by IEEE 754; a NaN is a value

unfoldable pub neg_float : UnaryOp → Option Float → Option Float
unfolding Ieee.neg
neg_float o none = none
neg_float Neg (some v) = some (Ieee.neg v)
neg_float BitNot (some v) = none
neg_float Not (some v) = none

unfoldable pub float_two : BinaryOp → Float → Float → Option Float
unfolding Ieee.add Ieee.sub Ieee.mul Ieee.div
float_two Add a b = some (Ieee.add binary64 a b)
float_two Sub a b = some (Ieee.sub binary64 a b)
float_two Mul a b = some (Ieee.mul binary64 a b)
float_two Div a b = some (Ieee.div binary64 a b)
float_two Or a b = none
float_two And a b = none
float_two BitOr a b = none
float_two BitXor a b = none
float_two BitAnd a b = none
float_two Eq a b = none
float_two NotEq a b = none
float_two Lt a b = none
float_two Le a b = none
float_two Gt a b = none
float_two Ge a b = none
float_two Shl a b = none
float_two Shr a b = none
float_two Rem a b = none

unfoldable pub float_binary : BinaryOp → Option Float → Option Float → Option Float
unfolding float_two
float_binary o none b = none
float_binary o (some a) none = none
float_binary o (some a) (some b) = float_two o a b

unfoldable pub float_value : Expr → Option Float
unfolding Ieee.of_bits neg_float float_binary
float_value (EFloat r b s) = some (Ieee.of_bits binary64 b)
float_value (EUnary r o a) = neg_float o (float_value a)
float_value (EBinary r o a b) = float_binary o (float_value a) (float_value b)
float_value (EInt r v s u) = none
float_value (EStr r o n t) = none
float_value (EBool r b) = none
float_value (EName r t) = none
float_value (ENull r) = none
float_value (ESizeOf r y) = none
float_value (ECall r v l) = none

-- ---- what fits; `int_fits` stands with the integers

-- `float_fits`: 'finite and, for a short one, no further from zero than bits 47EFFFFFE0000000'
unfoldable pub float_fits : Float → Bool → Bool
unfolding Ieee.of_bits Ieee.le
float_fits nan short = false
float_fits (inf s) short = false
float_fits (fin s m e) short = not short || Ieee.le (fin false m e) (Ieee.of_bits binary64 0x47EFFFFFE0000000)

-- `is_some_and`
unfoldable pub some_and : {X : Type 0} → Option X → (X → Bool) → Bool
some_and none p = false
some_and (some x) p = p x

unfoldable pub is_some : {X : Type 0} → Option X → Bool
unfolding some_and
is_some o = some_and o (λ x. true)

unfoldable pub is_null_literal : Expr → Bool
is_null_literal (ENull r) = true
is_null_literal (EInt r v s u) = false
is_null_literal (EFloat r b s) = false
is_null_literal (EStr r o n t) = false
is_null_literal (EBool r b) = false
is_null_literal (EName r t) = false
is_null_literal (ESizeOf r y) = false
is_null_literal (EUnary r o a) = false
is_null_literal (EBinary r o a b) = false
is_null_literal (ECall r v l) = false

-- e, of the first type, into a place of the second, the two not being equal
unfoldable pub fits_into : Expr → Ty → Ty → Bool
unfolding on_int on_float on_address int_value float_value float_fits some_and is_null_literal
fits_into e (TInt s u) x = on_int x false (λ short unsigned. some_and (int_value e) (λ v. int_fits v short unsigned))
fits_into e (TFloat s) x = on_float x false (λ short. some_and (float_value e) (λ v. float_fits v short))
fits_into e TNull x = on_address x false (λ y. is_null_literal e)
fits_into e (TAddress from) x = on_address x false (λ to. eqb from null_type || eqb to null_type)
fits_into e TBool x = false
fits_into e TChar x = false
fits_into e TByte x = false
fits_into e (TArray y n) x = false
fits_into e (TCustom t) x = false

-- a literal of the first type where the second is expected
unfoldable pub is_literal : Expr → Ty → Ty → Bool
unfolding on_int on_float int_value float_value is_some
is_literal e (TInt s u) x = on_int x false (λ short unsigned. is_some (int_value e))
is_literal e (TFloat s) x = on_float x false (λ short. is_some (float_value e))
is_literal e TNull x = false
is_literal e (TAddress from) x = false
is_literal e TBool x = false
is_literal e TChar x = false
is_literal e TByte x = false
is_literal e (TArray y n) x = false
is_literal e (TCustom t) x = false

-- ---- casts: 'by class of source against class of target (other scalar, long Int, address, Null, rest), equal types always'

unfoldable pub cast_class : Ty → ℕ
cast_class (TInt true u) = 0
cast_class (TInt false u) = 1
cast_class (TFloat s) = 0
cast_class TBool = 0
cast_class TChar = 0
cast_class TByte = 0
cast_class (TAddress y) = 2
cast_class TNull = 3
cast_class (TArray y n) = 4
cast_class (TCustom t) = 4

-- a row for each source, in the order of the classes
abbrev pub cast_table : List (List Bool)
cast_table =
    (true ∷ true ∷ false ∷ false ∷ false ∷ [])
    ∷ (true ∷ true ∷ true ∷ false ∷ false ∷ [])
    ∷ (false ∷ true ∷ true ∷ false ∷ false ∷ [])
    ∷ (false ∷ true ∷ true ∷ false ∷ false ∷ [])
    ∷ (false ∷ false ∷ false ∷ false ∷ false ∷ [])
    ∷ []

-- ---- `Type::size`, exact; nothing where the Rust is not implemented

-- s times n
unfoldable pub times_size : Option ℕ → ℕ → Option ℕ
times_size none n = none
times_size (some s) n = some (s * n)

-- by g, the size of a lower type record
unfoldable pub size_by : (ℕ → Option ℕ) → Ty → Option ℕ
unfolding pick times_size
size_by g (TInt short u) = some (pick short 4 8)
size_by g (TFloat short) = some (pick short 4 8)
size_by g (TAddress y) = some 8
size_by g (TArray y n) = times_size (g y) n
size_by g TChar = some 1
size_by g TByte = some 1
size_by g TBool = some 1
size_by g (TCustom t) = none
size_by g TNull = none

-- '27: SizeOf of Custom, Null, an array of these, or over 2^63 − 1 bytes'
unfoldable pub size_within : Option ℕ → Option ℕ
unfolding pick
size_within none = none
size_within (some n) = pick (ltb n (2 ^ 63)) (some n) none

module _ (type_of : ℕ → Ty) where
  -- `fits`
  unfoldable pub fits : Expr → ℕ → ℕ → Bool
  unfolding fits_into
  fits e ty expected = eqb ty expected || fits_into e (type_of ty) (type_of expected)

  -- `range_error`: whether there is one; it is LiteralOutOfRange at e
  unfoldable pub range_error : Expr → ℕ → ℕ → Bool
  unfolding fits is_literal
  range_error e ty expected = is_literal e (type_of ty) (type_of expected) && not (fits e ty expected)

  -- `can_cast`
  unfoldable pub can_cast : ℕ → ℕ → Bool
  unfolding cast_class
  can_cast from to = eqb from to || get_or (get_or cast_table (cast_class (type_of from)) []) (cast_class (type_of to)) false

  unfoldable pub size_step : (ℕ → Option ℕ) → ℕ → Option ℕ
  unfolding below size_by
  size_step g y = size_by (λ k. below g y k none) (type_of y)

  unfoldable pub size : ℕ → Option ℕ
  unfolding fix size_step size_within
  size y = size_within (fix none size_step y)
