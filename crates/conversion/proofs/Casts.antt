-- The table of casts says what the Rust's `can_cast` says, between types that are not equal.
-- By cases on the target's type in each row. Assumes nothing.
use mathlib.Core.Path.{◌≡◌, refl}
use mathlib.Core.Bool.{Bool, true, false, ◌&&◌, ◌||◌}
use mathlib.Core.List.{[]}
use Prim.Native.Nat.{ℕ}
use lib.Dec.{eqb}
use lib.ListN.{get_or}
use Rattle.syntax.specs.Syntax.{Ty, TInt, TFloat, TBool, TChar, TByte, TAddress, TArray, TCustom, TNull}
use Rattle.conversion.specs.Types.{cast_class, cast_table, can_cast}

-- the Rust's closures: `scalar`, `address`, `long`, and matches!(to, Type::Address(_))
unfoldable pub scalar : Ty → Bool
scalar (TInt true u) = true
scalar (TInt false u) = true
scalar (TFloat s) = true
scalar TBool = true
scalar TChar = true
scalar TByte = true
scalar (TAddress y) = false
scalar TNull = false
scalar (TArray y n) = false
scalar (TCustom t) = false

unfoldable pub address : Ty → Bool
address (TInt true u) = false
address (TInt false u) = false
address (TFloat s) = false
address TBool = false
address TChar = false
address TByte = false
address (TAddress y) = true
address TNull = true
address (TArray y n) = false
address (TCustom t) = false

unfoldable pub long : Ty → Bool
long (TInt true u) = false
long (TInt false u) = true
long (TFloat s) = false
long TBool = false
long TChar = false
long TByte = false
long (TAddress y) = false
long TNull = false
long (TArray y n) = false
long (TCustom t) = false

unfoldable pub is_address : Ty → Bool
is_address (TInt true u) = false
is_address (TInt false u) = false
is_address (TFloat s) = false
is_address TBool = false
is_address TChar = false
is_address TByte = false
is_address (TAddress y) = true
is_address TNull = false
is_address (TArray y n) = false
is_address (TCustom t) = false

-- `can_cast` but for equal types
unfoldable pub cast_rule : Ty → Ty → Bool
unfolding scalar address long is_address
cast_rule from to = (scalar from && scalar to) || (address from && (is_address to || long to)) || (long from && is_address to)

-- what the table says of a source of class k
abbrev pub entry : ℕ → Ty → Bool
entry k to = get_or (get_or cast_table k []) (cast_class to) false

row0 : (to : Ty) → entry 0 to ≡ cast_rule (TInt true false) to
unfolding cast_class cast_rule
row0 (TInt true u) = refl
row0 (TInt false u) = refl
row0 (TFloat s) = refl
row0 TBool = refl
row0 TChar = refl
row0 TByte = refl
row0 (TAddress y) = refl
row0 TNull = refl
row0 (TArray y n) = refl
row0 (TCustom t) = refl

row1 : (to : Ty) → entry 1 to ≡ cast_rule (TInt false false) to
unfolding cast_class cast_rule
row1 (TInt true u) = refl
row1 (TInt false u) = refl
row1 (TFloat s) = refl
row1 TBool = refl
row1 TChar = refl
row1 TByte = refl
row1 (TAddress y) = refl
row1 TNull = refl
row1 (TArray y n) = refl
row1 (TCustom t) = refl

row2 : (to : Ty) → entry 2 to ≡ cast_rule (TAddress 0) to
unfolding cast_class cast_rule
row2 (TInt true u) = refl
row2 (TInt false u) = refl
row2 (TFloat s) = refl
row2 TBool = refl
row2 TChar = refl
row2 TByte = refl
row2 (TAddress y) = refl
row2 TNull = refl
row2 (TArray y n) = refl
row2 (TCustom t) = refl

row3 : (to : Ty) → entry 3 to ≡ cast_rule TNull to
unfolding cast_class cast_rule
row3 (TInt true u) = refl
row3 (TInt false u) = refl
row3 (TFloat s) = refl
row3 TBool = refl
row3 TChar = refl
row3 TByte = refl
row3 (TAddress y) = refl
row3 TNull = refl
row3 (TArray y n) = refl
row3 (TCustom t) = refl

row4 : (to : Ty) → entry 4 to ≡ cast_rule (TArray 0 0) to
unfolding cast_class cast_rule
row4 (TInt true u) = refl
row4 (TInt false u) = refl
row4 (TFloat s) = refl
row4 TBool = refl
row4 TChar = refl
row4 TByte = refl
row4 (TAddress y) = refl
row4 TNull = refl
row4 (TArray y n) = refl
row4 (TCustom t) = refl

pub cast_rule_lem : (from to : Ty) → entry (cast_class from) to ≡ cast_rule from to
unfolding cast_class cast_rule
cast_rule_lem (TInt true u) to = row0 to
cast_rule_lem (TInt false u) to = row1 to
cast_rule_lem (TFloat s) to = row0 to
cast_rule_lem TBool to = row0 to
cast_rule_lem TChar to = row0 to
cast_rule_lem TByte to = row0 to
cast_rule_lem (TAddress y) to = row2 to
cast_rule_lem TNull to = row3 to
cast_rule_lem (TArray y n) to = row4 to
cast_rule_lem (TCustom t) to = row4 to

pub can_cast-is : (type_of : ℕ → Ty) (from to : ℕ) → can_cast type_of from to ≡ (eqb from to || cast_rule (type_of from) (type_of to))
unfolding can_cast
can_cast-is type_of from to = rw (← cast_rule_lem (type_of from) (type_of to))
