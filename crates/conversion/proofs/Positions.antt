-- A call without a type argument before a value is fitted as the Rust does it: the k-th value stands at position k.
-- By the arguments, one after the other. Assumes nothing.
use mathlib.Core.Path.{◌≡◌, refl, ap}
use Prim.Native.Nat.{ℕ, zero, suc, ◌<◌}
use mathlib.Core.Bool.{Bool, false}
use mathlib.Core.List.{List}
use lib.Dec.{ltb}
use borrow.Author.Tests.{ltb-false}
use native.Mathlib.Omega.{arith}
use Rattle.syntax.specs.Syntax.{Args, no_args, Value, ToType, Param}
use Rattle.syntax.specs.Count.{args_values}
use Rattle.conversion.specs.Statements.{parameter_type, value_position, expected_type}

-- whether a type argument stands before a value
unfoldable pub type_before : Args → Bool
unfolding args_values
type_before no_args = false
type_before (Value r e l) = type_before l
type_before (ToType r y l) = ltb 0 (args_values l)

pub same-position : (l : Args) (k : ℕ) → type_before l ≡ false → k < args_values l → value_position l k ≡ k
unfolding type_before value_position args_values
same-position no_args k e h = refl
same-position (Value r x l) zero e h = refl
same-position (Value r x l) (suc k) e h = ap suc (same-position l k e (omega arith))
same-position (ToType r y l) k e h = absurd (omega (arith, ltb-false 0 (args_values l) e))

-- so it goes to the k-th parameter
pub same_type_lem : (ps : List Param) (l : Args) (k : ℕ) → type_before l ≡ false → k < args_values l → expected_type ps l k ≡ parameter_type ps k
unfolding expected_type
same_type_lem ps l k e h = ap (parameter_type ps) (same-position l k e h)
