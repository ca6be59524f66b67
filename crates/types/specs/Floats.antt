-- The float that a folded constant stands for. Assumes nothing: these are definitions.
use Rattle.std.specs.Prelude as Std
use Rattle.std.specs.Prelude.{Bool, true, false, ◌&&◌, Float, Some, None}
use Rattle.std.proofs.Math.Option.{Option, none, some}
use Rattle.std.specs.Float.{nan, inf, fin, binary64}
use Rattle.std.specs.Float.Ieee.{le, neg, of_bits}
use Rattle.types.specs.declared.float_value.FloatValue.{FloatValue}
use Rattle.types.specs.declared.float_value.FloatValue.TheVariants.{Value, Nan}

-- a NaN is a value too: 'a literal that fits nowhere'
unfoldable pub float_of : Std.Option FloatValue → Option Float
float_of (Some (Value x)) = some x
float_of (Some Nan) = some nan
float_of None = none

-- `is_finite`
unfoldable pub finite : Float → Bool
finite nan = false
finite (inf s) = false
finite (fin s m e) = true

-- 'no further from zero than bits 47EFFFFFE0000000'
unfoldable pub small : Float → Bool
small x = le x (of_bits binary64 0x47EFFFFFE0000000) && le (neg (of_bits binary64 0x47EFFFFFE0000000)) x
