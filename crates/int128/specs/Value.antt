-- The whole number that an `Int128` stands for, and the number that an answer holds.
-- The numbers are the library's integers ℤ: `pos n` is n, and `negsuc n` is -(n + 1). Two's complement is the library's own, which the
-- machine's signed operations are stated by: `to_z w128 n` reads 128 bits as a signed number, `of_z w128 z` gives the bits of z.
use Rattle.std.specs.Prelude.{ℕ, ◌+◌, ◌*◌, ◌^◌, ℤ, pos, Some, None}
use Rattle.std.specs.Prelude as Std
use Rattle.std.proofs.Math.Option.{Option, none, some}
use Rattle.std.specs.Int.{w128}
use Rattle.std.proofs.Common.{to_z}
use Rattle.int128.specs.declared.Int128.{Int128}

-- the 128 bits as one number below 2 ^ 128: the upper half, then the lower
abbrev pub bits_of : Int128 → ℕ
bits_of x = x.hi * 2 ^ 64 + x.lo

-- hi * 2 ^ 64 + lo, less 2 ^ 128 where that is 2 ^ 127 or more (where hi is 2 ^ 63 or more)
abbrev pub value_of : Int128 → ℤ
value_of x = to_z w128 (bits_of x)

-- the number that an answer holds, if any
abbrev pub checked_of : Std.Option Int128 → Option ℤ
checked_of (Some x) = some (value_of x)
checked_of None = none

abbrev pub checked_u64_of : Std.Option ℕ → Option ℤ
checked_u64_of (Some x) = some (pos x)
checked_u64_of None = none

abbrev pub checked_i64_of : Std.Option ℤ → Option ℤ
checked_i64_of (Some x) = some x
checked_i64_of None = none
