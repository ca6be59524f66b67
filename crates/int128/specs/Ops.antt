-- What each operation of `i128` answers, as the Rust library documents it, over whole numbers: `checked_add` "returning None if overflow
-- occurred", `checked_div` and `checked_rem` "returning None if rhs == 0 or the division results in overflow", `checked_shl` and
-- `checked_shr` "returning None if rhs is larger than or equal to the number of bits".
use Rattle.std.specs.Prelude as Std
use Rattle.std.specs.Prelude.{ℕ, Some, None, ◌≡◌, ◌≤◌, ◌-◌, ◌*◌, ◌%◌, ◌^◌, Bool, true, false, cond, ◌&&◌, ltb, eqb, ℤ, pos, negsuc, neg_ℤ, nat_abs, ◌+ℤ◌, ◌-ℤ◌, ◌*ℤ◌}
use Rattle.std.proofs.Math.Option.{Option, none, some, map}
use Rattle.std.specs.Int.Signed.{le_z, lt_z, quot_z, rem_z, shr_z}
use Rattle.std.specs.Int.Bits.{bit_and, bit_or, bit_xor}
use Rattle.std.specs.Int.{w128}
use Rattle.std.proofs.Common.{to_z, of_z}

-- z where it lies in -h .. h - 1, else nothing
abbrev pub exact_in : ℕ → ℤ → Option ℤ
exact_in h z = cond (le_z (neg_ℤ (pos h)) z && lt_z z (pos h)) (some z) none

-- z where it lies in -2 ^ 127 .. 2 ^ 127 - 1, else nothing
abbrev pub exact : ℤ → Option ℤ
exact = exact_in (2 ^ 127)

abbrev pub add_of : ℤ → ℤ → Option ℤ
add_of a b = exact (a +ℤ b)

abbrev pub sub_of : ℤ → ℤ → Option ℤ
sub_of a b = exact (a -ℤ b)

abbrev pub mul_of : ℤ → ℤ → Option ℤ
mul_of a b = exact (a *ℤ b)

abbrev pub neg_of : ℤ → Option ℤ
neg_of a = exact (neg_ℤ a)

-- the complement of each of the 128 bits
abbrev pub not_of : ℤ → ℤ
not_of a = to_z w128 ((2 ^ 128 - 1) - of_z w128 a)

-- The four ranges of `int_fits` (Krc's converter/types.rs): of 32 bits where short, else of 64; from 0 where unsigned.
abbrev pub least_of : Bool → Bool → ℤ
least_of true false = neg_ℤ (pos (2 ^ 31))
least_of true true = pos 0
least_of false false = neg_ℤ (pos (2 ^ 63))
least_of false true = pos 0

abbrev pub greatest_of : Bool → Bool → ℤ
greatest_of true false = pos (2 ^ 31 - 1)
greatest_of true true = pos (2 ^ 32 - 1)
greatest_of false false = pos (2 ^ 63 - 1)
greatest_of false true = pos (2 ^ 64 - 1)

abbrev pub int_fits : ℤ → Bool → Bool → Bool
int_fits z short unsigned = le_z (least_of short unsigned) z && le_z z (greatest_of short unsigned)

-- z where an i64 or a u64 holds it, else nothing: `i64::try_from(z).ok()`, `u64::try_from(z).ok()`
abbrev pub to_i64_of : ℤ → Option ℤ
to_i64_of = exact_in (2 ^ 63)

abbrev pub to_u64_of : ℤ → Option ℤ
to_u64_of z = cond (le_z (pos 0) z && lt_z z (pos (2 ^ 64))) (some z) none

-- each of the 128 bits by itself
abbrev pub and_of : ℤ → ℤ → ℤ
and_of a b = to_z w128 (bit_and (of_z w128 a) (of_z w128 b))

abbrev pub or_of : ℤ → ℤ → ℤ
or_of a b = to_z w128 (bit_or (of_z w128 a) (of_z w128 b))

abbrev pub xor_of : ℤ → ℤ → ℤ
xor_of a b = to_z w128 (bit_xor (of_z w128 a) (of_z w128 b))

-- the bits moved up by n, of which the low 128 are kept
abbrev pub shl_of : ℤ → ℕ → Option ℤ
shl_of a n = cond (ltb n 128) (some (to_z w128 (of_z w128 a * 2 ^ n % 2 ^ 128))) none

-- a / 2 ^ n, rounded down
abbrev pub shr_of : ℤ → ℕ → Option ℤ
shr_of a n = cond (ltb n 128) (some (shr_z a (2 ^ n))) none

-- a count that is itself a whole number: none below 0
abbrev pub by_count : (ℕ → Option ℤ) → ℤ → Option ℤ
by_count f (pos n) = f n
by_count f (negsuc n) = none

-- the same by a short count that may be missing
abbrev pub at_count : (ℕ → Option ℤ) → Std.Option ℕ → Option ℤ
at_count f (Some n) = f n
at_count f None = none

-- a count's short form, or none: whatever answers nothing from 128 on answers the same by both
abbrev pub CountStands : Std.Option ℕ → ℤ → Type 0
CountStands short count = (f : ℕ → Option ℤ) → ((n : ℕ) → 128 ≤ n → none ≡ f n) → at_count f short ≡ by_count f count

-- n or -n: a number by its sign and its magnitude
abbrev pub signed_of : Bool → ℕ → ℤ
signed_of false n = pos n
signed_of true n = neg_ℤ (pos n)

-- a / b, cut towards zero: nothing where b is 0 or the quotient does not fit
abbrev pub div_of : ℤ → ℤ → Option ℤ
div_of a b = cond (eqb (nat_abs b) 0) none (exact (quot_z a b))

-- a % b, with the sign of a: nothing where a / b is nothing
abbrev pub rem_of : ℤ → ℤ → Option ℤ
rem_of a b = map (λ q. rem_z a b) (div_of a b)
