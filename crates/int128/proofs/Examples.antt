-- The definitions of specs/Ops.antt at numbers whose answers Rust's documentation of i128 gives or that are plain.
-- Each is computed.
use mathlib.Core.Path.{◌≡◌, refl}
use mathlib.Core.Bool.{true, false}
use mathlib.Core.Option.{none, some}
use Prim.Native.Nat.{◌+◌, ◌-◌, ◌^◌}
use lib.IntN.{ℤ, pos, neg_ℤ}
use Rattle.int128.specs.Value.{value_of}
use Rattle.int128.specs.Ops.{add_of, sub_of, mul_of, neg_of, div_of, rem_of, not_of, and_of, or_of, xor_of, shl_of, shr_of, by_count, int_fits}

-- -2 ^ 127 and 2 ^ 127 - 1
abbrev least : ℤ
least = neg_ℤ (pos (2 ^ 127))

abbrev greatest : ℤ
greatest = pos (2 ^ 127 - 1)

minus_one : value_of (record { hi = 2 ^ 64 - 1; lo = 2 ^ 64 - 1 }) ≡ neg_ℤ (pos 1)
minus_one = refl

least-bits : value_of (record { hi = 2 ^ 63; lo = 0 }) ≡ least
least-bits = refl

add-fits : add_of (pos (2 ^ 127 - 3)) (pos 2) ≡ some greatest
add-fits = refl

add-over : add_of greatest (pos 1) ≡ none
add-over = refl

sub-over : sub_of least (pos 1) ≡ none
sub-over = refl

neg_over : neg_of least ≡ none
neg_over = refl

mul-least : mul_of (neg_ℤ (pos (2 ^ 64))) (pos (2 ^ 63)) ≡ some least
mul-least = refl

mul-over : mul_of (pos (2 ^ 64)) (pos (2 ^ 63)) ≡ none
mul-over = refl

div_cut : div_of (neg_ℤ (pos 7)) (pos 2) ≡ some (neg_ℤ (pos 3))
div_cut = refl

rem_sign : rem_of (neg_ℤ (pos 7)) (pos 2) ≡ some (neg_ℤ (pos 1))
rem_sign = refl

div-zero : div_of (pos 1) (pos 0) ≡ none
div-zero = refl

div-over : div_of least (neg_ℤ (pos 1)) ≡ none
div-over = refl

rem_over : rem_of least (neg_ℤ (pos 1)) ≡ none
rem_over = refl

rem_zero : rem_of (pos 1) (pos 0) ≡ none
rem_zero = refl

not-zero : not_of (pos 0) ≡ neg_ℤ (pos 1)
not-zero = refl

and_negative : and_of (neg_ℤ (pos 1)) (pos 12) ≡ pos 12
and_negative = refl

or_negative : or_of (neg_ℤ (pos 16)) (pos 5) ≡ neg_ℤ (pos 11)
or_negative = refl

xor_negative : xor_of (neg_ℤ (pos 1)) (pos 5) ≡ neg_ℤ (pos 6)
xor_negative = refl

shl_drops : shl_of greatest 1 ≡ some (neg_ℤ (pos 2))
shl_drops = refl

shl_sign : shl_of (pos 1) 127 ≡ some least
shl_sign = refl

shl-count : shl_of (pos 1) 128 ≡ none
shl-count = refl

shr_floor : shr_of (neg_ℤ (pos 7)) 1 ≡ some (neg_ℤ (pos 4))
shr_floor = refl

shr_below : by_count (shr_of (pos 8)) (neg_ℤ (pos 1)) ≡ none
shr_below = refl

fits-least : int_fits (neg_ℤ (pos (2 ^ 31))) true false ≡ true
fits-least = refl

fits_below : int_fits (neg_ℤ (pos (2 ^ 63 + 1))) false false ≡ false
fits_below = refl
