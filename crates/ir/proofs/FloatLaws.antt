-- Floats: a number that equals itself is no NaN, and bits that are no NaN's come back from their f64.
-- By the laws of lib.Ieee. Assumes nothing.
use mathlib.Core.Path.{◌≡◌, sym, ap, ◌∙◌, subst}
use mathlib.Core.Bool.{Bool, false, not}
use Prim.Native.Nat.{ℕ}
use lib.Dec.{T}
use lib.Ieee.{Float, nan, inf, fin, binary64, ne, eq, is_nan, nan_bits, of_bits}
use lib.Ieee.Bits.{nan_bits_is, to_bits-of_bits}
use mir.Syntax.{w64}
use mir.Val.{Fits}
use Rattle.ir.specs.Floats.{bits_of_float, entry, entry_of_float}
use Rattle.ir.specs.declared.floats.FloatBits.TheVariants.{Number}

pub same-no_nan : (x : Float) → ne x x ≡ false → T (not (is_nan x))
unfolding is_nan ne eq
same-no_nan nan e = absurd (subst T e tt)
same-no_nan (inf s) e = tt
same-no_nan (fin s m k) e = tt

pub bits_back : (b : ℕ) (short : Bool) → Fits w64 b → nan_bits binary64 b ≡ false
    → entry_of_float (Number (record { value = of_bits binary64 b; short = short })) ≡ entry b short
unfolding entry_of_float bits_of_float
bits_back b short h e =
    let z : is_nan (of_bits binary64 b) ≡ false = sym (nan_bits_is binary64 b) ∙ e in
    rw z (ap (λ (x : ℕ). entry x short) (to_bits-of_bits binary64 b h.fits (subst (λ (x : Bool). T (not x)) (sym z) tt)))
