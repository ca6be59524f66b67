-- An `Int128` whole: the bound of its bits by its halves, its value as a difference by its sign, and the bits back from the value.
-- The laws of `Halves` at 2 ^ 64 and of `Range`.
use mathlib.Core.Path.{◌≡◌, sym, ap, ◌∙◌}
use Prim.Native.Nat.{◌^◌, ◌≤◌, ◌<◌}
use lib.IntN.{sub_ℕ}
use mir.Syntax.{w128}
use mir.Val.{of_z}
use mir.ValLaws.{of_z-to_z}
use Rattle.int128.specs.declared.Int128.{Int128}
use Rattle.int128.specs.Value.{bits_of, value_of}
use Rattle.int128.proofs.Halves.{below, above}
use Rattle.int128.proofs.Range.{low, high}

-- both halves are words of 64 bits, as a value of the program always has them
pub record Sized (x : Int128) : Type 0 where
  pub upper : x.hi < 2 ^ 64
  pub lower : x.lo < 2 ^ 64

pub fits : (x : Int128) → Sized x → bits_of x < 2 ^ 128
fits x s = below (2 ^ 64) (2 ^ 64) s.upper s.lower

pub less : (x : Int128) → Sized x → x.hi < 2 ^ 63 → bits_of x < 2 ^ 127
less x s h = below (2 ^ 64) (2 ^ 63) h s.lower

pub more : (x : Int128) → 2 ^ 63 ≤ x.hi → 2 ^ 127 ≤ bits_of x
more x h = above (2 ^ 64) (2 ^ 63) x.lo h

pub value_low : (x : Int128) → Sized x → x.hi < 2 ^ 63 → value_of x ≡ sub_ℕ (bits_of x) 0
value_low x s h = low (bits_of x) (less x s h)

pub value-high : (x : Int128) → Sized x → 2 ^ 63 ≤ x.hi → value_of x ≡ sub_ℕ (bits_of x) (2 ^ 128)
value-high x s h = high (bits_of x) (more x h) (fits x s)

pub bits_back : (x : Int128) → Sized x → of_z w128 (value_of x) ≡ bits_of x
bits_back x s = of_z-to_z w128 (bits_of x) (record { fits = fits x s })

-- two numbers with one value have the same bits
pub value_inj : (x y : Int128) → Sized x → Sized y → value_of x ≡ value_of y → bits_of x ≡ bits_of y
value_inj x y s t e = sym (bits_back x s) ∙ ap (of_z w128) e ∙ bits_back y t
