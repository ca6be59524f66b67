-- An operation on each bit by itself works on each half by itself.
-- One law over the operation, from the library's law that it works on a block of low digits and on the rest apart.
use mathlib.Core.Path.{◌≡◌, sym, ap, ap₂, ◌∙◌}
use Prim.Native.Nat.{ℕ, ◌+◌, ◌*◌, ◌^◌, ◌<◌}
use mir.Syntax.{w128}
use mir.Val.{to_z, of_z}
use Rattle.int128.specs.declared.Int128.{Int128}
use Rattle.int128.specs.Value.{value_of}
use Rattle.int128.proofs.Whole.{Sized, bits_back}

pub by_halves : (op : ℕ → ℕ → ℕ) → ((k a b r s : ℕ) → r < 2 ^ k → s < 2 ^ k → op (a * 2 ^ k + r) (b * 2 ^ k + s) ≡ op a b * 2 ^ k + op r s)
    → (x y : Int128) → Sized x → Sized y → to_z w128 (op x.hi y.hi * 2 ^ 64 + op x.lo y.lo) ≡ to_z w128 (op (of_z w128 (value_of x)) (of_z w128 (value_of y)))
by_halves op block x y s t =
    ap (to_z w128) (sym (block 64 x.hi y.hi x.lo y.lo s.lower t.lower) ∙ ap₂ op (sym (bits_back x s)) (sym (bits_back y t)))
