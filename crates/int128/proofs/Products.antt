-- The product of a magnitude and a word by the words' products, and of two magnitudes where one is a word or neither is.
-- `Moved.spread` gives the digits; a product that does not fit has a digit above the second.
use mathlib.Core.Path.{◌≡◌, sym, ap, ◌∙◌, subst}
use Prim.Native.Nat.{ℕ, ◌+◌, ◌*◌, ◌^◌, ◌≤◌}
use native.Mathlib.Nat.{le_trans, le_of_eq, mul-le-mul_left, mul-le-mul_right, mul_comm, le-add_right, zero-mul, zero-add, add_comm}
use Rattle.int128.specs.declared.Int128.{Int128}
use Rattle.std.specs.Prelude.{Option}
use Rattle.int128.specs.Value.{bits_of}
use Rattle.int128.specs.Magnitude.{IsProduct}
use Rattle.int128.proofs.Halves.{above, no_upper, positive}
use Rattle.int128.proofs.Moved.{spread}

-- l and h hold the products of the halves with w
module _ (W xh xl w : ℕ) (lh ll hh hl : ℕ) (e : lh * W + ll ≡ xl * w) (f : hh * W + hl ≡ xh * w) where
  whole : (xh * W + xl) * w ≡ hh * (W * W) + ((hl + lh) * W + ll)
  whole = spread w W xh xl hh hl lh ll (sym f) (sym e)

  pub word_fits : hh ≡ 0 → (hl + lh) * W + ll ≡ (xh * W + xl) * w
  word_fits z = sym (whole ∙ ap (λ (n : ℕ). n * (W * W) + ((hl + lh) * W + ll)) z ∙ ap (λ (n : ℕ). n + ((hl + lh) * W + ll)) (zero-mul (W * W)) ∙ zero-add ((hl + lh) * W + ll))

  pub word_over : W ≤ hl + lh → W * W ≤ (xh * W + xl) * w
  word_over h = le_trans (above W W {hi = hl + lh} ll h) (le_trans (le-add_right ((hl + lh) * W + ll) (hh * (W * W))) (le_of_eq (add_comm ((hl + lh) * W + ll) (hh * (W * W)) ∙ sym whole)))

  pub word-high : (hh ≡ 0 → ⊥) → 1 * (W * W) ≤ (xh * W + xl) * w
  word-high n = le_trans (above (W * W) 1 {hi = hh} ((hl + lh) * W + ll) (positive hh n)) (le_of_eq (sym whole))

-- a magnitude with an upper half of 0 is its lower half
pub one_word : (a b : Int128) (r : Option Int128) → a.hi ≡ 0 → IsProduct (bits_of b * a.lo) r → IsProduct (bits_of a * bits_of b) r
one_word a b r e h = subst (λ (n : ℕ). IsProduct n r) (mul_comm (bits_of b) a.lo ∙ ap (λ (n : ℕ). n * bits_of b) (sym (ap (λ (n : ℕ). n * 2 ^ 64 + a.lo) e ∙ no_upper a.lo))) h

pub other_word : (a b : Int128) (r : Option Int128) → b.hi ≡ 0 → IsProduct (bits_of a * b.lo) r → IsProduct (bits_of a * bits_of b) r
other_word a b r e h = subst (λ (n : ℕ). IsProduct n r) (mul_comm (bits_of b) (bits_of a)) (one_word b a r e h)

pub both_long : (a b : Int128) → (a.hi ≡ 0 → ⊥) → (b.hi ≡ 0 → ⊥) → 2 ^ 128 ≤ bits_of a * bits_of b
both_long a b n m =
    le_trans (mul-le-mul_left (2 ^ 64) (above (2 ^ 64) 1 {hi = b.hi} b.lo (positive b.hi m))) (mul-le-mul_right (bits_of b) (above (2 ^ 64) 1 {hi = a.hi} a.lo (positive a.hi n)))
