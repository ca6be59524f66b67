-- What the sum of two numbers of 128 bits and a carry in is, from the 128 bits that remain of it: by the signs of the two and of those bits.
-- Each case reads the three as differences (`Range`), and the rest is linear in the bits, with 2 ^ 127 and 2 ^ 128 as variables.
use mathlib.Core.Path.{◌≡◌, refl, sym, ap, ap₂, ◌∙◌}
use mathlib.Core.Logic.{◌⊎◌, inl, inr, ⊎_elim}
use mathlib.Core.Option.{Option, none, some}
use Prim.Native.Nat.{ℕ, ◌+◌, ◌*◌, ◌^◌, ◌≤◌, ◌<◌}
use native.Mathlib.Nat.{zero-mul, one-mul, add_comm}
use native.Mathlib.Omega.{arith}
use lib.IntN.{ℤ, pos, sub_ℕ, ◌+ℤ◌, +ℤ_comm}
use mir.Syntax.{w128}
use mir.Val.{to_z}
use Rattle.int128.specs.declared.Int128.{Int128}
use Rattle.int128.specs.Value.{bits_of, value_of}
use Rattle.int128.specs.Ops.{exact}
use Rattle.int128.proofs.Difference.{lt-or_ge, sub-zero, sub-add}
use Rattle.int128.proofs.Range.{low, high, exact-is, exact_above, exact_below}
use Rattle.int128.proofs.Whole.{Sized, fits, less, more}

-- the sum as one difference
sum_is : (a b c s t : ℕ) → to_z w128 a ≡ sub_ℕ a s → to_z w128 b ≡ sub_ℕ b t → to_z w128 a +ℤ to_z w128 b +ℤ pos c ≡ sub_ℕ (a + b + c) (s + t + 0)
sum_is a b c s t e f = ap₂ ◌+ℤ◌ (ap₂ ◌+ℤ◌ e f ∙ sub-add a s b t) (sym (sub-zero c)) ∙ sub-add (a + b) (s + t) c 0

carry : (k M : ℕ) → k ≤ 1 → (k * M ≡ 0) ⊎ (k * M ≡ M)
carry k M h = ⊎_elim (λ (l : k < 1). inl (ap (λ (x : ℕ). x * M) (omega arith) ∙ zero-mul M)) (λ (l : 1 ≤ k). inr (ap (λ (x : ℕ). x * M) (omega arith) ∙ one-mul M)) (lt-or_ge k 1)

-- a, b and c in, the bits r and the carry k out
module _ (a b c k r : ℕ) (hc : c ≤ 1) (hk : k ≤ 1) (fa : a < 2 ^ 128) (fb : b < 2 ^ 128) (fr : r < 2 ^ 128) (e : k * 2 ^ 128 + r ≡ a + b + c) where
  -- the bits r with the shift v of their sign are the sum of a and b with theirs
  is : (s t v : ℕ) → to_z w128 a ≡ sub_ℕ a s → to_z w128 b ≡ sub_ℕ b t → to_z w128 r ≡ sub_ℕ r v → a + b + c + v ≡ r + (s + t + 0)
      → some (to_z w128 r) ≡ exact (to_z w128 a +ℤ to_z w128 b +ℤ pos c)
  is s t v ea eb er f = exact-is (a + b + c) (s + t + 0) r v fr er f ∙ ap exact (sym (sum_is a b c s t ea eb))

  carries : (k * 2 ^ 128 ≡ 0) ⊎ (k * 2 ^ 128 ≡ 2 ^ 128)
  carries = carry k (2 ^ 128) hk

  pub both-low : a < 2 ^ 127 → b < 2 ^ 127 → r < 2 ^ 127 → some (to_z w128 r) ≡ exact (to_z w128 a +ℤ to_z w128 b +ℤ pos c)
  both-low ha hb hr = is 0 0 0 (low a ha) (low b hb) (low r hr) (go (2 ^ 127) (2 ^ 128) (k * 2 ^ 128) refl ha hb carries e)
    where
      go : (H M K : ℕ) → M ≡ H + H → a < H → b < H → (K ≡ 0) ⊎ (K ≡ M) → K + r ≡ a + b + c → a + b + c + 0 ≡ r + (0 + 0 + 0)
      go H M K m ha hb o e = ⊎_elim (λ (z : K ≡ 0). omega arith) (λ (z : K ≡ M). omega arith) o

  pub both-low-over : a < 2 ^ 127 → b < 2 ^ 127 → 2 ^ 127 ≤ r → none ≡ exact (to_z w128 a +ℤ to_z w128 b +ℤ pos c)
  both-low-over ha hb hr =
      sym (ap exact (sum_is a b c 0 0 (low a ha) (low b hb)) ∙ exact_above (a + b + c) (0 + 0 + 0) (go (2 ^ 127) (k * 2 ^ 128) hr e))
    where
      go : (H K : ℕ) → H ≤ r → K + r ≡ a + b + c → 0 + 0 + 0 + H ≤ a + b + c
      go H K hr e = omega arith

  pub low-high : a < 2 ^ 127 → 2 ^ 127 ≤ b → some (to_z w128 r) ≡ exact (to_z w128 a +ℤ to_z w128 b +ℤ pos c)
  low-high ha hb =
      ⊎_elim
      (λ (hr : r < 2 ^ 127). is 0 (2 ^ 128) 0 (low a ha) (high b hb fb) (low r hr) (go₀ (2 ^ 127) (2 ^ 128) (k * 2 ^ 128) refl hb hr carries e))
      (λ (hr : 2 ^ 127 ≤ r). is 0 (2 ^ 128) (2 ^ 128) (low a ha) (high b hb fb) (high r hr fr) (go₁ (2 ^ 127) (2 ^ 128) (k * 2 ^ 128) refl ha fb hr carries e))
      (lt-or_ge r (2 ^ 127))
    where
      go₀ : (H M K : ℕ) → M ≡ H + H → H ≤ b → r < H → (K ≡ 0) ⊎ (K ≡ M) → K + r ≡ a + b + c → a + b + c + 0 ≡ r + (0 + M + 0)
      go₀ H M K m hb hr o e = ⊎_elim (λ (z : K ≡ 0). omega arith) (λ (z : K ≡ M). omega arith) o

      go₁ : (H M K : ℕ) → M ≡ H + H → a < H → b < M → H ≤ r → (K ≡ 0) ⊎ (K ≡ M) → K + r ≡ a + b + c → a + b + c + M ≡ r + (0 + M + 0)
      go₁ H M K m ha fb hr o e = ⊎_elim (λ (z : K ≡ 0). omega arith) (λ (z : K ≡ M). omega arith) o

  pub both_high : 2 ^ 127 ≤ a → 2 ^ 127 ≤ b → 2 ^ 127 ≤ r → some (to_z w128 r) ≡ exact (to_z w128 a +ℤ to_z w128 b +ℤ pos c)
  both_high ha hb hr = is (2 ^ 128) (2 ^ 128) (2 ^ 128) (high a ha fa) (high b hb fb) (high r hr fr) (go (2 ^ 127) (2 ^ 128) (k * 2 ^ 128) refl ha hb fr carries e)
    where
      go : (H M K : ℕ) → M ≡ H + H → H ≤ a → H ≤ b → r < M → (K ≡ 0) ⊎ (K ≡ M) → K + r ≡ a + b + c → a + b + c + M ≡ r + (M + M + 0)
      go H M K m ha hb fr o e = ⊎_elim (λ (z : K ≡ 0). omega arith) (λ (z : K ≡ M). omega arith) o

  pub both-high-over : 2 ^ 127 ≤ a → 2 ^ 127 ≤ b → r < 2 ^ 127 → none ≡ exact (to_z w128 a +ℤ to_z w128 b +ℤ pos c)
  both-high-over ha hb hr =
      sym (ap exact (sum_is a b c (2 ^ 128) (2 ^ 128) (high a ha fa) (high b hb fb)) ∙ exact_below (a + b + c) (2 ^ 128 + 2 ^ 128 + 0) (go (2 ^ 127) (2 ^ 128) (k * 2 ^ 128) refl ha hb hr carries e))
    where
      go : (H M K : ℕ) → M ≡ H + H → H ≤ a → H ≤ b → r < H → (K ≡ 0) ⊎ (K ≡ M) → K + r ≡ a + b + c → a + b + c + H < M + M + 0
      go H M K m ha hb hr o e = ⊎_elim (λ (z : K ≡ 0). omega arith) (λ (z : K ≡ M). omega arith) o

-- the other order of the signs
pub high-low : (a b c k r : ℕ) (hc : c ≤ 1) (hk : k ≤ 1) (fa : a < 2 ^ 128) (fb : b < 2 ^ 128) (fr : r < 2 ^ 128) (e : k * 2 ^ 128 + r ≡ a + b + c)
    → 2 ^ 127 ≤ a → b < 2 ^ 127 → some (to_z w128 r) ≡ exact (to_z w128 a +ℤ to_z w128 b +ℤ pos c)
high-low a b c k r hc hk fa fb fr e ha hb =
    low-high b a c k r hc hk fb fa fr (e ∙ ap (λ (x : ℕ). x + c) (add_comm a b)) hb ha ∙ ap (λ (z : ℤ). exact (z +ℤ pos c)) (+ℤ_comm (to_z w128 b) (to_z w128 a))

-- r holds the bits of a + b + c, of which k is carried out
pub record Added (a b : Int128) (c k : ℕ) (r : Int128) : Type 0 where
  pub in_one : c ≤ 1
  pub out_one : k ≤ 1
  pub sized_a : Sized a
  pub sized_b : Sized b
  pub sized_r : Sized r
  pub whole : k * 2 ^ 128 + bits_of r ≡ bits_of a + bits_of b + c

-- the six ways of the signs, by the upper halves
module _ {a b : Int128} {c k : ℕ} {r : Int128} (d : Added a b c k r) where
  abbrev Answers : Option ℤ → Type 0
  Answers o = o ≡ exact (value_of a +ℤ value_of b +ℤ pos c)

  by_law : {X : Type 0} → ((hc : c ≤ 1) (hk : k ≤ 1) (fa : bits_of a < 2 ^ 128) (fb : bits_of b < 2 ^ 128) (fr : bits_of r < 2 ^ 128) (e : k * 2 ^ 128 + bits_of r ≡ bits_of a + bits_of b + c) → X) → X
  by_law f = f d.in_one d.out_one (fits a d.sized_a) (fits b d.sized_b) (fits r d.sized_r) d.whole

  pub low-low-low : a.hi < 2 ^ 63 → b.hi < 2 ^ 63 → r.hi < 2 ^ 63 → Answers (some (value_of r))
  low-low-low x y z = by_law (both-low (bits_of a) (bits_of b) c k (bits_of r)) (less a d.sized_a x) (less b d.sized_b y) (less r d.sized_r z)

  pub low-low-high : a.hi < 2 ^ 63 → b.hi < 2 ^ 63 → 2 ^ 63 ≤ r.hi → Answers none
  low-low-high x y z = by_law (both-low-over (bits_of a) (bits_of b) c k (bits_of r)) (less a d.sized_a x) (less b d.sized_b y) (more r z)

  pub mixed : a.hi < 2 ^ 63 → 2 ^ 63 ≤ b.hi → Answers (some (value_of r))
  mixed x y = by_law (low-high (bits_of a) (bits_of b) c k (bits_of r)) (less a d.sized_a x) (more b y)

  pub mixed' : 2 ^ 63 ≤ a.hi → b.hi < 2 ^ 63 → Answers (some (value_of r))
  mixed' x y = by_law (high-low (bits_of a) (bits_of b) c k (bits_of r)) (more a x) (less b d.sized_b y)

  pub high-high-low : 2 ^ 63 ≤ a.hi → 2 ^ 63 ≤ b.hi → r.hi < 2 ^ 63 → Answers none
  high-high-low x y z = by_law (both-high-over (bits_of a) (bits_of b) c k (bits_of r)) (more a x) (more b y) (less r d.sized_r z)

  pub high-high-high : 2 ^ 63 ≤ a.hi → 2 ^ 63 ≤ b.hi → 2 ^ 63 ≤ r.hi → Answers (some (value_of r))
  high-high-high x y z = by_law (both_high (bits_of a) (bits_of b) c k (bits_of r)) (more a x) (more b y) (more r z)
