-- A walk from a bucket's head along the links meets every number of the bucket, falling: where none that it met is a hit, none is.
-- By the laws of `last`, and since all hits are in one bucket. Assumes nothing.
use mathlib.Core.Path.{◌≡◌, refl, sym, ◌∙◌}
use mathlib.Core.Logic.{⊎_elim}
use Prim.Native.Nat.{ℕ, zero, suc, ◌+◌, ◌≤◌, ◌<◌}
use mathlib.Core.Bool.{Bool, true, false}
use native.Mathlib.Nat.{eq-or-lt_of_le}
use native.Mathlib.Numerals.{add-one}
use native.Mathlib.Omega.{arith}
use lib.Dec.{ltb}
use borrow.Author.Tests.{eq-eqb, ne_eqb, eqb-true, eqb-false, ltb-true, ltb-false}
use Rattle.laws.specs.Fix.{pick}
use Rattle.laws.specs.Below.{last, past}
use Rattle.laws.specs.Chain.{in_bucket, link_to, Walked, Met}
use Rattle.laws.proofs.Tests.{tested}

-- ---- the last number

module _ (f : ℕ → Bool) where
  last_hit : (n : ℕ) → f n ≡ true → past (last (suc n) f) ≡ suc n
  unfolding last past pick
  last_hit n e = rw e refl

  last_miss : (n : ℕ) → f n ≡ false → past (last (suc n) f) ≡ past (last n f)
  unfolding last pick
  last_miss n e = rw e refl

  last_within : (n : ℕ) → past (last n f) ≤ n
  unfolding last past
  last_within zero = omega arith
  last_within (suc n) =
      tested (f n)
      (λ t. omega (arith, last_hit n t))
      (λ t. omega (arith, last_miss n t, last_within n))

  -- it is one of which f holds
  last-holds : (n k : ℕ) → past (last n f) ≡ suc k → f k ≡ true
  unfolding last past
  last-holds zero k e = absurd (omega arith)
  last-holds (suc n) k e =
      tested (f n)
      (λ t. let z : k ≡ n = omega (arith, last_hit n t) in rw z t)
      (λ t. last-holds n k (sym (last_miss n t) ∙ e))

  -- f holds of none above it
  last_above : (n i : ℕ) → past (last n f) ≤ i → i < n → f i ≡ false
  last_above zero i a h = absurd (omega arith)
  last_above (suc n) i a h =
      tested (f n)
      (λ t. absurd (omega (arith, last_hit n t)))
      (λ t.
      let le : i ≤ n = omega arith in
      ⊎_elim
      (λ (q : i ≡ n). rw q t)
      (λ (b : i < n). last_above n i (omega (arith, last_miss n t)) b)
      (eq-or-lt_of_le le))

-- ---- heads and links

module _ (bucket : ℕ → ℕ) where
  -- before any number is entered
  pub head_none : (b : ℕ) → 0 ≡ link_to bucket 0 b
  unfolding last past
  head_none b = refl

  -- number r is entered: it is the head of its bucket, and the other heads stay
  pub head_here : (r b : ℕ) → bucket r ≡ b → r + 1 ≡ link_to bucket (r + 1) b
  head_here r b e = rw (add-one r) (sym (last_hit (in_bucket bucket b) r (eq-eqb (bucket r) b e)))

  pub head_other : (r b : ℕ) → (bucket r ≡ b → ⊥) → link_to bucket r b ≡ link_to bucket (r + 1) b
  head_other r b n = rw (add-one r) (sym (last_miss (in_bucket bucket b) r (ne_eqb (bucket r) b n)))

  -- what a head or a link says: it leads down, to a number of the bucket, and none above that one is in it
  pub link_within : (r b v : ℕ) → v ≡ link_to bucket r b → v ≤ r
  link_within r b v e = omega (arith, e, last_within (in_bucket bucket b) r)

  pub link_here : (r b v k : ℕ) → v ≡ link_to bucket r b → v ≡ suc k → bucket k ≡ b
  link_here r b v k e z = eqb-true (bucket k) b (last-holds (in_bucket bucket b) r k (sym e ∙ z))

  pub link_above : (r b v i : ℕ) → v ≡ link_to bucket r b → v ≤ i → i < r → bucket i ≡ b → ⊥
  link_above r b v i e a h = eqb-false (bucket i) b (last_above (in_bucket bucket b) r i (omega (arith, e)) h)

  pub link_falls : (k w : ℕ) → w ≡ link_to bucket k (bucket k) → w ≤ k
  link_falls k w e = link_within k (bucket k) w e

-- ---- the walk

module _ (hit : ℕ → Bool) (bucket : ℕ → ℕ) (n b : ℕ) (together : (i : ℕ) → hit i ≡ true → bucket i ≡ b) where
  apart : (i : ℕ) → (bucket i ≡ b → ⊥) → hit i ≡ false
  apart i other = tested (hit i) (λ t. absurd (other (together i t))) (λ t. t)

  -- from the head
  pub walked_start : (v : ℕ) → v ≡ link_to bucket n b → Walked hit bucket n b v
  walked_start v e =
      record {
        within = link_within bucket n b v e;
        here = λ k z. link_here bucket n b v k e z;
        differ = λ i a h. apart i (link_above bucket n b v i e a h);
      }

  -- along a link: the walk stood one past k, which is no hit
  pub walked_on : (v k w : ℕ) → Walked hit bucket n b v → v ≡ suc k → hit k ≡ false → w ≡ link_to bucket k (bucket k) → Walked hit bucket n b w
  walked_on v k w m z d e =
      let q : bucket k ≡ b = m.here k z in
      record {
        within = omega (arith, link_falls bucket k w e, m.within);
        here = λ j y. link_here bucket k (bucket k) w j e y ∙ q;
        differ = λ i a h.
            tested (ltb i k)
            (λ t. apart i (λ x. link_above bucket k (bucket k) w i e a (ltb-true i k t) (x ∙ sym q)))
            (λ t.
            ⊎_elim
            (λ (y : k ≡ i). rw (sym y) d)
            (λ (y : k < i). m.differ i (omega (arith, z)) h)
            (eq-or-lt_of_le (ltb-false i k t)));
      }

  -- at the end
  pub walked_end : (v : ℕ) → v ≤ 0 → Walked hit bucket n b v → (i : ℕ) → i < n → hit i ≡ false
  walked_end v z m i h = m.differ i (omega arith) h

-- the same along the chain of number r's bucket
module _ (same : ℕ → ℕ → Bool) (bucket : ℕ → ℕ) (together : (j r : ℕ) → same j r ≡ true → bucket j ≡ bucket r) (r : ℕ) where
  pub walk_start : (v : ℕ) → v ≡ link_to bucket r (bucket r) → Met same bucket r v
  walk_start = walked_start (λ i. same i r) bucket r (bucket r) (λ i. together i r)

  pub walk_on : (v k w : ℕ) → Met same bucket r v → v ≡ suc k → same k r ≡ false → w ≡ link_to bucket k (bucket k) → Met same bucket r w
  walk_on = walked_on (λ i. same i r) bucket r (bucket r) (λ i. together i r)

  pub walk_end : (v : ℕ) → v ≤ 0 → Met same bucket r v → (i : ℕ) → i < r → same i r ≡ false
  walk_end = walked_end (λ i. same i r) bucket r (bucket r) (λ i. together i r)
