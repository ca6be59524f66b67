-- Numbers sorted into buckets, where each is chained to the last before it in its bucket: how far a walk along a chain has come.
-- Assumes nothing: these are definitions.
use Rattle.std.specs.Prelude.{◌≡◌, ℕ, suc, ◌≤◌, ◌<◌, Bool, false, eqb}
use Rattle.laws.specs.Below.{last, past}

-- number k is in bucket b
abbrev pub in_bucket : (ℕ → ℕ) → ℕ → ℕ → Bool
in_bucket bucket b k = eqb (bucket k) b

-- the last number below r in bucket b, as it stands in bytes: a bucket's head, and with k for r and k's bucket for b the link of k
abbrev pub link_to : (ℕ → ℕ) → ℕ → ℕ → ℕ
link_to bucket r b = past (last r (in_bucket bucket b))

-- a walk along the chain of bucket b, down from the head over the numbers below n, stands at v, one past a number of the bucket, or at 0: none from v on is a hit
pub record Walked (hit : ℕ → Bool) (bucket : ℕ → ℕ) (n b v : ℕ) : Type 0 where
  pub within : v ≤ n
  pub here : (k : ℕ) → v ≡ suc k → bucket k ≡ b
  pub differ : (i : ℕ) → v ≤ i → i < n → hit i ≡ false

-- the same along the chain of number r's bucket, over the numbers below it: none met is the same as r
abbrev pub Met : (ℕ → ℕ → Bool) → (ℕ → ℕ) → ℕ → ℕ → Type 0
Met same bucket r v = Walked (λ i. same i r) bucket r (bucket r) v
