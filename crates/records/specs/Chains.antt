-- Numbers below a bound, found by their digests: where bytes hold the heads of the buckets, the digests and the links. Some of the numbers are members, and only
-- these are entered. Assumes nothing: these are definitions.
use Rattle.std.specs.Prelude.{◌≡◌, ℕ, ◌+◌, ◌*◌, ◌/◌, ◌≤◌, ◌<◌, Bool, true, List, ◌++◌, length, get_or}
use Rattle.laws.specs.Fix.{pick}
use Rattle.laws.specs.Chain.{link_to}
use Rattle.laws.specs.Splice.{splice}
use Rattle.records.specs.Layout.{Region}
use Rattle.records.specs.Words.{word_at, word, most_records, second_word}

-- the bucket of a digest: there are n, and the digest's high bits say which
abbrev pub bucket_of : ℕ → ℕ → ℕ
bucket_of n d = d * n / 4294967296

-- the bucket of number k; that of a number that is no member is n, which has no head
unfoldable pub member_bucket : (ℕ → Bool) → (ℕ → ℕ) → ℕ → ℕ → ℕ
unfolding pick
member_bucket member digest n k = pick (member k) (bucket_of n (digest k)) n

-- the heads stand first, a word a bucket; then each number's digest and link, two words; so many bytes for each number
abbrev pub chain_heads : Region
chain_heads = record { from = 0; each = 4 }

abbrev pub chain_entries : Region
chain_entries = record { from = 4; each = 8 }

abbrev pub chain_each : ℕ
chain_each = 12

abbrev pub head_at : ℕ → ℕ
head_at b = chain_heads.each * b

abbrev pub entry_at : ℕ → ℕ → ℕ
entry_at n k = chain_entries.from * n + chain_entries.each * k

-- the members below r are entered
pub record Chained (member : ℕ → Bool) (digest : ℕ → ℕ) (n r : ℕ) (l : List ℕ) : Type 0 where
  pub heads : (b : ℕ) → b < n → word_at l (head_at b) ≡ link_to (member_bucket member digest n) r b
  pub digests : (k : ℕ) → k < r → member k ≡ true → word_at l (entry_at n k) ≡ digest k
  pub links : (k : ℕ) → k < r → member k ≡ true → word_at l (entry_at n k + second_word) ≡ link_to (member_bucket member digest n) k (member_bucket member digest n k)

-- number r is entered, with its digest d and the head h of its bucket b
abbrev pub entered : ℕ → ℕ → ℕ → ℕ → ℕ → List ℕ → List ℕ
entered n r d b h l = splice (splice l (entry_at n r) (word d ++ word h)) (head_at b) (word (r + 1))

-- there are few enough numbers, and room for them
pub record ChainRoom (n : ℕ) (l : List ℕ) : Type 0 where
  pub few : n ≤ most_records
  pub room : chain_each * n ≤ length l

-- the bytes from one place up to another are zero, and the others as they were
pub record Cleared (from to : ℕ) (l l' : List ℕ) : Type 0 where
  pub zero : (i : ℕ) → from ≤ i → i < to → get_or l' i 0 ≡ 0
  pub before : (i : ℕ) → i < from → get_or l' i 0 ≡ get_or l i 0
  pub behind : (i : ℕ) → to ≤ i → get_or l' i 0 ≡ get_or l i 0
  pub long : length l' ≡ length l

-- the heads, so many bytes, are zero, and the bytes behind them as they were
pub record Emptied (bytes : ℕ) (l l' : List ℕ) : Type 0 where
  pub heads : (i : ℕ) → i < bytes → get_or l' i 0 ≡ 0
  pub others : (i : ℕ) → bytes ≤ i → get_or l' i 0 ≡ get_or l i 0
  pub long : length l' ≡ length l
