-- What the pass over the records is held to: the texts of the records passed are in the chains of their digests, and have their numbers and digests.
-- Assumes nothing: these are definitions.
use Rattle.std.specs.Prelude.{◌≡◌, ℕ, ◌+◌, ◌*◌, ◌≤◌, ◌<◌, true, List, length, get_or}
use Rattle.records.specs.Chains.{chain_each, member_bucket}
use Rattle.records.specs.Digest.{digest_of, roll_of}
use Rattle.records.specs.Layout.{originals}
use Rattle.records.specs.Order.{Placed}
use Rattle.records.specs.Samples.{SampleRoom, Sampled}
use Rattle.records.specs.Words.{word_at, records, none}
use Rattle.sorting.specs.Sorted.{HasEntry, RecordsRise, record_in}
use Rattle.texts.specs.Texts.{has_own, own_text, original, original_at, text_digest_at}

-- the digest of record r's text, and its bucket
abbrev pub own_digest : List ℕ → List ℕ → ℕ → ℕ
own_digest tree text r = digest_of (own_text tree text r)

abbrev pub text_bucket : List ℕ → List ℕ → ℕ → ℕ
text_bucket tree text = member_bucket (has_own tree) (own_digest tree text) (records tree)

-- the texts of the records below r are in the chains of their buckets
abbrev pub Chains : List ℕ → List ℕ → ℕ → List ℕ → Type 0
Chains tree text r s = Placed (own_text tree text) (text_bucket tree text) (records tree) r s

-- with n records the text's samples stand behind the chains, from this byte on
abbrev pub samples_from : ℕ → ℕ
samples_from n = chain_each * n

-- and there is room for all of them before the numbers
abbrev pub SamplesFit : List ℕ → ℕ → ℕ → Type 0
SamplesFit text stride n = SampleRoom (length text) stride (samples_from n) (originals.from * n)

-- what is known of the long texts of the records below r: the text is sampled, or the stride is 0; and they have so many bytes in all, at most
pub record Read (text : List ℕ) (n r stride long : ℕ) (s : List ℕ) : Type 0 where
  pub sampled : Sampled text stride (samples_from n) s
  pub fit : SamplesFit text stride n
  pub few : long ≤ none * r

-- only samples are written: the bytes of the chains, and those from the numbers on, are as they were
pub record OnlySamples (n : ℕ) (s s' : List ℕ) : Type 0 where
  pub chains : (i : ℕ) → i < samples_from n → get_or s' i 0 ≡ get_or s i 0
  pub behind : (i : ℕ) → originals.from * n ≤ i → get_or s' i 0 ≡ get_or s i 0
  pub long : length s' ≡ length s

-- record r too: the bytes behind the chains are as they were
pub record Entered (tree text : List ℕ) (r : ℕ) (s s' : List ℕ) : Type 0 where
  pub chained : Chains tree text (r + 1) s'
  pub long : length s' ≡ length s
  pub behind : (i : ℕ) → chain_each * records tree ≤ i → get_or s' i 0 ≡ get_or s i 0

-- the texts of the records below r have their digests
abbrev pub Rolled : List ℕ → List ℕ → ℕ → List ℕ → Type 0
Rolled tree text r s = (k : ℕ) → k < r → has_own tree k ≡ true → word_at s (text_digest_at (records tree) k) ≡ roll_of (own_text tree text k)

-- the records below r are passed
pub record Passed (tree text : List ℕ) (r : ℕ) (s : List ℕ) : Type 0 where
  pub chained : Chains tree text r s
  pub numbered : (k : ℕ) → k < r → has_own tree k ≡ true → word_at s (original_at (records tree) k) ≡ original tree text k
  pub rolled : Rolled tree text r s

-- where texts are sorted, the entries stand from this byte on, where the chains stood; behind eight bytes a record there is room for them once more
abbrev pub text_entries_from : ℕ
text_entries_from = 0

-- the records below r that have a text are m entries, in rising order
pub record Collected (tree : List ℕ) (r m : ℕ) (s : List ℕ) : Type 0 where
  pub few : m ≤ r
  pub rises : RecordsRise r text_entries_from 0 m s
  pub own : (i : ℕ) → i < m → has_own tree (record_in s text_entries_from i) ≡ true
  pub all : (k : ℕ) → k < r → has_own tree k ≡ true → HasEntry s text_entries_from 0 m k
