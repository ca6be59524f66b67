-- Samples of a text: the digests of its beginnings, a stride apart, from which the digest of any part is found without reading it whole. They
-- change how a digest is found, not which one it is. Assumes nothing: these are definitions.
use Rattle.std.specs.Prelude.{◌≡◌, ℕ, zero, suc, ◌+◌, ◌-◌, ◌*◌, ◌%◌, ◌≤◌, ◌<◌, List, length, get_or}
use Rattle.records.specs.Words.{word_at, text_at}
use Rattle.records.specs.Digest.{roll_modulus, roll_step, roll_of}

-- what a digest is multiplied by over n bytes: 256 for each
unfoldable pub roll_power : ℕ → ℕ
unfolding roll_step
roll_power zero = 1
roll_power (suc n) = roll_step (roll_power n) 0

-- from digest h on over a run of bytes: the digest of the text up to the run's first byte is `from`, up to its end `to`, and the run's power is `power`
unfoldable pub roll_across : ℕ → ℕ → ℕ → ℕ → ℕ
roll_across h from to power = (to + (h + roll_modulus - from) % roll_modulus * power) % roll_modulus

-- two words a sample, from byte `at` on, the power behind the digest
abbrev pub sample_bytes : ℕ
sample_bytes = 8

abbrev pub sample_power : ℕ
sample_power = 4

abbrev pub sample_at : ℕ → ℕ → ℕ
sample_at at k = at + sample_bytes * k

-- a sample has the digest of the text up to it, and the power of so many bytes: over the run from one to another, from digest h on
abbrev pub roll_between : List ℕ → ℕ → ℕ → ℕ → ℕ → ℕ
roll_between l at h first last = roll_across h (word_at l (sample_at at first)) (word_at l (sample_at at last)) (word_at l (sample_at at (last - first) + sample_power))

-- each whole stride of a text of so many bytes has room for its sample before byte `end`; a stride of 0 has no samples
abbrev pub SampleRoom : ℕ → ℕ → ℕ → ℕ → Type 0
SampleRoom bytes stride at end = 0 < stride → (k : ℕ) → k * stride ≤ bytes → sample_at at (k + 1) ≤ end

-- sample k has the digest of the first k strides of the text, and their power
pub record Sampled (text : List ℕ) (stride at : ℕ) (l : List ℕ) : Type 0 where
  pub room : SampleRoom (length text) stride at (length l)
  pub rolls : 0 < stride → (k : ℕ) → k * stride ≤ length text → word_at l (sample_at at k) ≡ roll_of (text_at text 0 (k * stride))
  pub powers : 0 < stride → (k : ℕ) → k * stride ≤ length text → word_at l (sample_at at k + sample_power) ≡ roll_power (k * stride)

-- the samples are written, and the other bytes are as they were
pub record Samples (text : List ℕ) (stride at : ℕ) (l l' : List ℕ) : Type 0 where
  pub sampled : Sampled text stride at l'
  pub before : (i : ℕ) → i < at → get_or l' i 0 ≡ get_or l i 0
  pub behind : (i : ℕ) → SampleRoom (length text) stride at i → get_or l' i 0 ≡ get_or l i 0
  pub long : length l' ≡ length l
