-- A search through a table: the first number of which a test holds, of those that a chain leads through, and the tests by which labels, strings and floats are found.
-- Assumes nothing: these are definitions.
use Rattle.std.specs.Prelude.{◌≡◌, ℕ, suc, ◌+◌, ◌-◌, ◌*◌, ◌≤◌, ◌<◌, Bool, true, false, ◌&&◌, List, eqb, ltb}
use Rattle.std.proofs.Math.Option.{Option, none, some}
use Rattle.laws.specs.Fix.{pick}
use Rattle.records.specs.Words.{word_at, second_word, third_word}
use Rattle.conversion.specs.Written.{label_bytes, float_bytes}
use Rattle.ir.specs.declared.structs.Counters.{Counters}
use Rattle.ir.specs.Arena.{label_entry_at, float_entry_at, float_head_at, string_number_at, float_bucket}
use Rattle.std.specs.Prelude.{Option as StdOption, Some, None}

-- what is found, as the code says it
abbrev pub found_of : Option ℕ → StdOption ℕ
found_of none = None
found_of (some i) = Some i

-- label j of those from byte `at` on is the two words a and b
unfoldable pub label_words_at : List ℕ → ℕ → ℕ → ℕ → ℕ → Bool
label_words_at l at a b j = eqb a (word_at l (at + label_bytes * j)) && eqb b (word_at l (at + label_bytes * j + second_word))

-- label j of the function at hand, if it has so many, is of this kind and opened by this record
unfoldable pub label_is : List ℕ → Counters → ℕ → ℕ → ℕ → Bool
unfolding label_words_at
label_is l k kind opener j = ltb j (k.labels - k.labels_before) && label_words_at l (label_entry_at k.records k.labels_before) kind opener j

-- string j, if there are so many, has the text of number o
unfoldable pub string_is : List ℕ → Counters → ℕ → ℕ → Bool
string_is l k o j = ltb j k.strings && eqb (word_at l (string_number_at k.records j)) o

-- the first three words (of four) of float j of those from byte `at` on are a, b and c
unfoldable pub float_words_at : List ℕ → ℕ → ℕ → ℕ → ℕ → ℕ → Bool
float_words_at l at a b c j =
    (eqb a (word_at l (at + float_bytes * j)) && eqb b (word_at l (at + float_bytes * j + second_word))) && eqb c (word_at l (at + float_bytes * j + third_word))

-- a walk down a chain, from one past a number on, and what it finds: the first number of which f holds. A link is one past the next number, or 0 at the end; one that
-- does not lead lower ends the walk
pub data Walks (link : ℕ → ℕ) (f : ℕ → Bool) : ℕ → StdOption ℕ → Type 0 where
  ended : Walks link f 0 None
  here : {j : ℕ} → f j ≡ true → Walks link f (suc j) (Some j)
  further : {j : ℕ} {r : StdOption ℕ} → f j ≡ false → link j ≤ j → Walks link f (link j) r → Walks link f (suc j) r
  astray : {j : ℕ} → f j ≡ false → j < link j → Walks link f (suc j) None

-- the bucket, one of n, of entry j of the floats
unfoldable pub float_bucket_at : List ℕ → ℕ → ℕ → ℕ
unfolding float_bucket
float_bucket_at l n j = float_bucket n (word_at l (float_entry_at n j)) (word_at l (float_entry_at n j + second_word)) (word_at l (float_entry_at n j + third_word))

-- where a walk through bucket b begins, with m entries written, each in its bucket: the number i at its head counts where it is that of one of them, and of that bucket
unfoldable pub head_for : (ℕ → ℕ) → ℕ → ℕ → ℕ → ℕ
unfolding pick
head_for bucket m b i = pick (ltb i m && eqb (bucket i) b) (i + 1) 0

-- the same of the floats
abbrev pub float_head : List ℕ → ℕ → ℕ → ℕ → ℕ
float_head l n m b = head_for (float_bucket_at l n) m b (word_at l (float_head_at n b))
