-- Document 01, 'A text is an offset and a length into the text buffer': the texts of a tree by number. Texts that are the same have one number, the lowest record
-- that has it; beside the number stands a digest of the text. Assumes nothing: these are definitions.
use Rattle.std.specs.Prelude.{◌≡◌, ℕ, ◌+◌, ◌*◌, ◌≤◌, ◌<◌, Bool, true, ◌&&◌, ◌||◌, List, eqb, length, get_or}
use Rattle.std.proofs.Math.Option.{Option, none, some}
use Rattle.laws.specs.Below.{lowest}
use Rattle.records.specs.Digest.{roll_of}
use Rattle.records.specs.Kinds.{kind_str, kind_name, kind_call, kind_declare, kind_init, kind_variable}
use Rattle.records.specs.Layout.{end_of, originals, text_digests}
use Rattle.records.specs.Words.{word_at, kind_of, word_of, text_at, same_text, records, A, B}

-- '4 Str, 6 Name: A B text', '11 Call: A B verb', '15 Declare, 16 Init, 24 variable: A B name': the kinds whose words A and B are a text
unfoldable pub has_text : ℕ → Bool
has_text kind =
    eqb kind kind_str || eqb kind kind_name || eqb kind kind_call || eqb kind kind_declare || eqb kind kind_init || eqb kind kind_variable

-- record r has a text
abbrev pub has_own : List ℕ → ℕ → Bool
has_own tree r = has_text (kind_of tree r)

-- the text of record r
abbrev pub own_text : List ℕ → List ℕ → ℕ → List ℕ
own_text tree text r = text_at text (word_of tree r A) (word_of tree r B)

-- record k has a text, and it is record r's
unfoldable pub same_own : List ℕ → List ℕ → ℕ → ℕ → Bool
unfolding has_text kind_of word_of text_at same_text
same_own tree text r k = has_own tree k && same_text (own_text tree text k) (own_text tree text r)

-- a number that may be missing, with another in its place
unfoldable pub number_or : Option ℕ → ℕ → ℕ
number_or none other = other
number_or (some k) other = k

-- the lowest record of the tree with the text of record r; where r has a text there is one
unfoldable pub original : List ℕ → List ℕ → ℕ → ℕ
unfolding number_or lowest same_own
original tree text r = number_or (lowest (records tree) (same_own tree text r)) r

-- the number of a text: the lowest record of the tree that has it, or past the last where none has
unfoldable pub text_number : List ℕ → List ℕ → List ℕ → ℕ
unfolding number_or lowest has_text kind_of word_of text_at same_text
text_number tree text u = number_or (lowest (records tree) (λ k. has_own tree k && same_text (own_text tree text k) u)) (records tree)

-- where the number of record r's text stands in the scratch of n records
abbrev pub original_at : ℕ → ℕ → ℕ
original_at n r = originals.from * n + originals.each * r

-- and where its digest stands
abbrev pub text_digest_at : ℕ → ℕ → ℕ
text_digest_at n r = text_digests.from * n + text_digests.each * r

-- each record that has a text has its number and its digest in the scratch
pub record Numbered (tree text s : List ℕ) : Type 0 where
  pub number : (r : ℕ) → r < records tree → has_own tree r ≡ true → word_at s (original_at (records tree) r) ≡ original tree text r
  pub digest : (r : ℕ) → r < records tree → has_own tree r ≡ true → word_at s (text_digest_at (records tree) r) ≡ roll_of (own_text tree text r)

-- the scratch of n records, before and after: its length is as it was, and so are the bytes between the numbers and the digests, and behind the digests. Before the
-- numbers stand the chains, and the text's samples where texts overlap; while texts are numbered by sorting, from byte 0 on, the entries, two arrays of eight bytes a
-- record: there anything may be left
pub record Kept (n : ℕ) (s s' : List ℕ) : Type 0 where
  pub long : length s' ≡ length s
  pub keys : (i : ℕ) → end_of originals * n ≤ i → i < text_digests.from * n → get_or s' i 0 ≡ get_or s i 0
  pub behind : (i : ℕ) → end_of text_digests * n ≤ i → get_or s' i 0 ≡ get_or s i 0
