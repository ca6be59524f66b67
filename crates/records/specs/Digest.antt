-- Digests of texts and of types: 32 bits by which texts that differ are mostly told apart before they are compared. Only that equal
-- texts have equal digests is relied on. Assumes nothing: these are definitions.
use Rattle.std.specs.Prelude.{ℕ, ◌+◌, ◌*◌, ◌/◌, ◌%◌, List, [], ◌∷◌, eqb}
use Rattle.laws.specs.Fix.{pick}
use Rattle.records.specs.Kinds.{form_custom}
use Rattle.records.specs.Words.{byte_at, detail_of, word_of, text_at, A, B, C}

-- the upper half is added to the lower, so that every bit of a product counts and nothing is lost upwards
abbrev pub folded : ℕ → ℕ
folded x = x % 4294967296 + x / 4294967296

-- two words more
unfoldable pub digest_step : ℕ → ℕ → ℕ → ℕ
digest_step h w v = folded (h * 663608941 + w + v * 1013904223)

-- the digest's last step, down to 32 bits
unfoldable pub digest_end : ℕ → ℕ
digest_end h = folded (h * 1481765933) % 4294967296

-- ---- texts: a digest that goes on: that of a text with another behind it is found from that of the first

-- a text is a number to the base 256, modulo 2^32 - 5, which is prime; 2 has the order 2^32 - 6 there, so that a byte counts otherwise at each place
abbrev pub roll_modulus : ℕ
roll_modulus = 4294967291

-- a byte more
unfoldable pub roll_step : ℕ → ℕ → ℕ
roll_step h b = (h * 256 + b) % roll_modulus

-- from h on, over the bytes of a text
unfoldable pub roll_from : ℕ → List ℕ → ℕ
unfolding roll_step
roll_from h [] = h
roll_from h (b ∷ t) = roll_from (roll_step h b) t

-- of a text from its first byte on
abbrev pub roll_of : List ℕ → ℕ
roll_of t = roll_from 1 t

-- four bytes as a number, the first the highest
unfoldable pub high_first : List ℕ → ℕ → ℕ
unfolding byte_at
high_first l i = byte_at l i * 16777216 + byte_at l (i + 1) * 65536 + byte_at l (i + 2) * 256 + byte_at l (i + 3)

-- the same, spread over all 32 bits: by this one texts are put into buckets
unfoldable pub digest_of : List ℕ → ℕ
unfolding digest_end roll_from
digest_of t = digest_end (roll_of t)

-- ---- four words, and types

-- the digest of four words
unfoldable pub digest_four : ℕ → ℕ → ℕ → ℕ → ℕ
unfolding digest_end digest_step
digest_four a b c d = digest_end (digest_step (digest_step 1 a b) c d)

-- the digest of type r, of what `same_type` compares: Custom's name, the others' detail, inner type and count
unfoldable pub type_digest : List ℕ → List ℕ → ℕ → ℕ
unfolding pick digest_of digest_four text_at detail_of word_of
type_digest tree text r =
    pick (eqb (detail_of tree r) form_custom)
    (digest_of (text_at text (word_of tree r A) (word_of tree r B)))
    (digest_four (detail_of tree r) (word_of tree r A) (word_of tree r B) (word_of tree r C))
