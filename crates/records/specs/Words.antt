-- Document 01, 'The call': numbers, records, words, texts. The tree and the text are lists of bytes.
-- Assumes nothing: these are definitions.
use Rattle.std.specs.Prelude.{ℕ, zero, suc, ◌+◌, ◌*◌, ◌/◌, ◌%◌, Bool, true, false, ◌&&◌, List, [], ◌∷◌, eqb, length, get_or}
use Rattle.laws.specs.Splice.{part}

-- the byte at i, 0 past the end
unfoldable pub byte_at : List ℕ → ℕ → ℕ
byte_at l i = get_or l i 0

-- 'Numbers are little-endian': the word of 32 bits at i
unfoldable pub word_at : List ℕ → ℕ → ℕ
unfolding byte_at
word_at l i = byte_at l i + byte_at l (i + 1) * 256 + byte_at l (i + 2) * 65536 + byte_at l (i + 3) * 16777216

-- 'A tree record has 32 bytes'
abbrev pub record_bytes : ℕ
record_bytes = 32

-- how many whole records a tree has
abbrev pub records : List ℕ → ℕ
records tree = length tree / record_bytes

-- 'over 16,384 records': too many
abbrev pub most_records : ℕ
most_records = 16384

-- 'byte 0 kind, byte 1 detail'
unfoldable pub kind_of : List ℕ → ℕ → ℕ
unfolding byte_at
kind_of tree r = byte_at tree (r * record_bytes)

unfoldable pub detail_of : List ℕ → ℕ → ℕ
unfolding byte_at
detail_of tree r = byte_at tree (r * record_bytes + 1)

-- 'bytes 2 and 3 zero': the number that they make
unfoldable pub pad_of : List ℕ → ℕ → ℕ
unfolding byte_at
pad_of tree r = byte_at tree (r * record_bytes + 2) + byte_at tree (r * record_bytes + 3) * 256

-- 'words (32 bits) A to E at 4, 8, 12, 16, 20, span start and end at 24 and 28': word k of record r, A being 0, E 4, the span 5 and 6
unfoldable pub word_of : List ℕ → ℕ → ℕ → ℕ
unfolding word_at
word_of tree r k = word_at tree (r * record_bytes + 4 + k * 4)

abbrev pub A : ℕ
A = 0

abbrev pub B : ℕ
B = 1

abbrev pub C : ℕ
C = 2

abbrev pub D : ℕ
D = 3

abbrev pub E : ℕ
E = 4

abbrev pub span_start : ℕ
span_start = 5

abbrev pub span_end : ℕ
span_end = 6

-- where the second, third and fourth word of an entry of words stand, from its beginning
abbrev pub second_word : ℕ
second_word = 4

abbrev pub third_word : ℕ
third_word = 8

abbrev pub fourth_word : ℕ
fourth_word = 12

-- 'FFFFFFFF (hexadecimal) in a word means none'
abbrev pub none : ℕ
none = 4294967295

-- 'A text is an offset and a length into the text buffer'
unfoldable pub text_at : List ℕ → ℕ → ℕ → List ℕ
text_at text offset len = part text offset len

-- two texts are the same, byte for byte
unfoldable pub same_text : List ℕ → List ℕ → Bool
same_text [] [] = true
same_text [] (b ∷ u) = false
same_text (a ∷ t) [] = false
same_text (a ∷ t) (b ∷ u) = eqb a b && same_text t u

-- ---- what is written

-- 'Numbers are little-endian': a number's lowest n bytes
unfoldable pub bytes_of : ℕ → ℕ → List ℕ
bytes_of zero w = []
bytes_of (suc n) w = w % 256 ∷ bytes_of n (w / 256)

-- a word of 32 bits, and 8 bytes
unfoldable pub word : ℕ → List ℕ
unfolding bytes_of
word w = bytes_of 4 w

unfoldable pub wide : ℕ → List ℕ
unfolding bytes_of
wide w = bytes_of 8 w

unfoldable pub bool_number : Bool → ℕ
bool_number true = 1
bool_number false = 0
