-- A number of 4 or 8 bytes is the sum of its bytes, each at its weight.
-- By the law of quotient and remainder at each byte. Assumes nothing.
use mathlib.Core.Path.{◌≡◌, refl, ap, ◌∙◌}
use Prim.Native.Nat.{ℕ, zero, suc, ◌+◌, ◌*◌, ◌/◌, ◌%◌, ◌^◌, ◌<◌, ◌≤◌}
use mathlib.Core.List.{List, [], ◌∷◌, ◌++◌}
use native.Mathlib.Nat.{div-add-mod', mod-lt, add_assoc}
use native.Mathlib.Omega.{arith}
use lib.Dec.{lit<}
use lib.ListN.{length, take, drop, get_or}
use lib.Seq.{get_or-drop, drop-cons}
use Rattle.laws.specs.All.{All}
use Rattle.records.specs.Words.{byte_at, word_at}
use Rattle.conversion.specs.Written.{bytes_of, word, wide}
use Rattle.tables.specs.Read.{wide_at}
use Rattle.tables.specs.Bytes.{Byte}
use Rattle.tables.proofs.Exists.{Word}

step : (w : ℕ) → w / 256 * 256 + w % 256 ≡ w
step w = div-add-mod' w 256

pub four : (w : ℕ) → w < 4294967296
    → w % 256 + w / 256 % 256 * 256 + w / 256 / 256 % 256 * 65536 + w / 256 / 256 / 256 % 256 * 16777216 ≡ w
four w h = omega (arith, step w, step (w / 256), step (w / 256 / 256), step (w / 256 / 256 / 256))

pub word_back : (w : ℕ) (rest : List ℕ) → Word w → word_at (word w ++ rest) 0 ≡ w
unfolding word_at byte_at word bytes_of
word_back w rest h = four w h

pub wide_back : (w : ℕ) (rest : List ℕ) → w < 2 ^ 64 → wide_at (wide w ++ rest) 0 ≡ w
unfolding wide_at word_at byte_at wide bytes_of
wide_back w rest h = omega (
  arith,
  step w,
  step (w / 256),
  step (w / 256 / 256),
  step (w / 256 / 256 / 256),
  step (w / 256 / 256 / 256 / 256),
  step (w / 256 / 256 / 256 / 256 / 256),
  step (w / 256 / 256 / 256 / 256 / 256 / 256),
  step (w / 256 / 256 / 256 / 256 / 256 / 256 / 256),
)

-- ---- the other way: the bytes of the number that bytes say are these bytes

pub byte_at_lem : (l : List ℕ) (i : ℕ) → All Byte l → byte_at l i < 256
unfolding byte_at
byte_at_lem [] i h = omega arith
byte_at_lem (b ∷ l) zero h = h.0
byte_at_lem (b ∷ l) (suc i) h = byte_at_lem l i h.1

-- the lowest byte, and the others
low_byte : (n a m w : ℕ) → Byte a → w ≡ a + 256 * m → bytes_of (suc n) w ≡ a ∷ bytes_of n m
unfolding bytes_of
low_byte n a m w h e =
    let r : w % 256 ≡ a = omega (arith, step w, mod-lt w {m = 256} (lit< tt)) in
    let d : w / 256 ≡ m = omega (arith, step w, mod-lt w {m = 256} (lit< tt)) in
    rw (r, d)

four_bytes : (n a b c d m w : ℕ) → Byte a → Byte b → Byte c → Byte d → w ≡ a + b * 256 + c * 65536 + d * 16777216 + m * 4294967296
    → bytes_of (suc (suc (suc (suc n)))) w ≡ a ∷ b ∷ c ∷ d ∷ bytes_of n m
four_bytes n a b c d m w h i j k e =
    low_byte _ a (b + 256 * (c + 256 * (d + 256 * m))) w h (omega arith)
    ∙ ap (a ∷◌) (low_byte _ b (c + 256 * (d + 256 * m)) _ i refl
    ∙ ap (b ∷◌) (low_byte _ c (d + 256 * m) _ j refl ∙ ap (c ∷◌) (low_byte n d m _ k refl)))

-- the n bytes of a list from i on
unfoldable pub bytes_from : List ℕ → ℕ → ℕ → List ℕ
bytes_from l i zero = []
bytes_from l i (suc n) = byte_at l i ∷ bytes_from l (suc i) n

module _ (l : List ℕ) (bytes : All Byte l) where
  pub word_of : (i : ℕ) → word (word_at l i) ≡ byte_at l i ∷ byte_at l (i + 1) ∷ byte_at l (i + 2) ∷ byte_at l (i + 3) ∷ []
  unfolding word word_at bytes_of
  word_of i = four_bytes 0 (byte_at l i) (byte_at l (i + 1)) (byte_at l (i + 2)) (byte_at l (i + 3)) 0 (word_at l i)
      (byte_at_lem l i bytes) (byte_at_lem l (i + 1) bytes) (byte_at_lem l (i + 2) bytes) (byte_at_lem l (i + 3) bytes) (omega arith)

  pub wide_of : (i : ℕ) → wide (wide_at l i) ≡ byte_at l i ∷ byte_at l (i + 1) ∷ byte_at l (i + 2) ∷ byte_at l (i + 3) ∷ word (word_at l (i + 4))
  unfolding wide wide_at word_at word
  wide_of i = four_bytes 4 (byte_at l i) (byte_at l (i + 1)) (byte_at l (i + 2)) (byte_at l (i + 3)) (word_at l (i + 4)) (wide_at l i)
      (byte_at_lem l i bytes) (byte_at_lem l (i + 1) bytes) (byte_at_lem l (i + 2) bytes) (byte_at_lem l (i + 3) bytes) (omega arith)

  pub word_small : (i : ℕ) → Word (word_at l i)
  unfolding word_at
  word_small i = omega (arith, byte_at_lem l i bytes, byte_at_lem l (i + 1) bytes, byte_at_lem l (i + 2) bytes, byte_at_lem l (i + 3) bytes)

  pub wide-small : (i : ℕ) → wide_at l i < 2 ^ 64
  unfolding wide_at
  wide-small i = omega (arith, word_small i, word_small (i + 4))

pub take-bytes : (l : List ℕ) (i n : ℕ) → i + n ≤ length l → take n (drop i l) ≡ bytes_from l i n
unfolding bytes_from byte_at
take-bytes l i zero h = refl
take-bytes l i (suc n) h = rw (drop-cons l i 0 (omega arith)) (ap (get_or l i 0 ∷◌) (take-bytes l (suc i) n (omega arith)))

-- ---- a number in what follows the first n bytes stands n further on

pub byte-drop : (n : ℕ) (b : List ℕ) (i : ℕ) → byte_at (drop n b) i ≡ byte_at b (n + i)
unfolding byte_at
byte-drop n b i = get_or-drop n b i 0

pub word-drop : (n : ℕ) (b : List ℕ) (i : ℕ) → word_at (drop n b) i ≡ word_at b (n + i)
unfolding word_at
word-drop n b i = simp (byte-drop, add_assoc)

pub wide-drop : (n : ℕ) (b : List ℕ) (i : ℕ) → wide_at (drop n b) i ≡ wide_at b (n + i)
unfolding wide_at
wide-drop n b i = rw (word-drop n b i, word-drop n b (i + 4), add_assoc n i 4)
