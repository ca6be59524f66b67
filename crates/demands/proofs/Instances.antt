-- The call at trees written out as bytes, in buffers longer than needed and full of sevens: answer and every byte afterwards.
-- By computing. Assumes nothing.
use mathlib.Core.Path.{◌≡◌, refl}
use Prim.Native.Nat.{ℕ, ◌+◌, ◌*◌}
use mathlib.Core.Bool.{Bool, true, false}
use mathlib.Core.List.{List, [], ◌∷◌, ◌++◌}
use lib.ListN.{replicate}
use Rattle.records.specs.Words.{none}
use Rattle.judge.specs.Judge.{Buffers, buffers}
use Rattle.conversion.specs.Written.{word}
use Rattle.conversion.proofs.Trees.{row, types, text}
use Rattle.conversion.proofs.Marked.{logic}
use Rattle.demands.specs.Call.{call_of, Answer, Refusal, Counted, answer_of, buffers_after}

-- seven buffers for n records, each three bytes longer than needed, of which every byte is `fill`
unfoldable pub lent : ℕ → ℕ → Buffers
lent n fill =
    buffers
    (replicate (320 * n + 3) fill)
    (replicate (12 * n + 3) fill)
    (replicate (24 * n + 3) fill)
    (replicate (32 * n + 3) fill)
    (replicate (8 * n + 3) fill)
    (replicate (32 * n + 3) fill)
    (replicate (72 * n + 3) fill)

-- answer and buffers of a call
pub record Run : Type 0 where
  pub answer : Answer
  pub after : Buffers

unfoldable pub run : List ℕ → List ℕ → Bool → Buffers → Run
unfolding call_of answer_of buffers_after
run tree text needsMain b = let o = call_of tree text needsMain b in record { answer = answer_of o; after = buffers_after o b }

-- a refusal without a span
unfoldable pub refuses : ℕ → ℕ → Answer
refuses number place = Refusal (record { number = number; place = place; start = 0; end = 0 })

-- ---- 'Twelve types alone print, whole: `0 0 0 0 0 0 0`'

pub twelve_types : run types [] false (lent 12 7)
    ≡ record { answer = Counted (record { functions = 0; instructions = 0; variables = 0; labels = 0; strings = 0; floats = 0 }) 0; after = lent 12 0 }
unfolding run types lent
twelve_types = refl

-- NoMain has no place, and is a refusal of the conversion: all seven buffers are zero
pub no_main : run types [] true (lent 12 7) ≡ record { answer = refuses 10 none; after = lent 12 0 }
unfolding run types lent refuses
no_main = refl

-- seven buffers for twelve records, as long as needed but for strings and scratch, which take 96 and 864 bytes
unfoldable pub lent_with : ℕ → ℕ → Buffers
lent_with strings scratch =
    buffers
    (replicate 3840 7)
    (replicate 144 7)
    (replicate 288 7)
    (replicate 384 7)
    (replicate strings 7)
    (replicate 384 7)
    (replicate scratch 7)

-- the buffer for strings is one byte too short: all seven as found
unfoldable pub one_short : Buffers
unfolding lent_with
one_short = lent_with 95 864

pub short_buffer : run types [] false one_short ≡ record { answer = refuses 26 none; after = one_short }
unfolding run types one_short refuses
short_buffer = refl

-- scratch is, and 'Scratch grows to 72n bytes, for 26 too'
pub short-scratch : run types [] false (lent_with 96 863) ≡ record { answer = refuses 26 none; after = lent_with 96 863 }
unfolding run types lent_with refuses
short-scratch = refl

-- and with that byte the twelve types convert
pub no_longer_short : (run types [] false (lent_with 96 864)).answer ≡ Counted (record { functions = 0; instructions = 0; variables = 0; labels = 0; strings = 0; floats = 0 }) 0
unfolding run types lent_with
no_longer_short = refl

-- part of a record follows, and buffers are too short besides: row 'lengths' comes first
pub part_record : run (types ++ (6 ∷ [])) [] false one_short ≡ record { answer = refuses 24 none; after = one_short }
unfolding run types one_short refuses
part_record = refl

-- a record of no kind: all seven buffers are zero
pub bad_record : run (types ++ row 26 0 0 0 0 0 0) [] false (lent 13 7) ≡ record { answer = refuses 24 12; after = lent 13 0 }
unfolding run types lent refuses row
bad_record = refl

-- ---- marked case 1: Comment, Copy v2 v0, JumpIfNot v2 L1, Copy v2 v1, Label L1, Return v2; L0 is listed, never placed

unfoldable pub words : List ℕ → List ℕ
unfolding word
words [] = []
words (w ∷ l) = word w ++ words l

-- a table, and zeros to the end of a buffer of that many bytes
unfoldable pub padded : List ℕ → ℕ → List ℕ
unfolding words
padded l n = words l ++ replicate n 0

unfoldable pub case_one : Buffers
unfolding padded
case_one =
    buffers
    (padded
    (12 ∷ 0 ∷ 0 ∷ 0 ∷ 0 ∷ 0 ∷ 19 ∷ 0
    ∷ 65537 ∷ 2 ∷ 0 ∷ 0 ∷ 0 ∷ 0 ∷ 0 ∷ 0
    ∷ 65546 ∷ 1 ∷ 2 ∷ 0 ∷ 0 ∷ 0 ∷ 0 ∷ 0
    ∷ 65537 ∷ 2 ∷ 1 ∷ 0 ∷ 0 ∷ 0 ∷ 0 ∷ 0
    ∷ 8 ∷ 1 ∷ 0 ∷ 0 ∷ 0 ∷ 0 ∷ 0 ∷ 0
    ∷ 65547 ∷ 0 ∷ 2 ∷ 0 ∷ 0 ∷ 0 ∷ 0 ∷ 0 ∷ []) 7491)
    (padded (6 ∷ 6 ∷ 6 ∷ []) 279)
    (padded (6 ∷ 18 ∷ 7 ∷ 18 ∷ []) 563)
    (padded (23 ∷ 1 ∷ 0 ∷ 6 ∷ 0 ∷ 3 ∷ 0 ∷ 2 ∷ []) 739)
    (padded [] 195)
    (padded [] 771)
    (padded [] 1731)

pub marked-one : run (logic 1) text false (lent 24 7)
    ≡ record { answer = Counted (record { functions = 1; instructions = 6; variables = 3; labels = 2; strings = 0; floats = 0 }) 3; after = case_one }
unfolding run logic text lent case_one
marked-one = refl
