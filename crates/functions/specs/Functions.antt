-- What `get_all_functions` owes: its list of the functions' records in scratch, and the keys. Assumes nothing: these are definitions.
use Rattle.std.specs.Prelude.{◌≡◌, ℕ, ◌+◌, ◌*◌, ◌≤◌, ◌<◌, List, [], ◌∷◌, ◌++◌, length, get_or, Ok, Err}
use Rattle.laws.specs.Splice.{splice}
use Rattle.records.specs.declared.convert_error.ConvertError.{ConvertError}
use Rattle.records.specs.Layout.{end_of, judging, key_slots}
use Rattle.records.specs.Words.{word_at, records}
use Rattle.syntax.specs.Decode.{program}
use Rattle.syntax.specs.Places.{function_of}
use Rattle.conversion.specs.Functions.{add_function, get_all_functions}
use Rattle.conversion.specs.Written.{word}
use Rattle.keys.specs.Keys.{records_below, function_places, keys_below, Listed, Mapped}
use Rattle.expressions.specs.Answers.{OrRefused, refusal, done_with}

-- one word after the other
unfoldable pub words : List ℕ → List ℕ
unfolding word
words [] = []
words (w ∷ l) = word w ++ words l

-- the scratch with the functions' records from its first byte on
unfoldable pub listed_in : List ℕ → List ℕ → List ℕ
unfolding splice words records_below
listed_in tree s = splice s 0 (words (function_places tree))

-- one turn of `get_all_functions`: the j-th listed function is added to those before it, or refused
abbrev pub TurnMeets : List ℕ → List ℕ → List ℕ → ℕ → OrRefused (Unit {0}) → Type 0
TurnMeets tree text s j r =
    add_function (function_of tree text (word_at s (judging.each * j))) (keys_below tree text j) ≡ done_with (keys_below tree text (j + 1)) r

-- the list and the slots of the keys are written, and all other bytes are as they were
pub record ListKeeps (tree s s' : List ℕ) : Type 0 where
  pub long : length s' ≡ length s
  pub between : (i : ℕ) → judging.each * length (function_places tree) ≤ i → i < key_slots.from * records tree → get_or s' i 0 ≡ get_or s i 0
  pub behind : (i : ℕ) → end_of key_slots * records tree ≤ i → get_or s' i 0 ≡ get_or s i 0

-- `get_all_functions`: the functions' records are listed, and their keys are distinct or the first function that is not fine is refused
pub data AllMeet (tree text s s' : List ℕ) : OrRefused ℕ → Type 0 where
  done : {count : ℕ} → ListKeeps tree s s' → Mapped tree text s' → count ≡ length (function_places tree) → AllMeet tree text s s' (Ok count)
  refused : {e : ConvertError} → ListKeeps tree s s' → Listed tree s' → get_all_functions (program tree text).functions [] ≡ refusal e
      → AllMeet tree text s s' (Err e)
