-- The counters as they are lent: ten words, one behind the other, which everything that converts is lent and changes in place. Assumes nothing: these are definitions.
use Rattle.std.specs.Prelude.{ℕ, ◌^◌, List, get_or}
use Rattle.ir.specs.declared.structs.Counters.{Counters}

-- which word is which: the records of the tree, the entries of each table, and how many there were before the function at hand began
abbrev pub records_word : ℕ
records_word = 0

abbrev pub instructions_word : ℕ
instructions_word = 1

abbrev pub variables_word : ℕ
variables_word = 2

abbrev pub labels_word : ℕ
labels_word = 3

abbrev pub functions_word : ℕ
functions_word = 4

abbrev pub strings_word : ℕ
strings_word = 5

abbrev pub floats_word : ℕ
floats_word = 6

abbrev pub instructions_before_word : ℕ
instructions_before_word = 7

abbrev pub variables_before_word : ℕ
variables_before_word = 8

abbrev pub labels_before_word : ℕ
labels_before_word = 9

-- how many there are
abbrev pub counter_words : ℕ
counter_words = 10

-- the counters that the words k stand for. Where the last word is missing it counts as 2^32, for which no arena has room: so `Room (counted k) l` says, too, that all ten are there
unfoldable pub counted : List ℕ → Counters
counted k =
    record {
      records = get_or k records_word 0;
      instructions = get_or k instructions_word 0;
      variables = get_or k variables_word 0;
      labels = get_or k labels_word 0;
      functions = get_or k functions_word 0;
      strings = get_or k strings_word 0;
      floats = get_or k floats_word 0;
      instructions_before = get_or k instructions_before_word 0;
      variables_before = get_or k variables_before_word 0;
      labels_before = get_or k labels_before_word (2 ^ 32);
    }
