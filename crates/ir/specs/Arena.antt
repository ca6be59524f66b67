-- The arena: one lent buffer that holds all six tables while a tree of n records is converted, each in a region of its own, and behind them what they are searched by. It is the
-- instruction buffer (320n bytes), whose first 128n bytes are the instructions' own place. Assumes nothing: these are definitions.
use Rattle.std.specs.Prelude.{◌≡◌, ℕ, suc, ◌+◌, ◌-◌, ◌*◌, ◌/◌, ◌%◌, ◌^◌, ◌≤◌, ◌<◌, Bool, false, List, [], ◌∷◌, ◌++◌, length, take, drop, get_or}
use Rattle.laws.specs.All.{All}
use Rattle.records.specs.Layout.{Region}
use Rattle.records.specs.Words.{word_at}
use Rattle.conversion.specs.Ir as Ir
use Rattle.conversion.specs.Ir.{LabelName, StringEntry, FloatEntry, State, IrFunction, same_float, last_label_kind}
use Rattle.conversion.specs.Fits.{StringStands, FloatFits}
use Rattle.conversion.specs.Written.{bool_number, encode_all, encode_instr, encode_var, encode_label, encode_functions, encode_string, encode_float, all_code, all_vars, all_labels, instruction_bytes, variable_bytes, label_bytes, string_bytes, float_bytes}
use Rattle.ir.specs.declared.structs.Counters.{Counters}

-- ---- regions, each at a multiple of n bytes

-- 4n instructions of 32 bytes
abbrev pub instructions : Region
instructions = record { from = 0; each = 128 }

-- 3n variables of 4
abbrev pub variables : Region
variables = record { from = 128; each = 12 }

-- 3n labels of 8
abbrev pub labels : Region
labels = record { from = 140; each = 24 }

-- n functions of 32
abbrev pub functions : Region
functions = record { from = 164; each = 32 }

-- n strings of 8
abbrev pub strings : Region
strings = record { from = 196; each = 8 }

-- 2n floats of 16
abbrev pub floats : Region
floats = record { from = 204; each = 32 }

-- n numbers of 4, of the strings' texts: they are in no table
abbrev pub string_numbers : Region
string_numbers = record { from = 236; each = 4 }

-- 7n numbers of 4, of the labels of the function at hand, a word for each kind at each record, by which a label is looked for: they are in no table
abbrev pub label_slots : Region
label_slots = record { from = 240; each = 28 }

-- 2n links of 4, of the floats, and n heads of 4, of their buckets, by which a float is looked for: they are in no table
abbrev pub float_links : Region
float_links = record { from = 268; each = 8 }

abbrev pub float_heads : Region
float_heads = record { from = 276; each = 4 }

-- n slots of 4, one for the number of each text, with the string that has the text, by which a string is looked for: they are in no table
abbrev pub string_slots : Region
string_slots = record { from = 280; each = 4 }

-- 'instructions 320n bytes'
abbrev pub arena_each : ℕ
arena_each = 320

-- how many bytes a number has in what the tables are searched by
abbrev pub search_bytes : ℕ
search_bytes = 4

-- where entry i of a table stands, in the tables of n records
abbrev pub instruction_entry_at : ℕ → ℕ
instruction_entry_at i = instruction_bytes * i

abbrev pub variable_entry_at : ℕ → ℕ → ℕ
variable_entry_at n i = variables.from * n + variable_bytes * i

abbrev pub label_entry_at : ℕ → ℕ → ℕ
label_entry_at n i = labels.from * n + label_bytes * i

abbrev pub string_entry_at : ℕ → ℕ → ℕ
string_entry_at n i = strings.from * n + string_bytes * i

abbrev pub float_entry_at : ℕ → ℕ → ℕ
float_entry_at n i = floats.from * n + float_bytes * i

-- the number of string i's text, and the slot of number o
abbrev pub string_number_at : ℕ → ℕ → ℕ
string_number_at n i = string_numbers.from * n + search_bytes * i

abbrev pub string_slot_at : ℕ → ℕ → ℕ
string_slot_at n o = string_slots.from * n + search_bytes * o

-- the link of float i, and the head of bucket b
abbrev pub float_link_at : ℕ → ℕ → ℕ
float_link_at n i = float_links.from * n + search_bytes * i

abbrev pub float_head_at : ℕ → ℕ → ℕ
float_head_at n b = float_heads.from * n + search_bytes * b

abbrev pub arena : List Region
arena = instructions ∷ variables ∷ labels ∷ functions ∷ strings ∷ floats ∷ string_numbers ∷ label_slots ∷ float_links ∷ float_heads ∷ string_slots ∷ []

-- ---- what stands there

-- l has the bytes bs from `at` on
pub record Has (l : List ℕ) (at : ℕ) (bs : List ℕ) : Type 0 where
  pub is : take (length bs) (drop at l) ≡ bs

-- a table of n entries of w bytes: the encodings of xs, one behind the other
pub record Table {X : Type 0} (f : X → List ℕ) (w : ℕ) (xs : List X) (at n : ℕ) (l : List ℕ) : Type 0 where
  pub bytes : Has l at (encode_all f xs)
  pub width : (x : X) → length (f x) ≡ w
  pub count : n ≡ length xs

-- what is written so far: the functions that are done, the instructions of the function at hand, and the definitions' state
pub record TablesSoFar : Type 0 where
  pub done : List IrFunction
  pub code : List Ir.Instr
  pub state : State

-- the numbers of a label fit their words
pub record LabelFits (l : LabelName) : Type 0 where
  pub kind : l.kind < 2 ^ 32
  pub opener : l.opener < 2 ^ 32

-- a label has a slot in the tables of n records: its kind is one of document 01's seven, its opener one of the records
pub record HasSlot (n : ℕ) (x : LabelName) : Type 0 where
  pub least : 1 ≤ x.kind
  pub most : x.kind ≤ last_label_kind
  pub opener : x.opener < n

abbrev pub label_slot : ℕ → LabelName → ℕ
label_slot n x = label_slots.from * n + label_slots.each * x.opener + search_bytes * (x.kind - 1)

abbrev pub no_label : LabelName
no_label = record { kind = 0; opener = 0 }

-- each of these labels has a slot, and its number stands there; the other slots may have anything
pub record LabelSlots (n : ℕ) (xs : List LabelName) (l : List ℕ) : Type 0 where
  pub has : (i : ℕ) → i < length xs → HasSlot n (get_or xs i no_label)
  pub number : (i : ℕ) → i < length xs → word_at l (label_slot n (get_or xs i no_label)) ≡ i

-- the numbers below m, each in a bucket, are linked: the head of a bucket that has some of them is the last, and the link of each is one past the last before it
-- in its bucket, or 0 where it is the first. The head of a bucket that has none may be anything
pub record Linked (head link bucket : ℕ → ℕ) (m : ℕ) : Type 0 where
  pub head_in : (i : ℕ) → i < m → head (bucket i) < m
  pub head_of : (i : ℕ) → i < m → bucket (head (bucket i)) ≡ bucket i
  pub head_last : (i : ℕ) → i < m → i ≤ head (bucket i)
  pub link_low : (i : ℕ) → i < m → link i ≤ i
  pub link_of : (i j : ℕ) → i < m → link i ≡ suc j → bucket j ≡ bucket i
  pub link_last : (i j : ℕ) → i < m → j < i → bucket j ≡ bucket i → j < link i

-- the entries of a table, each in a bucket, are linked, and no two are the same: the heads and the links stand from these bytes on, and `past` stands for an entry past the last
pub record LinkedEntries {X : Type 0} (bucket : X → ℕ) (same : X → X → Bool) (past : X) (heads links : ℕ) (xs : List X) (l : List ℕ) : Type 0 where
  pub linked : Linked (λ b. word_at l (heads + search_bytes * b)) (λ i. word_at l (links + search_bytes * i)) (λ i. bucket (get_or xs i past)) (length xs)
  pub distinct : (i j : ℕ) → j < length xs → i < j → same (get_or xs j past) (get_or xs i past) ≡ false

-- the bucket, one of n, of a float of these words: the high bits of a product depend on all bits of its factors
unfoldable pub float_bucket : ℕ → ℕ → ℕ → ℕ → ℕ
float_bucket n low high mark = (low * 1640531527 + high * 1013904223 + mark) / 4294967296 % n

abbrev pub float_entry_bucket : ℕ → FloatEntry → ℕ
float_entry_bucket n x = float_bucket n (x.bits % 4294967296) (x.bits / 4294967296) (bool_number x.short)

abbrev pub no_float : FloatEntry
no_float = record { bits = 0; short = false }

abbrev pub LinkedFloats : ℕ → List FloatEntry → List ℕ → Type 0
LinkedFloats n xs l = LinkedEntries (float_entry_bucket n) same_float no_float (float_heads.from * n) (float_links.from * n) xs l

abbrev pub no_string : StringEntry
no_string = record { offset = 0; len = 0; text = [] }

-- a buffer of text, and a number for each text: the emitter knows no records, and leaves open what gives the numbers
pub record NumberedTexts : Type 0 where
  pub text : List ℕ
  pub number : List ℕ → ℕ

-- a number below n is that of one text alone
abbrev pub TellsApart : (List ℕ → ℕ) → ℕ → Type 0
TellsApart number n = (u v : List ℕ) → number u < n → number v ≡ number u → v ≡ u

-- each of these strings has a text of a number below n; the number stands at the string's place, and the string at the number's slot. The other slots may have anything
pub record StringSlots (number : List ℕ → ℕ) (n : ℕ) (xs : List StringEntry) (l : List ℕ) : Type 0 where
  pub has : (i : ℕ) → i < length xs → number (get_or xs i no_string).text < n
  pub numbered : (i : ℕ) → i < length xs → word_at l (string_number_at n i) ≡ number (get_or xs i no_string).text
  pub slot : (i : ℕ) → i < length xs → word_at l (string_slot_at n (number (get_or xs i no_string).text)) ≡ i

-- how many functions are done, and how many instructions, variables and labels they have
pub record Before (done : List IrFunction) (functions instructions variables labels : ℕ) : Type 0 where
  pub functions_count : functions ≡ length done
  pub instructions_before : instructions ≡ length (all_code done)
  pub variables_before : variables ≡ length (all_vars done)
  pub labels_before : labels ≡ length (all_labels done)

-- the entries fit their words
pub record Fits (text : List ℕ) (labels : List LabelName) (strings : List StringEntry) (floats : List FloatEntry) : Type 0 where
  pub labels_fit : All LabelFits labels
  pub strings_stand : All (StringStands text) strings
  pub floats_fit : All FloatFits floats

-- the arena holds these tables, and the counters count them
pub record Holds (texts : NumberedTexts) (t : TablesSoFar) (k : Counters) (l : List ℕ) : Type 0 where
  pub instructions_hold : Table encode_instr instruction_bytes (all_code t.done ++ t.code) (instructions.from * k.records) k.instructions l
  pub variables_hold : Table encode_var variable_bytes (all_vars t.done ++ t.state.vars) (variables.from * k.records) k.variables l
  pub labels_hold : Table encode_label label_bytes (all_labels t.done ++ t.state.labels) (labels.from * k.records) k.labels l
  pub functions_hold : Has l (functions.from * k.records) (encode_functions 0 0 0 t.done)
  pub strings_hold : Table encode_string string_bytes t.state.strings (strings.from * k.records) k.strings l
  pub floats_hold : Table encode_float float_bytes t.state.floats (floats.from * k.records) k.floats l
  pub slots_hold : LabelSlots k.records t.state.labels l
  pub float_links_hold : LinkedFloats k.records t.state.floats l
  pub string_slots_hold : StringSlots texts.number k.records t.state.strings l
  pub before : Before t.done k.functions k.instructions_before k.variables_before k.labels_before
  pub fits : Fits texts.text t.state.labels t.state.strings t.state.floats

-- the counters stay within the regions, and the arena is as long as document 01 lends it; its offsets fit a word
pub record Room (k : Counters) (l : List ℕ) : Type 0 where
  pub arena : arena_each * k.records ≤ length l
  pub small : arena_each * k.records < 2 ^ 32
  pub instructions_in : k.instructions ≤ 4 * k.records
  pub variables_in : k.variables ≤ 3 * k.records
  pub labels_in : k.labels ≤ 3 * k.records
  pub functions_listed : k.functions ≤ k.records
  pub strings_in : k.strings ≤ k.records
  pub floats_in : k.floats ≤ 2 * k.records
  pub instructions_from : k.instructions_before ≤ k.instructions
  pub variables_from : k.variables_before ≤ k.variables
  pub labels_from : k.labels_before ≤ k.labels
