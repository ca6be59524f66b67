-- The table by which a record that uses A, B and C alone is taken, what each of its numbers stands for, and what the parts of that say. Assumes nothing: these are definitions.
use Rattle.std.specs.Prelude.{◌≡◌, ℕ, ◌+◌, ◌*◌, ◌≤◌, ◌<◌, Bool, true, false, not, ◌&&◌, ◌||◌, List, [], ◌∷◌, eqb, leb, length, get_or}
use Rattle.laws.specs.Fix.{pick}
use Rattle.records.specs.declared.shape.Role.{Role}
use Rattle.records.specs.declared.shape.Role.TheVariants.{Unused, Number, Text, Length, Expr, TypeRef, TypeOrNone, Name, Variable, Arguments, Parameters, Body, Item, Rest}
use Rattle.records.specs.Layout.{known_bytes, slot_class, slot_kind}
use Rattle.records.specs.Words.{record_bytes, most_records, kind_of, detail_of, pad_of, none, bool_number}
use Rattle.records.specs.Kinds.{kind_type, kind_list, kind_value, kind_type_argument, kind_declare, kind_if, kind_continue, kind_variable, kind_function}
use Rattle.records.specs.Shapes.{row_of, refers}
use Rattle.judge.specs.declared.pass.Words.{Words}
use Rattle.judge.specs.Judge.{fewest_records}
use Rattle.judge.specs.Inner.{mixed_list, argument_list, parameter_list, statement_list, badges_each, low_badge, high_badge, none_ok, is_unused, TypesLead, KnownBelow, Counting, WordsOf, TookRecord}

-- a row of twenty numbers for each kind: five for each of the words A, B and C, and five for the record
abbrev pub plain_rules : List ℕ
plain_rules =
    0 ∷ 0 ∷ 0 ∷ 255 ∷ 1 ∷ 0 ∷ 0 ∷ 0 ∷ 255 ∷ 1 ∷ 0 ∷ 0 ∷ 0 ∷ 255 ∷ 1 ∷ 0 ∷ 0 ∷ 0 ∷ 0 ∷ 0 ∷
    0 ∷ 0 ∷ 0 ∷ 255 ∷ 1 ∷ 0 ∷ 0 ∷ 0 ∷ 255 ∷ 1 ∷ 0 ∷ 0 ∷ 0 ∷ 255 ∷ 1 ∷ 0 ∷ 0 ∷ 0 ∷ 0 ∷ 0 ∷
    0 ∷ 0 ∷ 0 ∷ 255 ∷ 0 ∷ 0 ∷ 0 ∷ 0 ∷ 255 ∷ 0 ∷ 0 ∷ 0 ∷ 0 ∷ 255 ∷ 1 ∷ 0 ∷ 4 ∷ 0 ∷ 0 ∷ 0 ∷
    0 ∷ 0 ∷ 0 ∷ 255 ∷ 0 ∷ 0 ∷ 0 ∷ 0 ∷ 255 ∷ 0 ∷ 0 ∷ 0 ∷ 0 ∷ 255 ∷ 1 ∷ 0 ∷ 2 ∷ 0 ∷ 0 ∷ 0 ∷
    0 ∷ 0 ∷ 0 ∷ 255 ∷ 0 ∷ 0 ∷ 0 ∷ 0 ∷ 255 ∷ 0 ∷ 0 ∷ 0 ∷ 0 ∷ 255 ∷ 1 ∷ 1 ∷ 1 ∷ 0 ∷ 0 ∷ 0 ∷
    0 ∷ 0 ∷ 0 ∷ 255 ∷ 1 ∷ 0 ∷ 0 ∷ 0 ∷ 255 ∷ 1 ∷ 0 ∷ 0 ∷ 0 ∷ 255 ∷ 1 ∷ 0 ∷ 2 ∷ 0 ∷ 0 ∷ 0 ∷
    0 ∷ 0 ∷ 0 ∷ 255 ∷ 0 ∷ 0 ∷ 0 ∷ 0 ∷ 255 ∷ 0 ∷ 0 ∷ 0 ∷ 0 ∷ 255 ∷ 1 ∷ 1 ∷ 1 ∷ 0 ∷ 0 ∷ 0 ∷
    0 ∷ 0 ∷ 0 ∷ 255 ∷ 1 ∷ 0 ∷ 0 ∷ 0 ∷ 255 ∷ 1 ∷ 0 ∷ 0 ∷ 0 ∷ 255 ∷ 1 ∷ 0 ∷ 1 ∷ 0 ∷ 0 ∷ 0 ∷
    1 ∷ 1 ∷ 4 ∷ 7 ∷ 0 ∷ 0 ∷ 0 ∷ 0 ∷ 255 ∷ 1 ∷ 0 ∷ 0 ∷ 0 ∷ 255 ∷ 1 ∷ 0 ∷ 1 ∷ 0 ∷ 0 ∷ 0 ∷
    1 ∷ 1 ∷ 8 ∷ 47 ∷ 0 ∷ 0 ∷ 0 ∷ 0 ∷ 255 ∷ 1 ∷ 0 ∷ 0 ∷ 0 ∷ 255 ∷ 1 ∷ 0 ∷ 3 ∷ 0 ∷ 0 ∷ 0 ∷
    1 ∷ 1 ∷ 8 ∷ 47 ∷ 0 ∷ 1 ∷ 1 ∷ 8 ∷ 47 ∷ 0 ∷ 0 ∷ 0 ∷ 0 ∷ 255 ∷ 1 ∷ 0 ∷ 18 ∷ 0 ∷ 0 ∷ 0 ∷
    0 ∷ 0 ∷ 0 ∷ 255 ∷ 0 ∷ 0 ∷ 0 ∷ 0 ∷ 255 ∷ 0 ∷ 1 ∷ 0 ∷ 49 ∷ 49 ∷ 0 ∷ 1 ∷ 1 ∷ 1 ∷ 12 ∷ 0 ∷
    1 ∷ 1 ∷ 0 ∷ 255 ∷ 0 ∷ 1 ∷ 0 ∷ 48 ∷ 51 ∷ 0 ∷ 0 ∷ 0 ∷ 0 ∷ 255 ∷ 1 ∷ 0 ∷ 1 ∷ 0 ∷ 12 ∷ 0 ∷
    1 ∷ 1 ∷ 8 ∷ 47 ∷ 0 ∷ 0 ∷ 0 ∷ 0 ∷ 255 ∷ 1 ∷ 0 ∷ 0 ∷ 0 ∷ 255 ∷ 1 ∷ 0 ∷ 1 ∷ 0 ∷ 0 ∷ 1 ∷
    1 ∷ 1 ∷ 4 ∷ 7 ∷ 0 ∷ 0 ∷ 0 ∷ 0 ∷ 255 ∷ 1 ∷ 0 ∷ 0 ∷ 0 ∷ 255 ∷ 1 ∷ 0 ∷ 1 ∷ 0 ∷ 0 ∷ 1 ∷
    0 ∷ 0 ∷ 0 ∷ 255 ∷ 0 ∷ 0 ∷ 0 ∷ 0 ∷ 255 ∷ 0 ∷ 1 ∷ 1 ∷ 4 ∷ 7 ∷ 0 ∷ 1 ∷ 1 ∷ 0 ∷ 0 ∷ 3 ∷
    0 ∷ 0 ∷ 0 ∷ 255 ∷ 0 ∷ 0 ∷ 0 ∷ 0 ∷ 255 ∷ 0 ∷ 1 ∷ 1 ∷ 8 ∷ 47 ∷ 0 ∷ 1 ∷ 2 ∷ 0 ∷ 0 ∷ 3 ∷
    1 ∷ 1 ∷ 8 ∷ 47 ∷ 0 ∷ 0 ∷ 0 ∷ 0 ∷ 255 ∷ 1 ∷ 0 ∷ 0 ∷ 0 ∷ 255 ∷ 1 ∷ 0 ∷ 1 ∷ 0 ∷ 0 ∷ 3 ∷
    1 ∷ 1 ∷ 8 ∷ 47 ∷ 0 ∷ 0 ∷ 0 ∷ 0 ∷ 255 ∷ 1 ∷ 0 ∷ 0 ∷ 0 ∷ 255 ∷ 1 ∷ 0 ∷ 1 ∷ 0 ∷ 0 ∷ 3 ∷
    1 ∷ 1 ∷ 8 ∷ 47 ∷ 0 ∷ 1 ∷ 0 ∷ 51 ∷ 51 ∷ 0 ∷ 1 ∷ 0 ∷ 51 ∷ 51 ∷ 0 ∷ 0 ∷ 2 ∷ 3 ∷ 12 ∷ 3 ∷
    1 ∷ 1 ∷ 8 ∷ 47 ∷ 0 ∷ 1 ∷ 0 ∷ 51 ∷ 51 ∷ 0 ∷ 0 ∷ 0 ∷ 0 ∷ 255 ∷ 1 ∷ 0 ∷ 1 ∷ 3 ∷ 12 ∷ 3 ∷
    1 ∷ 1 ∷ 96 ∷ 99 ∷ 0 ∷ 1 ∷ 1 ∷ 8 ∷ 47 ∷ 0 ∷ 1 ∷ 1 ∷ 8 ∷ 47 ∷ 0 ∷ 0 ∷ 0 ∷ 0 ∷ 0 ∷ 3 ∷
    0 ∷ 0 ∷ 0 ∷ 255 ∷ 1 ∷ 0 ∷ 0 ∷ 0 ∷ 255 ∷ 1 ∷ 0 ∷ 0 ∷ 0 ∷ 255 ∷ 1 ∷ 0 ∷ 1 ∷ 0 ∷ 0 ∷ 3 ∷
    0 ∷ 0 ∷ 0 ∷ 255 ∷ 1 ∷ 0 ∷ 0 ∷ 0 ∷ 255 ∷ 1 ∷ 0 ∷ 0 ∷ 0 ∷ 255 ∷ 1 ∷ 0 ∷ 1 ∷ 0 ∷ 0 ∷ 3 ∷
    0 ∷ 0 ∷ 0 ∷ 255 ∷ 0 ∷ 0 ∷ 0 ∷ 0 ∷ 255 ∷ 0 ∷ 1 ∷ 0 ∷ 4 ∷ 7 ∷ 0 ∷ 1 ∷ 1 ∷ 0 ∷ 1 ∷ 2 ∷
    1 ∷ 1 ∷ 24 ∷ 27 ∷ 0 ∷ 1 ∷ 1 ∷ 24 ∷ 27 ∷ 0 ∷ 1 ∷ 0 ∷ 50 ∷ 50 ∷ 0 ∷ 0 ∷ 0 ∷ 0 ∷ 0 ∷ 0 ∷ []

-- ---- where the numbers stand: how many a row has, and how many rows there are, none for a kind above the last

abbrev pub row_numbers : ℕ
row_numbers = 20

abbrev pub rule_rows : ℕ
rule_rows = kind_function + 1

abbrev pub rule_numbers : ℕ
rule_numbers = rule_rows * row_numbers

-- among a word's five: whether it refers comes first, then whether it must, the lowest and the highest badge, whether it must be zero
abbrev pub must_refer : ℕ
must_refer = 1

abbrev pub badge_from : ℕ
badge_from = 2

abbrev pub badge_to : ℕ
badge_to = 3

abbrev pub must_be_zero : ℕ
must_be_zero = 4

-- in a row: the five of A come first, then those of B and C
abbrev pub rule_of_b : ℕ
rule_of_b = 5

abbrev pub rule_of_c : ℕ
rule_of_c = 10

-- among those of B and C, as among A's: whether it must be zero
abbrev pub zero_of_b : ℕ
zero_of_b = rule_of_b + must_be_zero

abbrev pub zero_of_c : ℕ
zero_of_c = rule_of_c + must_be_zero

-- then whether A is a text, the limit of the details, class and kind for slot 0, and the list that such a record may stand in
abbrev pub text_rule : ℕ
text_rule = 15

abbrev pub limit_rule : ℕ
limit_rule = 16

abbrev pub item_rule : ℕ
item_rule = 19

-- ---- what they stand for

-- the badge of the record in slot p: four times its kind, and what its list holds
abbrev pub badge_in : List ℕ → ℕ → ℕ
badge_in known p = get_or known (p * known_bytes + slot_kind) 0 * badges_each + get_or known (p * known_bytes + slot_class) 0

-- a word whose five numbers begin at `at` may refer to a record of this badge
abbrev pub badge_within : List ℕ → ℕ → ℕ → Bool
badge_within rules at badge = leb (get_or rules (at + badge_from) 0) badge && leb badge (get_or rules (at + badge_to) 0)

abbrev pub is_text : Role → Bool
is_text Unused = false
is_text Number = false
is_text Text = true
is_text Length = false
is_text Expr = false
is_text TypeRef = false
is_text TypeOrNone = false
is_text Name = false
is_text Variable = false
is_text Arguments = false
is_text Parameters = false
is_text Body = false
is_text Item = false
is_text Rest = false

-- the five numbers of a word are right for its role: whether it refers, whether it must, badges that are right where it refers, whether it must be zero
unfoldable pub rule_fits : List ℕ → ℕ → Role → Bool
unfolding bool_number
rule_fits rules at role =
    eqb (get_or rules at 0) (bool_number (refers role))
    && eqb (get_or rules (at + must_refer) 0) (bool_number (refers role && not (none_ok role)))
    && (not (refers role) || leb (low_badge role) (get_or rules (at + badge_from) 0))
    && (not (refers role) || leb (get_or rules (at + badge_to) 0) (high_badge role))
    && eqb (get_or rules (at + must_be_zero) 0) (bool_number (is_unused role))
    && leb (get_or rules (at + badge_to) 0) 255

-- the numbers of kind k are right for its row: B and C are no texts; where details are allowed the kind is no type, and D and E are unused
unfoldable pub row_fits : List ℕ → ℕ → Bool
unfolding rule_fits row_of bool_number
row_fits rules k =
    rule_fits rules (k * row_numbers) (row_of k).a
    && rule_fits rules (k * row_numbers + rule_of_b) (row_of k).b
    && rule_fits rules (k * row_numbers + rule_of_c) (row_of k).c
    && eqb (get_or rules (k * row_numbers + text_rule) 0) (bool_number (is_text (row_of k).a))
    && not (is_text (row_of k).b)
    && not (is_text (row_of k).c)
    && (eqb (get_or rules (k * row_numbers + limit_rule) 0) 0 || (eqb (get_or rules (k * row_numbers + limit_rule) 0) (row_of k).limit && not (eqb k kind_type) && is_unused (row_of k).d && is_unused (row_of k).e))

-- word w of record r leads to slot p: slot 0 where it does not refer, or is none and may be; else the slot of the lower record w
pub record Place (r : ℕ) (role : Role) (w p : ℕ) : Type 0 where
  pub within : p ≤ r
  pub lower : (i : ℕ) → p ≡ i + 1 → (refers role ≡ true) × (i ≡ w)
  pub own : p ≡ 0 → refers role ≡ true → (w ≡ none) × (none_ok role ≡ true)

-- slot 0 was written, of no depth; the other slots are as they were
pub record Owned (l l' : List ℕ) : Type 0 where
  pub same : length l' ≡ length l
  pub depth : get_or l' 0 0 ≡ 0
  pub others : (x : ℕ) → known_bytes ≤ x → get_or l' x 0 ≡ get_or l x 0

-- record r of kind k is right aside from what it refers to
pub record PlainForm (tree : List ℕ) (bytes r k : ℕ) (words : Words) (rules : List ℕ) : Type 0 where
  pub zero_a : words.a * get_or rules (k * row_numbers + must_be_zero) 0 ≡ 0
  pub zero_b : words.b * get_or rules (k * row_numbers + zero_of_b) 0 ≡ 0
  pub zero_c : words.c * get_or rules (k * row_numbers + zero_of_c) 0 ≡ 0
  pub zero_d : words.d ≡ 0
  pub zero_e : words.e ≡ 0
  pub pad : pad_of tree r ≡ 0
  pub text : (words.a + words.b) * get_or rules (k * row_numbers + text_rule) 0 ≤ bytes
  pub limit : detail_of tree r < get_or rules (k * row_numbers + limit_rule) 0
  pub marks : (not (eqb k kind_if) || eqb (detail_of tree r) 1 || eqb words.c none) ≡ true

-- the list that a record of kind k may stand in; a variable only where it has a type
unfoldable pub item_number : ℕ → ℕ
unfolding pick
item_number k = pick (eqb k kind_value || eqb k kind_type_argument) argument_list (pick (leb kind_declare k && leb k kind_continue) statement_list (pick (eqb k kind_variable) parameter_list mixed_list))

-- a record of kind k with the word a, whose words A and B lead to slots; where it is a cell its item is known
pub record Cells (tree : List ℕ) (k a pa pb : ℕ) (l rules : List ℕ) : Type 0 where
  pub item : k ≡ kind_list → a * record_bytes + record_bytes ≤ length tree
  pub kind : k ≡ kind_list → get_or l (pa * known_bytes + slot_kind) 0 ≡ kind_of tree a
  pub few : (pa ≤ most_records) × (pb ≤ most_records)
  pub room : (pa * known_bytes + known_bytes ≤ length l) × (pb * known_bytes + known_bytes ≤ length l)
  pub table : rules ≡ plain_rules

-- record r of kind k and the table of rules are at hand, with what is known of the records below it; the first twelve records are taken otherwise
pub record PlainReady (tree : List ℕ) (r k : ℕ) (l rules : List ℕ) : Type 0 where
  pub whole : r * record_bytes + record_bytes ≤ length tree
  pub past : fewest_records ≤ r
  pub few : r < most_records
  pub room : r * known_bytes + 2 * known_bytes ≤ length l
  pub kind : k ≡ kind_of tree r
  pub small : k < rule_rows
  pub table : rules ≡ plain_rules
  pub known : KnownBelow tree r l
  pub counting : Counting tree r l

-- and its words lead to slots
pub record WordSlots (tree : List ℕ) (r k : ℕ) (words : Words) (pa pb pc : ℕ) (l rules : List ℕ) : Type 0 where
  pub ready : PlainReady tree r k l rules
  pub of : WordsOf tree r words
  pub a : Place r (row_of k).a words.a pa
  pub b : Place r (row_of k).b words.b pb
  pub c : Place r (row_of k).c words.c pc

-- record r was taken, where what it refers to was right; else only slot 0 was written
pub record TookSlots (tree : List ℕ) (r k : ℕ) (words : Words) (rules l l' : List ℕ) (ok : Bool) (deep : ℕ) : Type 0 where
  pub took : ok ≡ true → (bytes n types : ℕ) → PlainForm tree bytes r k words rules → TypesLead tree n types → r < n → TookRecord tree bytes r l l' true deep
  pub left : ok ≡ false → KnownBelow tree r l' × Counting tree r l'
  pub same : length l' ≡ length l

-- record r was taken, where it was right; else slot 0 was written at most
pub record TookPlain (tree : List ℕ) (bytes r : ℕ) (l l' : List ℕ) (ok : Bool) (deep : ℕ) : Type 0 where
  pub took : ok ≡ true → (n types : ℕ) → TypesLead tree n types → r < n → TookRecord tree bytes r l l' true deep
  pub left : ok ≡ false → KnownBelow tree r l' × Counting tree r l'
  pub same : length l' ≡ length l
