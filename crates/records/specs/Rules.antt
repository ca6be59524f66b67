-- Document 01, 'The call': when a record breaks a rule. One definition a rule; `record_ok` has them all.
-- Assumes nothing: these are definitions.
use Rattle.std.specs.Prelude.{ℕ, ◌+◌, Bool, true, false, not, ◌&&◌, ◌||◌, List, [], ◌∷◌, eqb, leb, ltb, length, get_or}
use Rattle.laws.specs.Fix.{pick, below, fix}
use Rattle.laws.specs.Below.{all_below, any_below, sum_below}
use Rattle.records.specs.declared.shape.Role.{Role}
use Rattle.records.specs.declared.shape.Role.TheVariants.{Unused, Number, Text, Length, Expr, TypeRef, TypeOrNone, Name, Variable, Arguments, Parameters, Body, Item, Rest}
use Rattle.records.specs.declared.shape.Row.{Row}
use Rattle.records.specs.Words.{kind_of, detail_of, pad_of, word_of, text_at, same_text, records, none, A, B, C, D, E}
use Rattle.records.specs.Kinds.{kind_type, kind_int, kind_name, kind_call, kind_list, kind_value, kind_type_argument, kind_declare, kind_if, kind_continue, kind_variable, kind_function, form_custom}
use Rattle.records.specs.Shapes.{row_at, refers}

-- 'A record refers only to lower numbers': the kind of the record that word w of record r refers to, 0 where that is none or not lower
unfoldable pub kind_below : List ℕ → ℕ → ℕ → ℕ
unfolding pick kind_of
kind_below tree r w = pick (ltb w r) (kind_of tree w) 0

-- Int, Float, Str, Bool, Name, Null, SizeOf, Unary, Binary, Call
abbrev pub is_expr : ℕ → Bool
is_expr kind = leb kind_int kind && leb kind kind_call

-- 'Arguments are lists of kinds 13 and 14 .., parameters lists of typed 24, bodies lists of 15 to 23': item a in a list of this role
unfoldable pub item_ok : List ℕ → Role → ℕ → Bool
unfolding kind_of word_of
item_ok tree Arguments a = eqb (kind_of tree a) kind_value || eqb (kind_of tree a) kind_type_argument
item_ok tree Parameters a = eqb (kind_of tree a) kind_variable && not (eqb (word_of tree a C) none)
item_ok tree Body a = leb kind_declare (kind_of tree a) && leb (kind_of tree a) kind_continue
item_ok tree Unused a = false
item_ok tree Number a = false
item_ok tree Text a = false
item_ok tree Length a = false
item_ok tree Expr a = false
item_ok tree TypeRef a = false
item_ok tree TypeOrNone a = false
item_ok tree Name a = false
item_ok tree Variable a = false
item_ok tree Item a = false
item_ok tree Rest a = false

-- a cell, whose item is a lower record that is right for the role, and whose rest is none or such a list further down
unfoldable pub list_step : List ℕ → Role → (ℕ → Bool) → ℕ → Bool
unfolding below item_ok kind_of word_of
list_step tree role g cell =
    eqb (kind_of tree cell) kind_list
    && below (item_ok tree role) cell (word_of tree cell A) false
    && (eqb (word_of tree cell B) none || below g cell (word_of tree cell B) false)

-- the list that word w of record r opens: 'for a list's items the one that opens the list' is at fault
unfoldable pub list_ok : List ℕ → Role → ℕ → ℕ → Bool
unfolding fix below list_step
list_ok tree role r w = below (fix false (list_step tree role)) r w false

-- word w of record r, with the word after it, is right for its role; `bytes` is how long the text buffer is
unfoldable pub word_ok : List ℕ → ℕ → ℕ → Role → ℕ → ℕ → Bool
unfolding kind_below list_ok
word_ok tree bytes r Unused w next = eqb w 0
word_ok tree bytes r Number w next = true
word_ok tree bytes r Text w next = leb (w + next) bytes
word_ok tree bytes r Length w next = true
word_ok tree bytes r Expr w next = is_expr (kind_below tree r w)
word_ok tree bytes r TypeRef w next = eqb (kind_below tree r w) kind_type
word_ok tree bytes r TypeOrNone w next = eqb w none || eqb (kind_below tree r w) kind_type
word_ok tree bytes r Name w next = eqb (kind_below tree r w) kind_name
word_ok tree bytes r Variable w next = eqb (kind_below tree r w) kind_variable
word_ok tree bytes r Arguments w next = eqb w none || list_ok tree Arguments r w
word_ok tree bytes r Parameters w next = eqb w none || list_ok tree Parameters r w
word_ok tree bytes r Body w next = eqb w none || list_ok tree Body r w
word_ok tree bytes r Item w next = ltb w r
word_ok tree bytes r Rest w next = eqb w none || eqb (kind_below tree r w) kind_list

-- the five words of record r
unfoldable pub words_ok : List ℕ → ℕ → ℕ → Row → Bool
unfolding word_ok word_of
words_ok tree bytes r row =
    word_ok tree bytes r row.a (word_of tree r A) (word_of tree r B)
    && word_ok tree bytes r row.b (word_of tree r B) (word_of tree r C)
    && word_ok tree bytes r row.c (word_of tree r C) (word_of tree r D)
    && word_ok tree bytes r row.d (word_of tree r D) (word_of tree r E)
    && word_ok tree bytes r row.e (word_of tree r E) 0

-- a known kind, a known detail, 'bytes 2 and 3 zero', the words; an unknown kind or detail has limit 0
unfoldable pub form_ok : List ℕ → ℕ → ℕ → Bool
unfolding pad_of detail_of row_at words_ok
form_ok tree bytes r =
    eqb (pad_of tree r) 0 && ltb (detail_of tree r) (row_at tree r).limit && words_ok tree bytes r (row_at tree r)

-- If: '1 has otherwise (else C none)'
unfoldable pub otherwise_marked : List ℕ → ℕ → Bool
unfolding kind_of detail_of word_of
otherwise_marked tree r = not (eqb (kind_of tree r) kind_if) || eqb (detail_of tree r) 1 || eqb (word_of tree r C) none

-- function: '4 has body (else E none)'
unfoldable pub body_marked : List ℕ → ℕ → Bool
unfolding kind_of detail_of word_of
body_marked tree r = not (eqb (kind_of tree r) kind_function) || leb 4 (detail_of tree r) || eqb (word_of tree r E) none

-- 'the twelve Int long, Int short, unsigned long, unsigned short, Float long, Float short, Bool, Char, Byte, Null, Address of Char,
-- Address of Null': their details and their words A
abbrev pub twelve_details : List ℕ
twelve_details = 1 ∷ 17 ∷ 33 ∷ 49 ∷ 2 ∷ 18 ∷ 3 ∷ 4 ∷ 5 ∷ 9 ∷ 6 ∷ 6 ∷ []

abbrev pub twelve_inner : List ℕ
twelve_inner = 0 ∷ 0 ∷ 0 ∷ 0 ∷ 0 ∷ 0 ∷ 0 ∷ 0 ∷ 0 ∷ 0 ∷ 7 ∷ 9 ∷ []

-- 'Types come first: the twelve ..'
unfoldable pub is_first_type : List ℕ → ℕ → Bool
unfolding kind_of detail_of word_of
is_first_type tree r =
    leb 12 r
    || (eqb (kind_of tree r) kind_type && eqb (detail_of tree r) (get_or twelve_details r 0) && eqb (word_of tree r A) (get_or twelve_inner r 0))

-- '.. then others': a type after another kind is at fault
unfoldable pub types_first : List ℕ → ℕ → Bool
unfolding kind_of all_below
types_first tree r = not (eqb (kind_of tree r) kind_type) || all_below r (λ j. eqb (kind_of tree j) kind_type)

-- 'no two equal (key text aside)': Custom by its name, the others by detail, inner type and count. Inner types are the same when they are
-- the same record: were they equal otherwise, the later of them would be at fault before. So would a record whose name leaves the buffer.
unfoldable pub same_type : List ℕ → List ℕ → ℕ → ℕ → Bool
unfolding pick same_text text_at detail_of word_of
same_type tree text j r =
    eqb (detail_of tree j) (detail_of tree r)
    && pick (eqb (detail_of tree r) form_custom)
    (same_text (text_at text (word_of tree j A) (word_of tree j B)) (text_at text (word_of tree r A) (word_of tree r B)))
    (eqb (word_of tree j A) (word_of tree r A) && eqb (word_of tree j B) (word_of tree r B) && eqb (word_of tree j C) (word_of tree r C))

-- 'of two equal types .. the later' is at fault
unfoldable pub type_is_new : List ℕ → List ℕ → ℕ → Bool
unfolding kind_of any_below same_type
type_is_new tree text r = not (eqb (kind_of tree r) kind_type) || not (any_below r (λ j. eqb (kind_of tree j) kind_type && same_type tree text j r))

-- how often a word of this role refers to record r: once or not at all
unfoldable pub refers_to : Role → ℕ → ℕ → ℕ
unfolding pick
refers_to role w r = pick (refers role && eqb w r) 1 0

-- how often the words of record i refer to record r
unfoldable pub refers_from : List ℕ → ℕ → ℕ → ℕ
unfolding refers_to row_at word_of
refers_from tree r i =
    refers_to (row_at tree i).a (word_of tree i A) r
    + refers_to (row_at tree i).b (word_of tree i B) r
    + refers_to (row_at tree i).c (word_of tree i C) r
    + refers_to (row_at tree i).d (word_of tree i D) r
    + refers_to (row_at tree i).e (word_of tree i E) r

-- how often record r is referred to
unfoldable pub references : List ℕ → ℕ → ℕ
unfolding sum_below refers_from
references tree r = sum_below (records tree) (refers_from tree r)

-- 'Each record but types and functions is referred to exactly once': 'for the count of references the one referred to' is at fault
unfoldable pub referred_once : List ℕ → ℕ → Bool
unfolding kind_of references
referred_once tree r = eqb (kind_of tree r) kind_type || eqb (kind_of tree r) kind_function || eqb (references tree r) 1

-- record r breaks no rule
unfoldable pub record_ok : List ℕ → List ℕ → ℕ → Bool
unfolding form_ok otherwise_marked body_marked is_first_type types_first type_is_new referred_once
record_ok tree text r =
    form_ok tree (length text) r
    && otherwise_marked tree r
    && body_marked tree r
    && is_first_type tree r
    && types_first tree r
    && type_is_new tree text r
    && referred_once tree r
