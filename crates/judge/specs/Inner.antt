-- What the judge's inner functions are held to: a lowest number, and the four bytes that the pass leaves for each record: how deep it is, how often it
-- was referred to so far, what its list holds, its kind. Assumes nothing: these are definitions.
use Rattle.std.specs.Prelude.{◌≡◌, ℕ, ◌+◌, ◌*◌, ◌≤◌, ◌<◌, Bool, true, false, not, ◌&&◌, ◌||◌, List, eqb, leb, ltb, length, get_or, set}
use Rattle.laws.specs.Fix.{pick, below, fix}
use Rattle.laws.specs.Below.{sum_below}
use Rattle.records.specs.declared.shape.Role.{Role}
use Rattle.records.specs.declared.shape.Role.TheVariants.{Unused, Number, Text, Length, Expr, TypeRef, TypeOrNone, Name, Variable, Arguments, Parameters, Body, Item, Rest}
use Rattle.records.specs.Layout.{known_bytes, next_depth, next_count, next_class, next_kind, scratch_each}
use Rattle.records.specs.Words.{record_bytes, most_records, kind_of, word_of, none, A, B, C, D, E}
use Rattle.records.specs.Kinds.{kind_type, kind_int, kind_name, kind_call, kind_list, kind_value, kind_type_argument, kind_declare, kind_continue, kind_variable, kind_function}
use Rattle.records.specs.Shapes.{row_at}
use Rattle.records.specs.Rules.{list_step, word_ok, words_ok, form_ok, otherwise_marked, body_marked, is_first_type, types_first, refers_to, refers_from, references}
use Rattle.records.specs.Depth.{depth, depth_below, deepest}
use Rattle.judge.specs.declared.pass.Words.{Words}
use Rattle.judge.specs.Judge.{deepest_allowed}

-- r is the lowest number below n of which f holds, or n where there is none
pub record Lowest (n : ℕ) (f : ℕ → Bool) (r : ℕ) : Type 0 where
  pub within : r ≤ n
  pub before : (k : ℕ) → k < r → f k ≡ false
  pub found : r < n → f r ≡ true

-- x is the lowest number below r of which f holds, or n where there is none: meant where n is not below r
pub record LowestSoFar (n r : ℕ) (f : ℕ → Bool) (x : ℕ) : Type 0 where
  pub before : (k : ℕ) → k < r → k < x → f k ≡ false
  pub found : x < r → f x ≡ true
  pub unfound : r ≤ x → x ≡ n

-- the first `count` records are types, and the next is none or no type
pub record TypesLead (tree : List ℕ) (n count : ℕ) : Type 0 where
  pub within : count ≤ n
  pub types : (k : ℕ) → k < count → kind_of tree k ≡ kind_type
  pub other : count < n → kind_of tree count ≡ kind_type → ⊥

-- a tree of n whole records, no more than may be judged, whose first `count` records are its types, and room for what is known of each
pub record Passing (tree : List ℕ) (n count : ℕ) (known : List ℕ) : Type 0 where
  pub whole : n * record_bytes ≡ length tree
  pub few : n ≤ most_records
  pub room : scratch_each * n ≤ length known
  pub lead : TypesLead tree n count

-- a number that stops at `most`: a count at 2, a depth at `too_deep`
unfoldable pub capped : ℕ → ℕ → ℕ
unfolding pick
capped most x = pick (ltb x most) x most

-- how deep is too deep, and no deeper is told apart
abbrev pub too_deep : ℕ
too_deep = deepest_allowed + 1

abbrev pub shallow_depth : List ℕ → ℕ → ℕ
shallow_depth tree r = capped too_deep (depth tree r)

-- ---- the bytes of record k, in the slot behind k others, the first of which belongs to no record

abbrev pub class_in : List ℕ → ℕ → ℕ
class_in l k = get_or l (k * known_bytes + next_class) 0

abbrev pub depth_in : List ℕ → ℕ → ℕ
depth_in l k = get_or l (k * known_bytes + next_depth) 0

abbrev pub count_in : List ℕ → ℕ → ℕ
count_in l k = get_or l (k * known_bytes + next_count) 0

abbrev pub kind_in : List ℕ → ℕ → ℕ
kind_in l k = get_or l (k * known_bytes + next_kind) 0

-- the bytes of record r are written, with a count of 0
abbrev pub stored : List ℕ → ℕ → ℕ → ℕ → ℕ → List ℕ
stored l r class depth kind = set (set (set (set l (r * known_bytes + next_depth) depth) (r * known_bytes + next_count) 0) (r * known_bytes + next_class) class) (r * known_bytes + next_kind) kind

-- ---- what a list holds

-- it is told by a number: a list of arguments, of parameters or of statements, the last of the numbers; else, and of a record that is no cell, `mixed_list`
abbrev pub mixed_list : ℕ
mixed_list = 0

abbrev pub argument_list : ℕ
argument_list = 1

abbrev pub parameter_list : ℕ
parameter_list = 2

abbrev pub statement_list : ℕ
statement_list = 3

abbrev pub last_list : ℕ
last_list = statement_list

-- no list has this number
abbrev pub no_list : ℕ
no_list = 4

-- the number of the lists of a role; no list has the number of another role
abbrev pub list_number : Role → ℕ
list_number Arguments = argument_list
list_number Parameters = parameter_list
list_number Body = statement_list
list_number Unused = no_list
list_number Number = no_list
list_number Text = no_list
list_number Length = no_list
list_number Expr = no_list
list_number TypeRef = no_list
list_number TypeOrNone = no_list
list_number Name = no_list
list_number Variable = no_list
list_number Item = no_list
list_number Rest = no_list

-- the number of the lists that record a may stand in, `mixed_list` where there are none
unfoldable pub item_class : List ℕ → ℕ → ℕ
unfolding pick kind_of word_of
item_class tree a =
    pick (eqb (kind_of tree a) kind_value || eqb (kind_of tree a) kind_type_argument) argument_list
    (pick (leb kind_declare (kind_of tree a) && leb (kind_of tree a) kind_continue) statement_list
    (pick (not (eqb (kind_of tree a) kind_variable)) mixed_list (pick (eqb (word_of tree a C) none) mixed_list parameter_list)))

-- the number of the list from cell r on, whose item is a and whose rest is b: that of its item, where the rest has the same
unfoldable pub cell_class : List ℕ → (ℕ → ℕ) → ℕ → ℕ → ℕ → ℕ
unfolding pick below item_class
cell_class tree g r a b =
    pick (leb r a) mixed_list
    (pick (eqb b none) (item_class tree a) (pick (eqb (below g r b mixed_list) (item_class tree a)) (item_class tree a) mixed_list))

unfoldable pub class_at : List ℕ → (ℕ → ℕ) → ℕ → ℕ → ℕ → ℕ → ℕ
unfolding pick cell_class
class_at tree g r kind a b = pick (eqb kind kind_list) (cell_class tree g r a b) mixed_list

-- a record's badge is four times its kind, and the number of its list
abbrev pub badges_each : ℕ
badges_each = 4

-- the badges from `low_badge` to `high_badge` are right for a role
abbrev pub low_badge : Role → ℕ
low_badge Unused = 0
low_badge Number = 0
low_badge Text = 0
low_badge Length = 0
low_badge Expr = kind_int * badges_each
low_badge TypeRef = kind_type * badges_each
low_badge TypeOrNone = kind_type * badges_each
low_badge Name = kind_name * badges_each
low_badge Variable = kind_variable * badges_each
low_badge Arguments = kind_list * badges_each + argument_list
low_badge Parameters = kind_list * badges_each + parameter_list
low_badge Body = kind_list * badges_each + statement_list
low_badge Item = 0
low_badge Rest = kind_list * badges_each

abbrev pub high_badge : Role → ℕ
high_badge Unused = 0
high_badge Number = 0
high_badge Text = 0
high_badge Length = 0
high_badge Expr = kind_call * badges_each + last_list
high_badge TypeRef = kind_type * badges_each + last_list
high_badge TypeOrNone = kind_type * badges_each + last_list
high_badge Name = kind_name * badges_each + last_list
high_badge Variable = kind_variable * badges_each + last_list
high_badge Arguments = kind_list * badges_each + argument_list
high_badge Parameters = kind_list * badges_each + parameter_list
high_badge Body = kind_list * badges_each + statement_list
high_badge Item = 255 * badges_each + last_list
high_badge Rest = kind_list * badges_each + last_list

abbrev pub none_ok : Role → Bool
none_ok Unused = false
none_ok Number = false
none_ok Text = false
none_ok Length = false
none_ok Expr = false
none_ok TypeRef = false
none_ok TypeOrNone = true
none_ok Name = false
none_ok Variable = false
none_ok Arguments = true
none_ok Parameters = true
none_ok Body = true
none_ok Item = false
none_ok Rest = true

abbrev pub is_unused : Role → Bool
is_unused Unused = true
is_unused Number = false
is_unused Text = false
is_unused Length = false
is_unused Expr = false
is_unused TypeRef = false
is_unused TypeOrNone = false
is_unused Name = false
is_unused Variable = false
is_unused Arguments = false
is_unused Parameters = false
is_unused Body = false
is_unused Item = false
is_unused Rest = false

-- ---- what is known when record r is reached

-- of each record below r: what its list holds, how deep it is, its kind
pub record KnownBelow (tree : List ℕ) (r : ℕ) (l : List ℕ) : Type 0 where
  pub lists : (role : Role) (k : ℕ) → k < r → fix false (list_step tree role) k ≡ eqb (class_in l k) (list_number role)
  pub small : (k : ℕ) → k < r → class_in l k ≤ last_list
  pub cells : (k : ℕ) → k < r → (kind_of tree k ≡ kind_list → ⊥) → class_in l k ≡ mixed_list
  pub depths : (k : ℕ) → k < r → depth_in l k ≡ shallow_depth tree k
  pub kinds : (k : ℕ) → k < r → kind_in l k ≡ kind_of tree k

-- references to record k from a record behind it
unfoldable pub later_refs : List ℕ → ℕ → ℕ → ℕ
unfolding pick refers_from
later_refs tree k i = pick (ltb k i) (refers_from tree k i) 0

-- of each record below r but types, which may be referred to at will: how often the records below r and behind it refer to it, told apart up to 2
pub record Counting (tree : List ℕ) (r : ℕ) (l : List ℕ) : Type 0 where
  pub counts : (k : ℕ) → k < r → (kind_of tree k ≡ kind_type → ⊥) → capped 2 (count_in l k) ≡ capped 2 (sum_below r (later_refs tree k))

-- by its bytes record k is neither type nor function, and not referred to exactly once
unfoldable pub miscounted_in : List ℕ → ℕ → Bool
miscounted_in l k = not (eqb (kind_in l k) kind_type || eqb (kind_in l k) kind_function || eqb (count_in l k) 1)

-- of each of the first n records: its kind, and but for types how often it is referred to, told apart up to 2
pub record ReferenceCounts (tree : List ℕ) (n : ℕ) (l : List ℕ) : Type 0 where
  pub kinds : (k : ℕ) → k < n → kind_in l k ≡ kind_of tree k
  pub counts : (k : ℕ) → k < n → (kind_of tree k ≡ kind_type → ⊥) → capped 2 (count_in l k) ≡ capped 2 (references tree k)

-- ---- what a step does

-- each count below r but those of types has grown by what `more` says, where counts are told apart up to 2; the other bytes are as they were
pub record Counted (tree : List ℕ) (r : ℕ) (more : ℕ → ℕ) (l l' : List ℕ) : Type 0 where
  pub same : length l' ≡ length l
  pub grown : (k : ℕ) → k < r → (kind_of tree k ≡ kind_type → ⊥) → capped 2 (count_in l' k) ≡ capped 2 (count_in l k + more k)
  pub classes : (k : ℕ) → class_in l' k ≡ class_in l k
  pub depths : (k : ℕ) → depth_in l' k ≡ depth_in l k
  pub kinds : (k : ℕ) → kind_in l' k ≡ kind_in l k

-- one word was taken: whether it is right, how deep what it refers to is, and its reference counted
pub record Took (tree : List ℕ) (bytes r : ℕ) (role : Role) (w next : ℕ) (l l' : List ℕ) (ok : Bool) (deep : ℕ) : Type 0 where
  pub right : ok ≡ word_ok tree bytes r role w next
  pub depth : deep ≡ depth_below (shallow_depth tree) r role w
  pub counted : Counted tree r (refers_to role w) l l'

-- the words of record r
pub record WordsOf (tree : List ℕ) (r : ℕ) (words : Words) : Type 0 where
  pub a : words.a ≡ word_of tree r A
  pub b : words.b ≡ word_of tree r B
  pub c : words.c ≡ word_of tree r C
  pub d : words.d ≡ word_of tree r D
  pub e : words.e ≡ word_of tree r E

-- the five words of record r were taken
pub record TookWords (tree : List ℕ) (bytes r : ℕ) (l l' : List ℕ) (ok : Bool) (deep : ℕ) : Type 0 where
  pub right : ok ≡ words_ok tree bytes r (row_at tree r)
  pub depth : deep ≡ deepest tree (shallow_depth tree) r
  pub counted : Counted tree r (λ k. refers_from tree k r) l l'

-- record r breaks no rule but perhaps two: that no two types are equal, and that it is referred to once
unfoldable pub other_rules : List ℕ → ℕ → ℕ → Bool
unfolding form_ok otherwise_marked body_marked is_first_type types_first
other_rules tree bytes r =
    form_ok tree bytes r && otherwise_marked tree r && body_marked tree r && is_first_type tree r && types_first tree r

-- record r was taken
pub record TookRecord (tree : List ℕ) (bytes r : ℕ) (l l' : List ℕ) (ok : Bool) (deep : ℕ) : Type 0 where
  pub right : ok ≡ other_rules tree bytes r
  pub depth : deep ≡ shallow_depth tree r
  pub same : length l' ≡ length l
  pub known : KnownBelow tree (r + 1) l'
  pub counting : Counting tree (r + 1) l'

-- all n records were taken
pub record TookAll (tree : List ℕ) (bytes n : ℕ) (l l' : List ℕ) (f d : ℕ) : Type 0 where
  pub fault : Lowest n (λ k. not (other_rules tree bytes k)) f
  pub deep : Lowest n (λ k. ltb deepest_allowed (depth tree k)) d
  pub same : length l' ≡ length l
  pub known : KnownBelow tree n l'
  pub counting : Counting tree n l'
