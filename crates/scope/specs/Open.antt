-- The open names in scratch, as scope.rs has them in its maps: the scope that the bytes stand for, and what the methods owe. Assumes
-- nothing: these are definitions.
use Rattle.std.specs.Prelude.{◌≡◌, ℕ, zero, suc, ◌+◌, ◌*◌, ◌/◌, ◌%◌, ◌≤◌, ◌<◌, Bool, true, false, ◌&&◌, List, [], ◌∷◌, ◌++◌, eqb, ltb, length}
use Rattle.std.proofs.Math.Option.{Option, none, some}
use Rattle.laws.specs.Fix.{pick}
use Rattle.laws.specs.Splice.{splice}
use Rattle.records.specs.Layout.{scratch_each, open_names, name_slots}
use Rattle.records.specs.Words as Words
use Rattle.records.specs.Words.{word_at, text_at, second_word, third_word, fourth_word}
use Rattle.syntax.specs.Places.{function_of}
use Rattle.conversion.specs.Ir as Ir
use Rattle.conversion.specs.Ir.{same_text}
use Rattle.conversion.specs.Scope as Defined
use Rattle.conversion.specs.Scope.{Variable, find_in}
use Rattle.conversion.specs.Written.{word, bool_number}
use Rattle.ir.specs.declared.structs.VarId.{VarId}
use Rattle.ir.specs.Instructions.{var_of}
use Rattle.scope.specs.declared.Scope.{Scope}
use Rattle.scope.specs.declared.Known.{Known}
use Rattle.std.specs.Prelude.{Option as StdOption, Some, None}

-- ---- what the scratch stands for

-- the entry at byte p: offset and length of its name, its number, twice its type and 1 if constant
abbrev pub var_at : List ℕ → ℕ → Ir.VarId
var_at s p = record { id = word_at s (p + third_word); ty = word_at s (p + fourth_word) / 2 }

abbrev pub constant_at : List ℕ → ℕ → Bool
constant_at s p = eqb (word_at s (p + fourth_word) % 2) 1

abbrev pub open_variable : List ℕ → List ℕ → ℕ → Variable
open_variable text s p = record { name = text_at text (word_at s p) (word_at s (p + second_word)); constant = constant_at s p; var_id = var_at s p }

-- where entry j stands in the scratch of n records
abbrev pub open_name_at : ℕ → ℕ → ℕ
open_name_at n j = open_names.from * n + open_names.each * j

-- the first `count` entries, innermost first: the innermost stands last
unfoldable pub variables_at : List ℕ → List ℕ → ℕ → ℕ → List Variable
variables_at text s n zero = []
variables_at text s n (suc j) = open_variable text s (open_name_at n j) ∷ variables_at text s n j

-- the open names of a scope
abbrev pub variables_of : List ℕ → List ℕ → Scope → List Variable
variables_of text s sc = variables_at text s sc.records sc.names

-- the innermost loop's record
unfoldable pub loop_number : ℕ → Option ℕ
unfolding pick
loop_number w = pick (eqb w Words.none) none (some w)

-- the definition's scope that the cursor and the bytes stand for
unfoldable pub scope_at : List ℕ → List ℕ → List ℕ → Scope → Defined.Scope
unfolding variables_at loop_number function_of
scope_at tree text s sc = record { variables = variables_of text s sc; in_loop = loop_number sc.inner; function = function_of tree text sc.function }

-- the open names stay within their region, and the scratch is as long as document 01 lends it
pub record NamesRoom (sc : Scope) (s : List ℕ) : Type 0 where
  pub scratch : scratch_each * sc.records ≤ length s
  pub names_in : sc.names ≤ sc.records

-- ---- looking for a name

-- the name of entry j is the text u
unfoldable pub name_is : List ℕ → List ℕ → ℕ → List ℕ → ℕ → Bool
name_is text s n u j = same_text u (text_at text (word_at s (open_name_at n j)) (word_at s (open_name_at n j + second_word)))

-- offset and length of entry j are these two words
unfoldable pub words_are : List ℕ → ℕ → ℕ → ℕ → ℕ → Bool
words_are s n offset len j = eqb offset (word_at s (open_name_at n j)) && eqb len (word_at s (open_name_at n j + second_word))

-- where the slot of the text with number o stands in the scratch of n records
abbrev pub name_slot_at : ℕ → ℕ → ℕ
name_slot_at n o = name_slots.from * n + name_slots.each * o

-- the entry that the slot of o says, where it is one of the first `count` and has the two words
unfoldable pub open_at : List ℕ → ℕ → ℕ → ℕ → ℕ → ℕ → Option ℕ
unfolding pick words_are
open_at s n count o offset len =
    let j = word_at s (name_slot_at n o) in
    pick (ltb j count && words_are s n offset len j) (some j) none

-- the two words tell the text that they say from those of the open names: an entry has the text exactly where it has the words
abbrev pub ToldApart : List ℕ → List ℕ → Scope → ℕ → ℕ → Type 0
ToldApart text s sc offset len = (j : ℕ) → j < sc.names → name_is text s sc.records (text_at text offset len) j ≡ words_are s sc.records offset len j

-- the slot of o tells where they stand: an open name with the two words is the one that it says
abbrev pub SlotTells : List ℕ → Scope → ℕ → ℕ → ℕ → Type 0
SlotTells s sc o offset len = (j : ℕ) → j < sc.names → words_are s sc.records offset len j ≡ true → word_at s (name_slot_at sc.records o) ≡ j

unfoldable pub VariableAt : List ℕ → ℕ → Known → Type 0
VariableAt s p k = (var_of k.var ≡ var_at s p) × (k.constant ≡ constant_at s p)

-- the answer is what the definition finds
unfoldable pub IsFound : StdOption Known → Option Variable → Type 0
IsFound (Some k) (some x) = (var_of k.var ≡ x.var_id) × (k.constant ≡ x.constant)
IsFound (Some k) none = ⊥
IsFound None (some x) = ⊥
IsFound None none = Unit {0}

-- `find_variable` of the name u
abbrev pub FindMeets : List ℕ → List ℕ → Scope → List ℕ → StdOption Known → Type 0
FindMeets text s sc u r = IsFound r (find_in u (variables_of text s sc))

-- the same of a number and two words, in every text where the words tell the name and the slot its place
abbrev pub FindsTold : List ℕ → Scope → ℕ → ℕ → ℕ → StdOption Known → Type 0
FindsTold s sc o offset len r =
    (text : List ℕ) → ToldApart text s sc offset len → SlotTells s sc o offset len → FindMeets text s sc (text_at text offset len) r

-- ---- one name more

abbrev pub more : Scope → Scope
more sc = record { records = sc.records; names = sc.names + 1; inner = sc.inner; function = sc.function }

abbrev pub variable_named : List ℕ → ℕ → ℕ → VarId → Bool → Variable
variable_named text offset len v constant = record { name = text_at text offset len; constant = constant; var_id = var_of v }

-- the entry of a variable
abbrev pub name_entry : ℕ → ℕ → VarId → Bool → List ℕ
name_entry offset len v constant = word offset ++ word len ++ word v.0 ++ word (2 * v.1 + bool_number constant)

-- the scratch with that entry behind the others, and its place at the slot of o
abbrev pub name_added : ℕ → ℕ → ℕ → VarId → Bool → Scope → List ℕ → List ℕ
name_added o offset len v constant sc s =
    splice (splice s (open_name_at sc.records sc.names) (name_entry offset len v constant)) (name_slot_at sc.records o) (word sc.names)

-- a name more is afforded, its place fits a word, and its type has room beside the mark
pub record NameAfforded (sc : Scope) (v : VarId) : Type 0 where
  pub names : sc.names < sc.records
  pub place : sc.names < 4294967296
  pub type : v.1 < 2147483648

module _ (text : List ℕ) (o offset len : ℕ) (v : VarId) (constant : Bool) (sc : Scope) (s s' : List ℕ) where
  -- the name was free, and its words no open name's; its entry stands behind the others, with the two words, its place at the slot of o, and the variable
  -- is the innermost
  pub record Added (sc' : Scope) : Type 0 where
    pub scope : sc' ≡ more sc
    pub written : s' ≡ name_added o offset len v constant sc s
    pub free : find_in (text_at text offset len) (variables_of text s sc) ≡ none
    pub new : (j : ℕ) → j < sc.names → words_are s sc.records offset len j ≡ false
    pub offset_is : word_at s' (open_name_at sc.records sc.names) ≡ offset
    pub length_is : word_at s' (open_name_at sc.records sc.names + second_word) ≡ len
    pub slot_is : word_at s' (name_slot_at sc.records o) ≡ sc.names
    pub added : variables_of text s' sc' ≡ variable_named text offset len v constant ∷ variables_of text s sc

  -- some variable has the name, and nothing is written
  pub record Taken : Type 0 where
    pub same : s' ≡ s
    pub holder : Variable
    pub found : find_in (text_at text offset len) (variables_of text s sc) ≡ some holder

  unfoldable pub DeclareMeets : StdOption Scope → Type 0
  DeclareMeets (Some sc') = Added sc'
  DeclareMeets None = Taken

-- `declare` of a number and two words, in every text where the words tell the name and the slot its place
abbrev pub DeclaresTold : ℕ → ℕ → ℕ → VarId → Bool → Scope → List ℕ → List ℕ → StdOption Scope → Type 0
DeclaresTold o offset len v constant sc s s' r =
    (text : List ℕ) → ToldApart text s sc offset len → SlotTells s sc o offset len → DeclareMeets text o offset len v constant sc s s' r

-- ---- loops

-- inside the loop of record r
abbrev pub within : ℕ → Scope → Scope
within r sc = record { records = sc.records; names = sc.names; inner = r; function = sc.function }

-- what `in_loop` answers
abbrev pub loop_of : StdOption ℕ → Option ℕ
loop_of (Some r) = some r
loop_of None = none
