-- The types of expressions in scratch, each at its slot, with the turn in which it was worked out; the scope; and what typing leaves of the scratch.
-- Assumes nothing: these are definitions.
use Rattle.std.specs.Prelude.{◌≡◌, ◌⊎◌, Option as StdOption, ℕ, ◌+◌, ◌*◌, ◌/◌, ◌≤◌, ◌<◌, Bool, true, ◌||◌, length}
use mathlib.Core.List.{List, [], ◌∷◌}
use Rattle.std.proofs.Math.Option.{Option, none, some}
use Rattle.std.proofs.Math.Dec.{eqb}
use Rattle.laws.specs.Fix.{pick}
use Rattle.laws.specs.Below.{sum_below}
use Rattle.laws.specs.Splice.{splice}
use Rattle.laws.specs.Different.{has}
use Rattle.records.specs.Layout as Layout
use Rattle.records.specs.Layout.{end_of, type_slots, besides}
use Rattle.records.specs.Words.{byte_at, word_at, word_of, kind_of, records, A, B, C, second_word, fourth_word}
use Rattle.records.specs.Kinds.{kind_binary, kind_call, kind_function}
use Rattle.records.specs.Good.{Good}
use Rattle.syntax.specs.Syntax.{Args, no_args, Value, ToType, place}
use Rattle.syntax.specs.Decode.{program, text_of}
use Rattle.syntax.specs.Exprs.{exprs}
use Rattle.conversion.specs.ConvertError.{Result, ok}
use Rattle.conversion.specs.Scope as Def
use Rattle.conversion.specs.Expressions.{TypedArg, Callee, CallFunction, CallCast, get_type, resolve_call, common_type}
use Rattle.conversion.specs.Written.{word}
use Rattle.ir.specs.declared.structs.VarId.{VarId}
use Rattle.scope.specs.declared.Scope.{Scope}
use Rattle.scope.specs.Open.{NamesRoom, open_name_at, name_slot_at, scope_at, DeclareMeets}
use Rattle.syntax.specs.Places.{IsExpr, TypeAt, FunctionAt, function_of, expr_at, args_at}
use Rattle.texts.specs.Texts.{has_own, original_at, Numbered}
use Rattle.keys.specs.Keys.{all_keys, Keyed}

-- y is the type of the first of the arguments
unfoldable pub FirstType : List TypedArg → ℕ → Type 0
FirstType [] y = ⊥
FirstType (a ∷ l) y = a.ty ≡ y

-- where the slot of the expression at record e stands in the scratch of n records, and where the turn in which it was worked out
abbrev pub type_slot_at : ℕ → ℕ → ℕ
type_slot_at n e = type_slots.from * n + type_slots.each * e

abbrev pub turn_slot_at : ℕ → ℕ → ℕ
turn_slot_at n e = (Layout.turns).from * n + (Layout.turns).each * e

-- and where what is kept beside its type
abbrev pub beside_slot_at : ℕ → ℕ → ℕ
beside_slot_at n e = besides.from * n + besides.each * e

module _ (tree : List ℕ) where
  -- 'the types of expressions: a word at the slot of the expression's record'
  unfoldable pub slot_at : List ℕ → ℕ → ℕ
  unfolding word_at
  slot_at s e = word_at s (type_slot_at (records tree) e)

  -- 'the turn in which its type was worked out: a word at the slot of its record'; 'in the first word stands how many visits were made'
  unfoldable pub turn_at : List ℕ → ℕ → ℕ
  unfolding word_at
  turn_at s e = word_at s (turn_slot_at (records tree) e)

  unfoldable pub visits_at : List ℕ → ℕ
  unfolding word_at
  visits_at s = word_at s (besides.from * records tree)

  -- what is kept beside its type: a word at the slot of its record
  unfoldable pub beside_at : List ℕ → ℕ → ℕ
  unfolding word_at
  beside_at s e = word_at s (beside_slot_at (records tree) e)

  -- the type of record e was worked out in this turn; how many were
  unfoldable pub in_turn : ℕ → List ℕ → ℕ → Bool
  unfolding turn_at
  in_turn turn s e = eqb (turn_at s e) turn

  unfoldable pub made : ℕ → List ℕ → ℕ
  unfolding in_turn sum_below pick
  made turn s = sum_below (records tree) (λ e. pick (in_turn turn s e) 1 0)

  -- a visit: the type y of record e is worked out in this turn, and b kept beside it
  unfoldable pub after_visit : ℕ → ℕ → ℕ → ℕ → List ℕ → List ℕ
  unfolding visits_at splice word
  after_visit turn e y b s =
      splice (splice (splice (splice s (type_slot_at (records tree) e) (word y)) (turn_slot_at (records tree) e) (word turn)) (beside_slot_at (records tree) e) (word b))
      (besides.from * records tree) (word (visits_at s + 1))

  -- the arguments with the types that the slots have
  unfoldable pub slotted : List ℕ → Args → List TypedArg
  unfolding slot_at place
  slotted s no_args = []
  slotted s (Value r e l) = record { ty = slot_at s (place e); value = some e } ∷ slotted s l
  slotted s (ToType r y l) = record { ty = y; value = none } ∷ slotted s l

  -- each argument's slot has a type
  unfoldable pub ArgsTyped : List ℕ → Args → Type 0
  unfolding slot_at place
  ArgsTyped s no_args = Unit {0}
  ArgsTyped s (Value r e l) = TypeAt tree (slot_at s (place e)) × ArgsTyped s l
  ArgsTyped s (ToType r y l) = ArgsTyped s l

  -- the number of record r's text, as the scratch has it; word k of the record so named, the lowest with the text
  abbrev pub original_of : List ℕ → ℕ → ℕ
  original_of s r = word_at s (original_at (records tree) r)

  abbrev pub original_word : List ℕ → ℕ → ℕ → ℕ
  original_word s r k = word_of tree (original_of s r) k

  -- the two words of open name j are words A and B of such a record, and the slot of its number says j
  pub record Original (s : List ℕ) (j : ℕ) : Type 0 where
    pub of : ℕ
    pub below : of < records tree
    pub has_its_text : has_own tree of ≡ true
    pub inside : original_of s of < records tree
    pub offset : word_at s (open_name_at (records tree) j) ≡ original_word s of A
    pub len : word_at s (open_name_at (records tree) j + second_word) ≡ original_word s of B
    pub slot : word_at s (name_slot_at (records tree) (original_of s of)) ≡ j

  -- the scope is one of this tree, the open names' types are types of this tree, and each says its text by the lowest record that has it and is found
  -- at the slot of that record
  pub record Scoped (s : List ℕ) (sc : Scope) : Type 0 where
    pub records_are : sc.records ≡ records tree
    pub room : NamesRoom sc s
    pub types : (j : ℕ) → j < sc.names → TypeAt tree (word_at s (open_name_at (records tree) j + fourth_word) / 2)
    pub named : (j : ℕ) → j < sc.names → Original s j

  -- below the turns only the region of the slots may differ
  pub record Frame (s s' : List ℕ) : Type 0 where
    pub same_length : length s' ≡ length s
    pub outside : (i : ℕ) → (i < type_slots.from * records tree) ⊎ ((end_of type_slots * records tree ≤ i) × (i < (Layout.turns).from * records tree)) → byte_at s' i ≡ byte_at s i

  -- no type was worked out in any turn but 0, and no visit made (a tree without records has no word for them); all below the turns is as it was
  pub record Forgets (s s' : List ℕ) : Type 0 where
    pub same_length : length s' ≡ length s
    pub below : (i : ℕ) → i < (Layout.turns).from * records tree → byte_at s' i ≡ byte_at s i
    pub turns : (e : ℕ) → e < records tree → turn_at s' e ≡ 0
    pub none_made : 0 < records tree → visits_at s' ≡ 0

  module _ (text : List ℕ) where
    -- the type of the expression at record e
    unfoldable pub type_in : Def.Scope → ℕ → Result ℕ
    unfolding get_type expr_at program all_keys
    type_in S e = get_type (program tree text) (all_keys tree text) (expr_at tree text e) S

    -- what the call at record e runs
    abbrev pub callee_in : Def.Scope → ℕ → Result Callee
    callee_in S e = resolve_call (program tree text) (all_keys tree text) (text_of tree text e A) (args_at tree text (word_of tree e C)) S e

    -- what a call runs, by the record of it: a function, or a cast to a type
    unfoldable pub callee_at : ℕ → Callee
    unfolding pick function_of
    callee_at w = pick (eqb (kind_of tree w) kind_function) (CallFunction (function_of tree text w)) (CallCast w)

    -- the call at record e runs what record w stands for
    pub record Callable (S : Def.Scope) (e w : ℕ) : Type 0 where
      pub is : callee_in S e ≡ ok (callee_at w)
      pub stands : FunctionAt tree w ⊎ TypeAt tree w

    -- the type that both sides of the Binary at record e take, and that it is w
    abbrev pub common_in : Def.Scope → ℕ → Result (Option ℕ)
    common_in S e = common_type (program tree text) (all_keys tree text) (expr_at tree text (word_of tree e A)) (expr_at tree text (word_of tree e B)) S

    pub record BothTake (S : Def.Scope) (e w : ℕ) : Type 0 where
      pub is : common_in S e ≡ ok (some w)
      pub type : TypeAt tree w

    -- the word w can be kept beside the type of record e: beside a call's what it runs, beside a Binary's the type that both sides take
    pub record Beside (S : Def.Scope) (e w : ℕ) : Type 0 where
      pub callee : kind_of tree e ≡ kind_call → Callable S e w
      pub common : kind_of tree e ≡ kind_binary → BothTake S e w

    -- the type of the expression at record e, in this scope, stands at its slot, and beside it what is to be kept
    pub record RightAt (S : Def.Scope) (s : List ℕ) (e : ℕ) : Type 0 where
      pub expression : IsExpr tree e
      pub is : type_in S e ≡ ok (slot_at s e)
      pub type : TypeAt tree (slot_at s e)
      pub beside : Beside S e (beside_at s e)

    -- what was worked out in this turn, in this scope: it is right, and so is all below it; no later turn has begun, and visits can be counted on
    pub record Remembers (S : Def.Scope) (turn : ℕ) (s : List ℕ) : Type 0 where
      pub right : (e : ℕ) → e < records tree → turn_at s e ≡ turn → RightAt S s e
      pub below : (e : ℕ) → e < records tree → turn_at s e ≡ turn
          → (r : ℕ) → r < records tree → has r (exprs (expr_at tree text e)) ≡ true → turn_at s r ≡ turn
      pub latest : (e : ℕ) → e < records tree → turn_at s e ≤ turn
      pub countable : visits_at s + records tree < 4294967296 + made turn s

    -- the records of the list l were typed, each once unless it had been in this turn before
    pub record Typed (S : Def.Scope) (turn : ℕ) (s : List ℕ) (l : List ℕ) (s' : List ℕ) : Type 0 where
      pub remembers : Remembers S turn s'
      pub adds : (r : ℕ) → r < records tree → in_turn turn s' r ≡ (in_turn turn s r || has r l)
      pub counts : visits_at s' + made turn s ≡ visits_at s + made turn s'

-- the text of record r is a name that can be looked for: the texts have their numbers, and the scope is the tree's
pub record Asked (tree text s : List ℕ) (sc : Scope) (r : ℕ) : Type 0 where
  pub good : Good tree text
  pub numbered : Numbered tree text s
  pub scoped : Scoped tree s sc
  pub below : r < records tree
  pub has_its_text : has_own tree r ≡ true

-- its name is declared by the words of the lowest record with the text
abbrev pub NameDeclared : List ℕ → List ℕ → ℕ → VarId → Bool → Scope → List ℕ → List ℕ → StdOption Scope → Type 0
NameDeclared tree text r v constant sc s s' a =
    DeclareMeets text (original_of tree s r) (original_word tree s r A) (original_word tree s r B) v constant sc s s' a

-- what typing needs: the functions by key, and the scope
pub record Ready (tree text s : List ℕ) (sc : Scope) : Type 0 where
  pub keyed : Keyed tree text s
  pub scoped : Scoped tree s sc

-- the same, in a turn that remembers what it worked out
pub record Typing (tree text s : List ℕ) (sc : Scope) (turn : ℕ) : Type 0 where
  pub ready : Ready tree text s sc
  pub remembers : Remembers tree text (scope_at tree text s sc) turn s
