-- A call as the code holds it: its verb and its arguments, with their types in scratch. Assumes nothing: these are definitions.
use Rattle.std.specs.Prelude.{◌≡◌, ℕ, ◌+◌, ◌*◌, ◌≤◌, ◌<◌, ◌^◌, Bool, true, length, take}
use Rattle.std.proofs.Math.Option.{Option, none}
use mathlib.Core.List.{List, [], ◌∷◌, ◌++◌}
use Rattle.records.specs.Layout.{scratch_each}
use Rattle.records.specs.Words.{word_of, text_at, records, A, B, C}
use Rattle.records.specs.Good.{Good}
use Rattle.syntax.specs.Syntax.{Text, Param, Function}
use Rattle.syntax.specs.Decode.{program, text_of}
use Rattle.conversion.specs.ConvertError.{Result}
use Rattle.conversion.specs.Ir.{same_text}
use Rattle.conversion.specs.Expressions.{TypedArg, Callee, suffixes, joined, takes_arg, takes_args, takes_both, variadic_mark, filter_option, get_function, mangled_function, variadic_function, find_exact_function, find_functions_by_literals, cast_type, resolve_function, resolve_typed}
use Rattle.expressions.specs.declared.arguments.Call.{Call}
use Rattle.syntax.specs.Places.{ArgsAt, args_at, params_at}
use Rattle.texts.specs.Texts.{has_own, own_text, original}
use Rattle.keys.specs.Keys.{all_keys}
use Rattle.expressions.specs.Slots.{slotted, ArgsTyped}

-- how many bytes some texts have in all
unfoldable pub bytes_in : List Text → ℕ
bytes_in [] = 0
bytes_in (t ∷ l) = length t + bytes_in l

-- o is the number of the text t, which some record has
pub record NumberOf (tree text : List ℕ) (o : ℕ) (t : Text) : Type 0 where
  pub of : ℕ
  pub below : of < records tree
  pub has_its_text : has_own tree of ≡ true
  pub text_is : own_text tree text of ≡ t
  pub number : o ≡ original tree text of

-- the call of record r: its verb's number and place, its first cell, and how many arguments it has
pub record CallAt (tree text : List ℕ) (r : ℕ) (c : Call) : Type 0 where
  pub verb : c.verb ≡ original tree text r
  pub offset : c.offset ≡ word_of tree r A
  pub len : c.len ≡ word_of tree r B
  pub first : c.first ≡ word_of tree r C
  pub count : (s : List ℕ) → c.count ≡ length (slotted tree s (args_at tree text (word_of tree r C)))

module _ (tree text s : List ℕ) where
  -- the arguments from cell w on, each with the type that its slot has
  unfoldable pub typed_at : ℕ → List TypedArg
  unfolding slotted args_at
  typed_at w = slotted tree s (args_at tree text w)

  -- "$" and the key text of each argument's type
  unfoldable pub suffixes_at : ℕ → List Text
  unfolding suffixes typed_at program all_keys
  suffixes_at w = suffixes (program tree text) (all_keys tree text) (typed_at w)

  -- a good tree, and arguments from cell w on whose slots have types
  pub record Argued (w : ℕ) : Type 0 where
    pub good : Good tree text
    pub room : scratch_each * records tree ≤ length s
    pub cells : ArgsAt tree w
    pub typed : ArgsTyped tree s (args_at tree text w)

  -- the call's verb, and the text that its first k arguments make of it
  abbrev pub verb_of : Call → Text
  verb_of c = text_at text c.offset c.len

  unfoldable pub name_of : Call → ℕ → Text
  unfolding joined suffixes_at
  name_of c k = joined (program tree text) (all_keys tree text) (verb_of c) (take k (suffixes_at c.first))

  -- a call of this tree, its verb numbered, its arguments typed and counted
  pub record Called (c : Call) : Type 0 where
    pub argued : Argued c.first
    pub inside : c.offset + c.len ≤ length text
    pub short : c.len < 2 ^ 32
    pub numbered : NumberOf tree text c.verb (verb_of c)
    pub counted : c.count ≡ length (typed_at c.first)

  -- whether the first argument goes into the first parameter
  unfoldable pub TakesFirst : List Param → List TypedArg → Bool → Type 0
  unfolding takes_arg program all_keys
  TakesFirst [] l b = ⊥
  TakesFirst (p ∷ ps) [] b = ⊥
  TakesFirst (p ∷ ps) (a ∷ l) b = b ≡ takes_arg (program tree text) (all_keys tree text) p a

  -- ---- the definitions' functions at a call, its arguments' types in scratch

  abbrev pub takes_args_at : ℕ → ℕ → Bool
  takes_args_at parameters w = takes_args (program tree text) (all_keys tree text) (params_at tree text parameters) (typed_at w)

  abbrev pub takes_call : Call → Function → Bool
  takes_call c f = takes_both (program tree text) (all_keys tree text) f (typed_at c.first)

  -- the first argument goes into the first parameter
  abbrev pub TakesAt : ℕ → ℕ → Bool → Type 0
  TakesAt parameter w r = TakesFirst (params_at tree text parameter) (typed_at w) r

  -- the first k suffixes, one after the other
  abbrev pub suffix_text : ℕ → ℕ → Text
  suffix_text w k = joined (program tree text) (all_keys tree text) [] (take k (suffixes_at w))

  -- they stand in the text from `at` on
  abbrev pub suffixes_stand : ℕ → ℕ → ℕ → Bool
  suffixes_stand w k at = same_text (text_at text at (bytes_in (take k (suffixes_at w)))) (suffix_text w k)

  -- `find_exact_function` and its three steps
  abbrev pub by_name : Call → Option Function
  by_name c = filter_option (takes_call c) (get_function (verb_of c) (all_keys tree text))

  abbrev pub by_full_name : Call → Option Function
  by_full_name c = mangled_function (program tree text) (all_keys tree text) (name_of c c.count)

  -- the verb with the first k suffixes and `$...`
  abbrev pub by_marked : Call → ℕ → Option Function
  by_marked c k = mangled_function (program tree text) (all_keys tree text) (name_of c k ++ variadic_mark)

  abbrev pub by_prefix : Call → Option Function
  by_prefix c = variadic_function (program tree text) (all_keys tree text) (verb_of c) (suffixes_at c.first)

  abbrev pub exactly : Call → Option Function
  exactly c = find_exact_function (program tree text) (all_keys tree text) (verb_of c) (typed_at c.first)

  -- `find_functions_by_literals`
  abbrev pub literal_fits : Call → List Function
  literal_fits c = find_functions_by_literals (program tree text) (all_keys tree text) (verb_of c) (typed_at c.first)

  -- `cast_type`, and `resolve_call` from there and from the typed arguments on
  abbrev pub cast_type_of : Call → ℕ → Result (Option ℕ)
  cast_type_of c r = cast_type (program tree text) (all_keys tree text) (verb_of c) (typed_at c.first) r

  abbrev pub function_for : Call → ℕ → Result Callee
  function_for c r = resolve_function (program tree text) (all_keys tree text) (verb_of c) (typed_at c.first) r none

  abbrev pub resolved_at : ℕ → Result Callee
  resolved_at r = resolve_typed (program tree text) (all_keys tree text) (text_of tree text r A) r (typed_at (word_of tree r C))
