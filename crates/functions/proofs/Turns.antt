-- The turns of `get_all_functions` and of the search for `main`, one after the other: what was asked equals what is left.
-- By the functions of the tree one after the other. Assumes nothing.
use mathlib.Core.Path.{◌≡◌, ap, ◌∙◌}
use mathlib.Core.Bool.{Bool, true, false}
use mathlib.Core.List.{List, [], ◌∷◌}
use mathlib.Core.Option.{none as nothing, some}
use Prim.Native.Nat.{ℕ, ◌+◌, ◌≤◌, ◌<◌}
use lib.ListN.{length}
use Rattle.syntax.specs.Syntax.{Function}
use Rattle.syntax.specs.Decode.{program}
use Rattle.conversion.specs.ConvertError.{ConvertErrorKind, ok, err, ◌>>=◌}
use Rattle.conversion.specs.Ir.{same_text}
use Rattle.conversion.specs.Expressions.{main_name}
use Rattle.conversion.specs.Functions.{add_function, get_all_functions, find_main}
use Rattle.keys.specs.Keys.{function_places, keys_below, all_keys}
use Rattle.keys.proofs.KeyLaws.{at, from, from_start, from_one, from_end, keys_none, keys-all}

module _ (tree text : List ℕ) where
  -- what was asked equals what is left from place j on
  abbrev pub Left : ℕ → Type 0
  Left j = get_all_functions (program tree text).functions [] ≡ get_all_functions (from tree text j) (keys_below tree text j)

  pub left_start : Left 0
  left_start = rw (from_start tree text, keys_none tree text)

  pub left-more : (j : ℕ) → j < length (function_places tree) → add_function (at tree text j) (keys_below tree text j) ≡ ok (keys_below tree text (j + 1)) → Left j → Left (j + 1)
  unfolding get_all_functions ◌>>=◌
  left-more j h e w = w ∙ rw (from_one tree text j h, e)

  pub left-stop : (j : ℕ) (k : ConvertErrorKind) (r : ℕ) → j < length (function_places tree) → add_function (at tree text j) (keys_below tree text j) ≡ err k r → Left j
      → get_all_functions (program tree text).functions [] ≡ err k r
  unfolding get_all_functions ◌>>=◌
  left-stop j k r h e w = w ∙ rw (from_one tree text j h, e)

  pub left_end : (j : ℕ) → length (function_places tree) ≤ j → Left j → get_all_functions (program tree text).functions [] ≡ ok (all_keys tree text)
  unfolding get_all_functions
  left_end j h w = w ∙ rw (from_end tree text j h, keys-all tree text j h)

  -- the same of the search for `main`
  abbrev pub MainLeft : ℕ → Type 0
  MainLeft j = find_main (program tree text).functions ≡ find_main (from tree text j)

  main_by : (f : Function) (l : List Function) (b : Bool) → same_text f.name main_name ≡ b
      → find_main (f ∷ l) ≡ elim b [ true ↦ some f | false ↦ find_main l ]
  unfolding find_main
  main_by f l b q = ap (λ (z : Bool). elim z [ true ↦ some f | false ↦ find_main l ]) q

  pub main_start : MainLeft 0
  main_start = rw (from_start tree text)

  pub main_more : (j : ℕ) → j < length (function_places tree) → same_text (at tree text j).name main_name ≡ false → MainLeft j → MainLeft (j + 1)
  main_more j h e w = w ∙ ap find_main (from_one tree text j h) ∙ main_by (at tree text j) (from tree text (j + 1)) false e

  pub main_hit : (j : ℕ) → j < length (function_places tree) → same_text (at tree text j).name main_name ≡ true → MainLeft j
      → find_main (program tree text).functions ≡ some (at tree text j)
  main_hit j h e w = w ∙ ap find_main (from_one tree text j h) ∙ main_by (at tree text j) (from tree text (j + 1)) true e

  pub main_end : (j : ℕ) → length (function_places tree) ≤ j → MainLeft j → find_main (program tree text).functions ≡ nothing
  unfolding find_main
  main_end j h w = w ∙ rw (from_end tree text j h)
