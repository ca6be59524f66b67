-- The kinds that have a text are those whose row gives word A to a text; and one small tree, where texts at different places are the same.
-- The definitions are computed. Assumes nothing.
use mathlib.Core.Path.{◌≡◌, refl}
use mathlib.Core.List.{List, [], ◌∷◌, ◌++◌}
use Prim.Native.Nat.{ℕ}
use mathlib.Core.Bool.{Bool, true, false, beq}
use Rattle.laws.specs.Below.{all_below}
use Rattle.records.specs.declared.shape.Role.{Role}
use Rattle.records.specs.declared.shape.Role.TheVariants.{Unused, Number, Text, Length, Expr, TypeRef, TypeOrNone, Name, Variable, Arguments, Parameters, Body, Item, Rest}
use Rattle.records.specs.Shapes.{row_of}
use Rattle.records.specs.Words.{kind_of, word}
use Rattle.texts.specs.Texts.{has_text, has_own, original, text_number}

is_text : Role → Bool
is_text Text = true
is_text Unused = false
is_text Number = false
is_text Length = false
is_text Expr = false
is_text TypeRef = false
is_text TypeOrNone = false
is_text Name = false
is_text Variable = false
is_text Arguments = false
is_text Parameters = false
is_text Body = false
is_text Item = false
is_text Rest = false

-- kinds 0 to 25; the rows behind them are types of their own forms
by_the_rows : all_below 26 (λ kind. beq (has_text kind) (is_text (row_of kind).a)) ≡ true
unfolding all_below has_text row_of is_text
by_the_rows = refl

-- a record of this kind with words A and B
record_of : ℕ → ℕ → ℕ → List ℕ
unfolding word
record_of kind a b = (kind ∷ 0 ∷ 0 ∷ 0 ∷ []) ++ word a ++ word b ++ word 0 ++ word 0 ++ word 0 ++ word 0 ++ word 0

text : List ℕ
text = 97 ∷ 98 ∷ 97 ∷ 98 ∷ []

-- Name 'b', Int, Str 'ab', Declare 'b' further on, Call 'ab' further on, a variable with no bytes
tree : List ℕ
unfolding record_of
tree = record_of 6 1 1 ++ record_of 2 0 2 ++ record_of 4 0 2 ++ record_of 15 3 1 ++ record_of 11 2 2 ++ record_of 24 4 0

having : has_own tree 0 ∷ has_own tree 1 ∷ has_own tree 2 ∷ has_own tree 3 ∷ has_own tree 4 ∷ has_own tree 5 ∷ [] ≡ true ∷ false ∷ true ∷ true ∷ true ∷ true ∷ []
unfolding has_text tree kind_of
having = refl

numbers : original tree text 0 ∷ original tree text 2 ∷ original tree text 3 ∷ original tree text 4 ∷ original tree text 5 ∷ [] ≡ 0 ∷ 2 ∷ 0 ∷ 2 ∷ 5 ∷ []
unfolding original tree text
numbers = refl

-- 'b', 'ab' and no bytes, and 'a', which no record has
of-texts : text_number tree text (98 ∷ []) ∷ text_number tree text (97 ∷ 98 ∷ []) ∷ text_number tree text [] ∷ text_number tree text (97 ∷ []) ∷ [] ≡ 0 ∷ 2 ∷ 5 ∷ 6 ∷ []
unfolding text_number tree text
of-texts = refl
