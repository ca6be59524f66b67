-- Constant shifts given to a variable, as one table: which are taken, which are out of range (16) and which are no constants for its type (13), since bits are lost.
-- By computing: each tree is written out as bytes, decoded and converted. Assumes nothing.
use mathlib.Core.Path.{◌≡◌, refl}
use Prim.Native.Nat.{ℕ}
use mathlib.Core.List.{List, [], ◌∷◌, ◌++◌}
use Rattle.records.specs.Words.{none}
use Rattle.conversion.proofs.Trees.{row, types, Said, answers, said_of, convert_tree}

-- a function that declares p of type y and gives it v << c, v of the words low and high
unfoldable pub shifted : ℕ → ℕ → ℕ → ℕ → List ℕ
unfolding types row
shifted y low high c = types
    ++ row 15 0 0 1 y 0 0
    ++ row 2 0 low high 0 0 0
    ++ row 2 0 c 0 0 0 0
    ++ row 10 11 13 14 0 0 0
    ++ row 16 0 0 1 15 0 0
    ++ row 12 0 16 none 0 0 0
    ++ row 12 0 12 17 0 0 0
    ++ row 6 0 2 3 0 0 0
    ++ row 6 0 2 3 0 0 0
    ++ row 25 4 19 20 none none 18

-- the same with (v << c) `o` w, o an operator
unfoldable pub shifted_then : ℕ → ℕ → ℕ → ℕ → ℕ → ℕ → ℕ → List ℕ
unfolding types row
shifted_then y low high c o low₂ high₂ = types
    ++ row 15 0 0 1 y 0 0
    ++ row 2 0 low high 0 0 0
    ++ row 2 0 c 0 0 0 0
    ++ row 10 11 13 14 0 0 0
    ++ row 2 0 low₂ high₂ 0 0 0
    ++ row 10 o 15 16 0 0 0
    ++ row 16 0 0 1 17 0 0
    ++ row 12 0 18 none 0 0 0
    ++ row 12 0 12 19 0 0 0
    ++ row 6 0 2 3 0 0 0
    ++ row 6 0 2 3 0 0 0
    ++ row 25 4 21 22 none none 20

-- a short Int gets 3 << 127, 1 << 127, -1 << 127, 0 << 127, 1 << 30, 1 << 31, (1 << 126) << 2, (1 << 127) >> 127, (-1 << 127) / -1; a long Int gets 3 << 127
pub computed : List Said
unfolding said_of convert_tree shifted shifted_then
computed =
    said_of (convert_tree (shifted 1 3 0 127))
    ∷ said_of (convert_tree (shifted 1 1 0 127))
    ∷ said_of (convert_tree (shifted 1 none none 127))
    ∷ said_of (convert_tree (shifted 1 0 0 127))
    ∷ said_of (convert_tree (shifted 1 1 0 30))
    ∷ said_of (convert_tree (shifted 1 1 0 31))
    ∷ said_of (convert_tree (shifted_then 1 1 0 126 11 2 0))
    ∷ said_of (convert_tree (shifted_then 1 1 0 127 12 127 0))
    ∷ said_of (convert_tree (shifted_then 1 none none 127 16 none none))
    ∷ said_of (convert_tree (shifted 0 3 0 127))
    ∷ []

pub expected : List Said
expected =
    answers 13 16
    ∷ answers 13 16
    ∷ answers 16 15
    ∷ answers 0 0
    ∷ answers 0 0
    ∷ answers 16 15
    ∷ answers 13 18
    ∷ answers 13 18
    ∷ answers 13 18
    ∷ answers 0 0
    ∷ []

pub shifts_given : computed ≡ expected
unfolding computed expected
shifts_given = refl
