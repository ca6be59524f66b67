-- Where a reader of the Rust goes wrong, as one table: document 01's 'Mistakes that invite' and orders that are easily swapped.
-- By computing: each tree is written out as bytes, decoded and converted. Assumes nothing.
use mathlib.Core.Path.{◌≡◌, refl}
use Prim.Native.Nat.{ℕ}
use mathlib.Core.Bool.{true, false}
use mathlib.Core.List.{List, [], ◌∷◌, ◌++◌}
use lib.IntN.{pos}
use Rattle.records.specs.Words.{none}
use Rattle.syntax.specs.Syntax.{Add}
use Rattle.conversion.specs.Ir.{VarId, OVar, OInt, Copy, Binary, Comment, loop_start, loop_end, loop_check, logic_rhs, logic_end, FloatEntry}
use Rattle.conversion.proofs.Trees.{row, types, Said, body, floats, answers, labelled, body_of, floats_of, said_of, labels_of, convert_tree}

-- p is SizeOf long Int
size_of : List ℕ
unfolding types row
size_of = types ++ row 8 0 0 0 0 0 0 ++ row 16 0 0 1 12 0 0 ++ row 12 0 13 none 0 0 0
    ++ row 6 0 2 3 0 0 0 ++ row 6 0 2 3 0 0 0 ++ row 25 4 15 16 none none 14

-- p, a short Int, becomes 1 + 2
sum : List ℕ
unfolding types row
sum = types ++ row 15 0 0 1 1 0 0 ++ row 2 0 1 0 0 0 0 ++ row 2 0 2 0 0 0 0 ++ row 10 13 13 14 0 0 0 ++ row 16 0 0 1 15 0 0
    ++ row 12 0 16 none 0 0 0 ++ row 12 0 12 17 0 0 0 ++ row 6 0 2 3 0 0 0 ++ row 6 0 2 3 0 0 0 ++ row 25 4 19 20 none none 18

-- p is 0.0, q is -0.0
zeros : List ℕ
unfolding types row
zeros = types ++ row 3 0 0 0 0 0 0 ++ row 16 0 0 1 12 0 0 ++ row 3 0 0 0x80000000 0 0 0 ++ row 16 0 1 1 14 0 0
    ++ row 12 0 15 none 0 0 0 ++ row 12 0 13 16 0 0 0 ++ row 6 0 2 3 0 0 0 ++ row 6 0 2 3 0 0 0 ++ row 25 4 18 19 none none 17

-- while true, return 1; the function returns a long Int
loop : List ℕ
unfolding types row
loop = types ++ row 5 1 0 0 0 0 0 ++ row 2 0 1 0 0 0 0 ++ row 17 0 13 0 0 0 0 ++ row 12 0 14 none 0 0 0 ++ row 20 0 12 15 0 0 0
    ++ row 12 0 16 none 0 0 0 ++ row 6 0 2 3 0 0 0 ++ row 6 0 2 3 0 0 0 ++ row 25 4 18 19 none 0 17

-- p, a Bool, becomes SizeOf of a Custom: the value's own panic comes before the fit
assigns : List ℕ
unfolding types row
assigns = types ++ row 1 8 0 1 0 0 0 ++ row 15 0 0 1 6 0 0 ++ row 8 0 12 0 0 0 0 ++ row 16 0 0 1 14 0 0
    ++ row 12 0 15 none 0 0 0 ++ row 12 0 13 16 0 0 0 ++ row 6 0 2 3 0 0 0 ++ row 6 0 2 3 0 0 0 ++ row 25 4 18 19 none none 17

-- SizeOf of a Custom is returned as a Bool: the fit comes before the value's own panic
returns : List ℕ
unfolding types row
returns = types ++ row 1 8 0 1 0 0 0 ++ row 8 0 12 0 0 0 0 ++ row 17 0 13 0 0 0 0 ++ row 12 0 14 none 0 0 0
    ++ row 6 0 2 3 0 0 0 ++ row 6 0 2 3 0 0 0 ++ row 25 4 16 17 none 6 15

-- while p or q, with no statement in it; p and q are Bool parameters
while : List ℕ
unfolding types row
while = types ++ row 24 0 0 1 6 0 0 ++ row 24 0 1 1 6 0 0 ++ row 12 0 13 none 0 0 0 ++ row 12 0 12 14 0 0 0
    ++ row 6 0 0 1 0 0 0 ++ row 6 0 1 1 0 0 0 ++ row 10 0 16 17 0 0 0 ++ row 20 0 18 none 0 0 0 ++ row 12 0 19 none 0 0 0
    ++ row 6 0 2 3 0 0 0 ++ row 6 0 2 3 0 0 0 ++ row 25 4 21 22 15 none 20

-- for a long Int p from 0 until 1, with no statement in it
for : List ℕ
unfolding types row
for = types ++ row 24 0 0 1 0 0 0 ++ row 2 0 0 0 0 0 0 ++ row 2 0 1 0 0 0 0 ++ row 21 0 12 13 14 none 0 ++ row 12 0 15 none 0 0 0
    ++ row 6 0 2 3 0 0 0 ++ row 6 0 2 3 0 0 0 ++ row 25 4 17 18 none none 16

-- a Break outside a loop, in a function that returns a long Int and has no Return
leaves : List ℕ
unfolding types row
leaves = types ++ row 22 0 0 0 0 0 0 ++ row 12 0 12 none 0 0 0 ++ row 6 0 2 3 0 0 0 ++ row 6 0 2 3 0 0 0 ++ row 25 4 14 15 none 0 13

-- p, a new name, is p
itself : List ℕ
unfolding types row
itself = types ++ row 6 0 0 1 0 0 0 ++ row 16 0 0 1 12 0 0 ++ row 12 0 13 none 0 0 0 ++ row 6 0 2 3 0 0 0 ++ row 6 0 2 3 0 0 0 ++ row 25 4 15 16 none none 14

-- p, a parameter, is declared again as a constant whose value is the unknown q
again : List ℕ
unfolding types row
again = types ++ row 24 0 0 1 6 0 0 ++ row 12 0 12 none 0 0 0 ++ row 6 0 1 1 0 0 0 ++ row 16 1 0 1 14 0 0 ++ row 12 0 15 none 0 0 0
    ++ row 6 0 2 3 0 0 0 ++ row 6 0 2 3 0 0 0 ++ row 25 4 17 18 13 none 16

pub computed : List Said
unfolding body_of floats_of said_of labels_of convert_tree size_of sum zeros loop assigns returns while for leaves itself again
computed =
    body_of (convert_tree size_of)
    ∷ body_of (convert_tree sum)
    ∷ floats_of (convert_tree zeros)
    ∷ said_of (convert_tree loop)
    ∷ said_of (convert_tree assigns)
    ∷ said_of (convert_tree returns)
    ∷ labels_of (convert_tree while)
    ∷ labels_of (convert_tree for)
    ∷ said_of (convert_tree leaves)
    ∷ said_of (convert_tree itself)
    ∷ said_of (convert_tree again)
    ∷ []

var : ℕ → ℕ → VarId
var i y = record { id = i; ty = y }

float : ℕ → FloatEntry
float b = record { bits = b; short = false }

pub expected : List Said
unfolding var float
expected =
    -- SizeOf's type is unsigned, its operand is not
    body (Comment 13 ∷ Copy (var 0 2) (OInt (pos 8) false false) ∷ []) []
    -- no Cast between integers
    ∷ body (Comment 12 ∷ Copy (var 0 1) (OInt (pos 0) true false) ∷ Comment 16
    ∷ Binary (var 1 0) Add (OInt (pos 1) false false) (OInt (pos 2) false false) ∷ Copy (var 0 1) (OVar (var 1 0)) ∷ []) []
    ∷ floats (float 0 ∷ float 0x8000000000000000 ∷ [])
    -- MissingReturn: a loop may run zero times
    ∷ answers 9 20
    ∷ answers 27 14
    ∷ answers 12 14
    ∷ labelled (loop_start 19 ∷ logic_rhs 18 ∷ logic_end 18 ∷ loop_end 19 ∷ [])
    ∷ labelled (loop_check 15 ∷ loop_start 15 ∷ loop_end 15 ∷ [])
    -- MissingReturn follows the body's own errors
    ∷ answers 20 12
    -- a name is not known in its own value
    ∷ answers 4 12
    -- a constant's name is held against the known ones after its value
    ∷ answers 4 14
    ∷ []

pub mistakes : computed ≡ expected
unfolding computed expected
mistakes = refl
