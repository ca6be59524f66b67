-- Document 01's marked cases 1 to 10 as one table, case 6 as document 02's point 6 amends it, with that point's other two: what is computed is what they say.
-- By computing: each tree is written out as bytes, decoded and converted. Assumes nothing.
use mathlib.Core.Path.{◌≡◌, refl}
use Prim.Native.Nat.{ℕ, ◌-◌, ◌^◌}
use mathlib.Core.Bool.{Bool, true, false}
use mathlib.Core.List.{List, [], ◌∷◌, ◌++◌}
use mathlib.Core.Option.{none as nothing, some}
use lib.IntN.{ℤ, pos, negsuc}
use Rattle.records.specs.Words.{none}
use Rattle.syntax.specs.Syntax.{Expr, EInt, EBinary, Shl, Div}
use Rattle.conversion.specs.Ir.{VarId, OVar, Copy, Label, Jump, JumpIfNot, Return, Comment, logic_rhs, logic_end, FloatEntry}
use Rattle.conversion.specs.Types.{int_value}
use Rattle.conversion.proofs.Trees.{row, types, Said, body, floats, answers, folds, body_of, floats_of, said_of, convert_tree}

-- a function that returns p `o` q, o an operator on Bools
unfoldable pub logic : ℕ → List ℕ
unfolding types row
logic o = types
    ++ row 24 0 0 1 6 0 0
    ++ row 24 0 1 1 6 0 0
    ++ row 12 0 13 none 0 0 0
    ++ row 12 0 12 14 0 0 0
    ++ row 6 0 0 1 0 0 0
    ++ row 6 0 1 1 0 0 0
    ++ row 10 o 16 17 0 0 0
    ++ row 17 0 18 0 0 0 0
    ++ row 12 0 19 none 0 0 0
    ++ row 6 0 2 3 0 0 0
    ++ row 6 0 2 3 0 0 0
    ++ row 25 4 21 22 15 6 20

-- a function that declares p of type y and gives it a literal, whose record of kind k has the words low and high
assigned : ℕ → ℕ → ℕ → ℕ → List ℕ
unfolding types row
assigned y k low high = types
    ++ row 15 0 0 1 y 0 0
    ++ row k 0 low high 0 0 0
    ++ row 16 0 0 1 13 0 0
    ++ row 12 0 14 none 0 0 0
    ++ row 12 0 12 15 0 0 0
    ++ row 6 0 2 3 0 0 0
    ++ row 6 0 2 3 0 0 0
    ++ row 25 4 17 18 none none 16

-- the same with the literal negated
negated : ℕ → ℕ → ℕ → ℕ → List ℕ
unfolding types row
negated y k low high = types
    ++ row 15 0 0 1 y 0 0
    ++ row k 0 low high 0 0 0
    ++ row 9 0 13 0 0 0 0
    ++ row 16 0 0 1 14 0 0
    ++ row 12 0 15 none 0 0 0
    ++ row 12 0 12 16 0 0 0
    ++ row 6 0 2 3 0 0 0
    ++ row 6 0 2 3 0 0 0
    ++ row 25 4 18 19 none none 17

-- a function with an empty name, not external
nameless : List ℕ
unfolding types row
nameless = types ++ row 6 0 0 0 0 0 0 ++ row 6 0 0 0 0 0 0 ++ row 25 0 12 13 none none none

int : ℤ → Expr
int v = EInt 0 v false false

least : ℤ
least = negsuc (2 ^ 127 - 1)

-- -2^127, as a constant: -1 << 127
least_expr : Expr
unfolding int
least_expr = EBinary 0 Shl (int (negsuc 0)) (int (pos 127))

pub computed : List Said
unfolding body_of floats_of said_of convert_tree logic assigned negated nameless int least_expr int_value
computed =
    body_of (convert_tree (logic 1))
    ∷ body_of (convert_tree (logic 0))
    ∷ said_of (convert_tree (assigned 1 2 2147483647 0))
    ∷ said_of (convert_tree (assigned 1 2 2147483648 0))
    ∷ said_of (convert_tree (negated 1 2 2147483648 0))
    ∷ folds (int_value (EBinary 0 Shl (int (pos 3)) (int (pos 127))))
    ∷ folds (int_value (EBinary 0 Shl (int (pos 1)) (int (pos 127))))
    ∷ folds (int_value least_expr)
    ∷ folds (int_value (EBinary 0 Shl (int (pos 1)) (int (pos 128))))
    ∷ folds (int_value (EBinary 0 Div least_expr (int (negsuc 0))))
    ∷ floats_of (convert_tree (assigned 5 3 0 0x3FE00000))
    ∷ said_of (convert_tree nameless)
    ∷ []

-- a Bool variable
bool : ℕ → VarId
bool i = record { id = i; ty = 6 }

float : ℕ → Bool → FloatEntry
float b s = record { bits = b; short = s }

-- the Return is record 19, the And or Or record 18
pub expected : List Said
unfolding bool float least
expected =
    body (Comment 19 ∷ Copy (bool 2) (OVar (bool 0)) ∷ JumpIfNot (OVar (bool 2)) 1 ∷ Copy (bool 2) (OVar (bool 1)) ∷ Label 1
    ∷ Return (OVar (bool 2)) ∷ []) (logic_rhs 18 ∷ logic_end 18 ∷ [])
    ∷ body (Comment 19 ∷ Copy (bool 2) (OVar (bool 0)) ∷ JumpIfNot (OVar (bool 2)) 0 ∷ Jump 1 ∷ Label 0 ∷ Copy (bool 2) (OVar (bool 1))
    ∷ Label 1 ∷ Return (OVar (bool 2)) ∷ []) (logic_rhs 18 ∷ logic_end 18 ∷ [])
    ∷ answers 0 0
    ∷ answers 16 13
    ∷ answers 0 0
    ∷ folds nothing
    ∷ folds nothing
    ∷ folds (some least)
    ∷ folds nothing
    ∷ folds nothing
    ∷ floats (float 0 true ∷ float 0x3FE0000000000000 false ∷ float 0x3FE0000000000000 true ∷ [])
    ∷ answers 22 14
    ∷ []

pub marked : computed ≡ expected
unfolding computed expected
marked = refl
