-- What both runs cite, so that a fault there would show in neither: each definition at the cases that tell it from its likes.
-- By computing; the records of types are held against the twelve first types as bytes. Assumes nothing.
use mathlib.Core.Path.{◌≡◌, refl}
use Prim.Native.Nat.{ℕ}
use mathlib.Core.Bool.{true, false}
use mathlib.Core.List.{List, [], ◌∷◌}
use mathlib.Core.Option.{some}
use lib.IntN.{pos}
use Rattle.syntax.specs.Syntax.{Ty, TInt, TFloat, TBool, TChar, TByte, TAddress, TArray, TNull, EInt, EBool, ECall, no_args, Value, ToType, bool_type, null_type, address_of_char, address_of_null}
use Rattle.syntax.specs.Decode as Decode
use Rattle.conversion.specs.Statements.{expected_type, as_call}
use Rattle.conversion.specs.Types.{on_int, on_float, is_float}
use Rattle.conversion.proofs.Trees.{row, type, types, text}
use Rattle.conversion.proofs.Bodies as Bodies
use Rattle.conversion.proofs.Bodies.{program}
use Rattle.runs.specs.Rule.{gives, IntContent, FloatContent, BoolContent, StringContent, NullContent, comes, asked, Literal, IntLiteral, FloatLiteral, BoolLiteral, StringLiteral, NullLiteral, content, literal_type, constant, computed, read, read_all}
use Rattle.runs.specs.TreeRun.{value, fit_literal, fit_computed, fit, answered, zero_of}
use Rattle.runs.proofs.Alike.{traced, shown}

-- ---- records of types: 'Both runs read a literal at its tag's or mark's type, null or a string at that of the unfitted expression'

-- the type at a record of a tree that has the twelve first types alone
unfoldable pub pinned_type : ℕ → Ty
unfolding row type types text Decode.program
pinned_type t = (Decode.program types text).type_of t

pub literals : List Literal
literals = IntLiteral (pos 1) false false ∷ IntLiteral (pos 1) true false ∷ IntLiteral (pos 1) false true ∷ IntLiteral (pos 1) true true
    ∷ FloatLiteral 2 false ∷ FloatLiteral 2 true ∷ BoolLiteral true ∷ StringLiteral (112 ∷ []) ∷ NullLiteral ∷ []

pub each : {X Y : Type 0} → (X → Y) → List X → List Y
each f [] = []
each f (a ∷ l) = f a ∷ each f l

pub literal-types : each (λ l. pinned_type (literal_type l)) literals
    ≡ TInt false false ∷ TInt true false ∷ TInt false true ∷ TInt true true ∷ TFloat false ∷ TFloat true ∷ TBool ∷ TAddress 7 ∷ TNull ∷ []
unfolding each literals literal_type pinned_type
literal-types = refl

-- Address of Char, of Null, and Bool
pub type-records : each pinned_type (address_of_char ∷ address_of_null ∷ 7 ∷ null_type ∷ bool_type ∷ []) ≡ TAddress 7 ∷ TAddress 9 ∷ TChar ∷ TNull ∷ TBool ∷ []
unfolding each pinned_type
type-records = refl

-- ---- literals and values as they are read

pub contents : each content literals ≡ IntContent (pos 1) ∷ IntContent (pos 1) ∷ IntContent (pos 1) ∷ IntContent (pos 1)
    ∷ FloatContent 2 ∷ FloatContent 2 ∷ BoolContent true ∷ StringContent (112 ∷ []) ∷ NullContent ∷ []
unfolding each literals content
contents = refl

pub reads : read_all traced (constant (IntLiteral (pos 1) true false) ∷ constant NullLiteral ∷ computed 4 (8 ∷ []) ∷ [])
    ≡ (1, 0 ∷ 1 ∷ 1 ∷ []) ∷ (9, 0 ∷ 9 ∷ []) ∷ (4, 8 ∷ []) ∷ []
unfolding read_all read literal_type content traced shown
reads = refl

-- the rule's answer, and one call
pub asks : asked traced ((7, []) ∷ []) 50 (some 3) ((0, []) ∷ []) ≡ (comes (gives (6 ∷ 50 ∷ [])), (50, (0, []) ∷ []) ∷ [])
unfolding asked traced
asks = refl

-- ---- fitting

-- an Int literal takes tags of an Int alone, a float literal the mark of a Float alone
pub fits : fit_literal (TInt true false) (IntLiteral (pos 1) false false) ∷ fit_literal (TInt false true) (IntLiteral (pos 1) true false) ∷ fit_literal (TFloat true) (IntLiteral (pos 1) false true)
    ∷ fit_literal (TFloat true) (FloatLiteral 2 false) ∷ fit_literal TNull (FloatLiteral 2 true) ∷ fit_literal (TInt true true) (BoolLiteral true) ∷ []
    ≡ IntLiteral (pos 1) true false ∷ IntLiteral (pos 1) false true ∷ IntLiteral (pos 1) false true ∷ FloatLiteral 2 true ∷ FloatLiteral 2 true ∷ BoolLiteral true ∷ []
unfolding fit_literal on_int on_float
fits = refl

-- a Float of another width is cast; one of this width, and an Int, are kept
pub fits_values : fit program traced 4 (computed 5 (8 ∷ [])) [] ∷ fit program traced 4 (computed 4 (8 ∷ [])) [] ∷ fit program traced 1 (computed 0 (8 ∷ [])) [] ∷ []
    ≡ value (computed 4 (5 ∷ 4 ∷ 5 ∷ 8 ∷ [])) [] ∷ value (computed 4 (8 ∷ [])) [] ∷ value (computed 0 (8 ∷ [])) [] ∷ []
unfolding fit fit_computed answered is_float on_float traced program Bodies.sample_type
fits_values = refl

-- a value goes to the type of the parameter at its position, one behind the parameters to Float: the first, second and third value of
-- (value, type, value, value), then the first of (type, value), (value, type) and (value, value)
pub expected_types : each (expected_type (Bodies.several (1 ∷ 6 ∷ 5 ∷ [])) (Value 30 (EBool 31 true) (ToType 32 0 (Value 33 (EBool 34 true) (Value 35 (EBool 36 true) no_args))))) (0 ∷ 1 ∷ 2 ∷ [])
    ≡ 1 ∷ 5 ∷ 4 ∷ []
unfolding each expected_type Bodies.several
expected_types = refl

pub first-types : each (λ l. expected_type (Bodies.several (1 ∷ 6 ∷ [])) l 0) (ToType 32 0 (Value 33 (EBool 34 true) no_args)
    ∷ Value 33 (EBool 34 true) (ToType 32 0 no_args) ∷ Value 30 (EBool 31 true) (Value 33 (EBool 34 true) no_args) ∷ [])
    ≡ 6 ∷ 1 ∷ 1 ∷ []
unfolding each expected_type Bodies.several
first-types = refl

-- ---- statements

-- the zero value of each type: a literal that is copied, or Zero
pub zeros : each (zero_of program traced 3) (TInt true false ∷ TFloat true ∷ TBool ∷ TChar ∷ TByte ∷ TAddress 7 ∷ TNull ∷ TArray 0 2 ∷ [])
    ≡ gives (1 ∷ 3 ∷ 1 ∷ 0 ∷ 1 ∷ 0 ∷ []) ∷ gives (1 ∷ 3 ∷ 5 ∷ 0 ∷ 5 ∷ 0 ∷ []) ∷ gives (1 ∷ 3 ∷ 6 ∷ 0 ∷ 6 ∷ 0 ∷ []) ∷ gives (1 ∷ 3 ∷ 6 ∷ 0 ∷ 6 ∷ 0 ∷ [])
    ∷ gives (1 ∷ 3 ∷ 6 ∷ 0 ∷ 6 ∷ 0 ∷ []) ∷ gives (1 ∷ 3 ∷ 9 ∷ 0 ∷ 9 ∷ []) ∷ gives (1 ∷ 3 ∷ 9 ∷ 0 ∷ 9 ∷ []) ∷ gives (2 ∷ 3 ∷ []) ∷ []
unfolding each zero_of read literal_type content traced shown
zeros = refl

-- a call statement is one whose expression is a call
pub calls : as_call (ECall 5 (97 ∷ []) no_args) 0 (λ r verb l. r) ∷ as_call (EInt 5 (pos 1) false false) 0 (λ r verb l. r) ∷ [] ≡ 5 ∷ 0 ∷ []
unfolding as_call
calls = refl
