-- Trees written out as bytes, and what can be said of their conversion: the means of the computed tables.
-- Definitions for proofs, which compute. Assumes nothing.
use Prim.Native.Nat.{ℕ}
use mathlib.Core.Bool.{false}
use mathlib.Core.List.{List, [], ◌∷◌, ◌++◌}
use mathlib.Core.Option.{Option}
use lib.IntN.{ℤ}
use Rattle.syntax.specs.Decode.{program}
use Rattle.conversion.specs.ConvertError.{Result, ok, err, number}
use Rattle.conversion.specs.Ir.{Instr, LabelName, FloatEntry, IrProgram}
use Rattle.conversion.specs.Converter.{convert}
use Rattle.conversion.specs.Written.{word, all_code, all_labels}

-- ---- trees: a record from its kind, its detail and its words A to E; the span is zero

unfoldable pub row : ℕ → ℕ → ℕ → ℕ → ℕ → ℕ → ℕ → List ℕ
unfolding word
row k d a b c e f = k ∷ d ∷ 0 ∷ 0 ∷ (word a ++ word b ++ word c ++ word e ++ word f ++ word 0 ++ word 0)

unfoldable pub type : ℕ → ℕ → List ℕ
unfolding row
type d a = row 1 d a 0 0 0 0

-- the twelve first types, records 0 to 11
unfoldable pub types : List ℕ
unfolding type
types = type 1 0 ++ type 17 0 ++ type 33 0 ++ type 49 0 ++ type 2 0 ++ type 18 0 ++ type 3 0 ++ type 4 0 ++ type 5 0 ++ type 9 0 ++ type 6 7 ++ type 6 9

-- the names p, q and one that is not ASCII
unfoldable pub text : List ℕ
text = 112 ∷ 113 ∷ 0xEA ∷ 0xB0 ∷ 0x80 ∷ []

-- ---- what is said of a case

pub data Said : Type 0 where
  -- a body and its labels
  body : List Instr → List LabelName → Said
  floats : List FloatEntry → Said
  labelled : List LabelName → Said
  -- 0 and 0 where it converts, else number and place of the refusal
  answers : ℕ → ℕ → Said
  -- what an integer constant folds to
  folds : Option ℤ → Said

unfoldable pub body_of : Result IrProgram → Said
unfolding all_code all_labels
body_of (ok p) = body (all_code p.funcs) (all_labels p.funcs)
body_of (err k r) = answers (number k) r

unfoldable pub floats_of : Result IrProgram → Said
floats_of (ok p) = floats p.floats
floats_of (err k r) = answers (number k) r

unfoldable pub labels_of : Result IrProgram → Said
unfolding all_labels
labels_of (ok p) = labelled (all_labels p.funcs)
labels_of (err k r) = answers (number k) r

unfoldable pub said_of : Result IrProgram → Said
said_of (ok p) = answers 0 0
said_of (err k r) = answers (number k) r

unfoldable pub convert_tree : List ℕ → Result IrProgram
unfolding convert program text
convert_tree tree = convert (program tree text) false
