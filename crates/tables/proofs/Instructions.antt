-- An instruction's 32 bytes read back as the instruction, for one whose names exist and whose numbers fit.
-- In two halves: the bytes give back the fields, and the fields of an instruction give back the instruction, by cases. Assumes nothing.
use mathlib.Core.Path.{◌≡◌, refl, ◌∙◌}
use Prim.Native.Nat.{ℕ, zero, suc, ◌^◌, ◌<◌}
use mathlib.Core.Bool.{Bool, true, false}
use mathlib.Core.List.{List, [], ◌∷◌, ◌++◌}
use mathlib.Core.Option.{Option, none as nothing, some}
use native.Mathlib.Omega.{arith}
use lib.Dec.{eqb}
use lib.IntN.{ℤ}
use lib.ListN.{length, get_elem?}
use borrow.Author.Tests.{ne_eqb}
use mir.Syntax.{w64}
use mir.Val.{SFits, of_z}
use mir.Facts.{Fits-of_z, to_z-of_z}
use Rattle.laws.specs.Fix.{pick}
use Rattle.laws.proofs.FixLaws.{pick_no}
use Rattle.records.specs.Words.{byte_at, word_at, none}
use Rattle.syntax.specs.Syntax.{UnaryOp, Neg, BitNot, Not, BinaryOp, Or, And, BitOr, BitXor, BitAnd, Eq, NotEq, Lt, Le, Gt, Ge, Shl, Shr, Add, Sub, Mul, Div, Rem, unary_ops, binary_ops, unary_number, binary_number}
use Rattle.conversion.specs.Ir.{VarId, Operand, OVar, OInt, OFloat, OBool, ODataAddress, ONull, Instr, Copy, Unary, Binary, Cast, Zero, Arg, Call, Label, Jump, JumpIfNot, Return, Comment, State}
use Rattle.conversion.specs.Written.{bytes_of, word, wide, bool_number, tag, operand_value, Fields, tag_of, operand_word, destination, fields_of, encode_fields, encode_instr}
use Rattle.tables.specs.Read.{◌>>=◌, read_zeros, wide_at, mark_of, read_var, no_operand, var_operand, int_operand, float_operand, bool_operand, string_operand, null_operand, read_operand, fields_at, read_copy, read_unary, read_binary, read_cast, read_zero, read_arg, read_destination, read_call, read_label, read_jump, read_jump_if_not, read_return, read_comment, read_instr, instr_in}
use Rattle.tables.proofs.Exists.{Word, VarIn, OperandIn, DestinationIn, InstrIn}
use Rattle.tables.proofs.Numbers.{word_back, wide_back}

-- the numbers of variables, labels, strings and floats are words
pub record Small (s : State) : Type 0 where
  pub vars : Word (length s.vars)
  pub labels : Word (length s.labels)
  pub strings : Word (length s.strings)
  pub floats : Word (length s.floats)

-- an element that is found is below the length
pub found_below : {X : Type 0} (l : List X) (n : ℕ) (x : X) → get_elem? l n ≡ some x → n < length l
found_below [] n x e = let z : ◌≡◌ {A = ℕ} 0 1 = cc in absurd (omega arith)
found_below (a ∷ l) zero x e = omega arith
found_below (a ∷ l) (suc n) x e = omega (arith, found_below l n x e)

unary_back : (u : UnaryOp) → get_elem? unary_ops (unary_number u) ≡ some u
unary_back Neg = refl
unary_back BitNot = refl
unary_back Not = refl

binary_back : (b : BinaryOp) → get_elem? binary_ops (binary_number b) ≡ some b
binary_back Or = refl
binary_back And = refl
binary_back BitOr = refl
binary_back BitXor = refl
binary_back BitAnd = refl
binary_back Eq = refl
binary_back NotEq = refl
binary_back Lt = refl
binary_back Le = refl
binary_back Gt = refl
binary_back Ge = refl
binary_back Shl = refl
binary_back Shr = refl
binary_back Add = refl
binary_back Sub = refl
binary_back Mul = refl
binary_back Div = refl
binary_back Rem = refl

pub mark_back : (b : Bool) → mark_of (bool_number b) ≡ some b
unfolding mark_of bool_number
mark_back true = refl
mark_back false = refl

module _ (s : State) (m : Small s) where
  var_below : (x : VarId) → VarIn s x → x.id < length s.vars
  var_below x h = found_below s.vars x.id x.ty h.typed

  variable_back : (x : VarId) → VarIn s x → read_var s.vars x.id ≡ some x
  unfolding read_var ◌>>=◌
  variable_back x h = rw h.typed

  -- ---- operands

  int_back : (v : ℤ) (short unsigned : Bool) → SFits w64 v
      → read_operand s.vars (tag (OInt v short unsigned)) (of_z w64 v) ≡ some (some (OInt v short unsigned))
  unfolding read_operand int_operand tag bool_number
  int_back v true true h = rw (to_z-of_z h)
  int_back v true false h = rw (to_z-of_z h)
  int_back v false true h = rw (to_z-of_z h)
  int_back v false false h = rw (to_z-of_z h)

  operand_back : (o : Operand) → OperandIn s o → read_operand s.vars (tag o) (operand_value o) ≡ some (some o)
  unfolding read_operand tag operand_value var_operand float_operand bool_operand string_operand null_operand pick ◌>>=◌
  operand_back (OVar x) h = rw (variable_back x h)
  operand_back (OInt v short unsigned) h = int_back v short unsigned h
  operand_back (OFloat i) h = refl
  operand_back (OBool b) h = rw (mark_back b)
  operand_back (ODataAddress i) h = refl
  operand_back ONull h = refl

  bool_small : (b : Bool) → bool_number b < 2
  unfolding bool_number
  bool_small true = omega arith
  bool_small false = omega arith

  operand-fits : (o : Operand) → OperandIn s o → operand_value o < 2 ^ 64
  unfolding operand_value
  operand-fits (OVar x) h = omega (arith, var_below x h, m.vars)
  operand-fits (OInt v short unsigned) h = (Fits-of_z h).fits
  operand-fits (OFloat i) h = omega (arith, m.floats)
  operand-fits (OBool b) h = omega (arith, bool_small b)
  operand-fits (ODataAddress i) h = omega (arith, m.strings)
  operand-fits ONull h = omega arith

  -- ---- fields

  abbrev MaybeIn : Option Operand → Type 0
  MaybeIn nothing = Unit {0}
  MaybeIn (some o) = OperandIn s o

  maybe_back : (o : Option Operand) → MaybeIn o → read_operand s.vars (tag_of o) (operand_word o) ≡ some o
  unfolding read_operand tag_of operand_word no_operand pick
  maybe_back nothing h = refl
  maybe_back (some o) h = operand_back o h

  maybe_fits : (o : Option Operand) → MaybeIn o → operand_word o < 2 ^ 64
  unfolding operand_word
  maybe_fits nothing h = omega arith
  maybe_fits (some o) h = operand-fits o h

  -- what the fields of an instruction hold
  record FieldsIn (f : Fields) : Type 0 where
    first : MaybeIn f.first
    second : MaybeIn f.second
    target : Word f.target
    record_word : Word f.record_word

  fields_back : (f : Fields) (rest : List ℕ) → FieldsIn f → fields_at s.vars (encode_fields f ++ rest) ≡ some f
  unfolding fields_at encode_fields wide_at word_at byte_at word wide bytes_of read_zeros pick ◌>>=◌
  fields_back f rest h =
      rw (
        wide_back (operand_word f.first) [] (maybe_fits f.first h.first),
        maybe_back f.first h.first,
        wide_back (operand_word f.second) [] (maybe_fits f.second h.second),
        maybe_back f.second h.second,
        word_back f.target [] h.target,
        word_back f.record_word [] h.record_word,
      )

  -- ---- instructions

  var_word : (x : VarId) → VarIn s x → Word x.id
  var_word x h = omega (arith, var_below x h, m.vars)

  destination-word : (x : Option VarId) → DestinationIn s x → Word (destination x)
  unfolding destination
  destination-word nothing h = omega arith
  destination-word (some x) h = var_word x h

  fields_in : (i : Instr) → InstrIn s i → FieldsIn (fields_of i)
  unfolding fields_of
  fields_in (Copy x o) h = record { first = h.1; second = tt; target = var_word x h.0; record_word = omega arith }
  fields_in (Unary x u o) h = record { first = h.1; second = tt; target = var_word x h.0; record_word = omega arith }
  fields_in (Binary x b o p) h = record { first = h.1; second = h.2; target = var_word x h.0; record_word = omega arith }
  fields_in (Cast x o) h = record { first = h.1; second = tt; target = var_word x h.0; record_word = omega arith }
  fields_in (Zero x) h = record { first = tt; second = tt; target = var_word x h; record_word = omega arith }
  fields_in (Arg o) h = record { first = h; second = tt; target = omega arith; record_word = omega arith }
  fields_in (Call x f) h = record { first = tt; second = tt; target = destination-word x h.0; record_word = h.1 }
  fields_in (Label l) h = record { first = tt; second = tt; target = omega (arith, m.labels); record_word = omega arith }
  fields_in (Jump l) h = record { first = tt; second = tt; target = omega (arith, m.labels); record_word = omega arith }
  fields_in (JumpIfNot o l) h = record { first = h.0; second = tt; target = omega (arith, m.labels, h.1); record_word = omega arith }
  fields_in (Return o) h = record { first = h; second = tt; target = omega arith; record_word = omega arith }
  fields_in (Comment r) h = record { first = tt; second = tt; target = omega arith; record_word = h }

  destination_back : (x : Option VarId) → DestinationIn s x → read_destination s.vars (destination x) ≡ some x
  unfolding read_destination destination pick ◌>>=◌
  destination_back nothing h = refl
  destination_back (some x) h =
      pick_no (eqb x.id none) _ _ (ne_eqb x.id none (λ e. omega (arith, var_below x h, m.vars))) ∙ rw (variable_back x h)

  instr_of_back : (i : Instr) → InstrIn s i → read_instr s.vars (fields_of i) ≡ some i
  unfolding read_instr fields_of read_copy read_unary read_binary read_cast read_zero read_arg read_call read_label read_jump read_jump_if_not read_return read_comment read_zeros pick tag_of ◌>>=◌
  instr_of_back (Copy x o) h = rw (variable_back x h.0)
  instr_of_back (Unary x u o) h = rw (variable_back x h.0, unary_back u)
  instr_of_back (Binary x b o p) h = rw (variable_back x h.0, binary_back b)
  instr_of_back (Cast x o) h = rw (variable_back x h.0)
  instr_of_back (Zero x) h = rw (variable_back x h)
  instr_of_back (Arg o) h = refl
  instr_of_back (Call x f) h = rw (destination_back x h.0)
  instr_of_back (Label l) h = refl
  instr_of_back (Jump l) h = refl
  instr_of_back (JumpIfNot o l) h = refl
  instr_of_back (Return o) h = refl
  instr_of_back (Comment r) h = refl

  pub instr_back : (i : Instr) (rest : List ℕ) → InstrIn s i → instr_in s.vars (encode_instr i ++ rest) ≡ some i
  unfolding instr_in encode_instr ◌>>=◌
  instr_back i rest h = rw (fields_back (fields_of i) rest (fields_in i h), instr_of_back i h)
