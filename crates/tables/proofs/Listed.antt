-- A body that names a float, a string or a label past its table is not read; one that names the last of the table is.
-- By computing: each program is written as its tables and read back. Assumes nothing.
use mathlib.Core.Path.{◌≡◌, refl}
use mathlib.Core.Bool.{Bool, true, false}
use mathlib.Core.List.{List, [], ◌∷◌}
use mathlib.Core.Option.{Option, none as nothing, some}
use Rattle.conversion.specs.Ir.{OFloat, OBool, ODataAddress, Instr, Label, Jump, JumpIfNot, Return, loop_start, IrProgram}
use Rattle.conversion.specs.Written.{tables_of, counts_of, encode_functions, encode_all, encode_instr, encode_fields, fields_of, encode_var, encode_label, encode_string, encode_float, all_code, all_vars, all_labels, code_of, body_mark, word, wide, bytes_of, bool_number, tag, operand_value, tag_of, operand_word, destination}
use Rattle.tables.specs.Read.{ReadBody, body_at}

-- one function with this code and one label; one string, of no bytes, and one float
program : List Instr → IrProgram
program c = record {
  funcs = record { func = 20; body = some c; vars = []; labels = loop_start 13 ∷ [] } ∷ [];
  strings = record { offset = 0; len = 0; text = [] } ∷ [];
  floats = record { bits = 0; short = false } ∷ [];
}

is_read : Option ReadBody → Bool
is_read nothing = false
is_read (some b) = true

reads : List Instr → Bool
unfolding program is_read body_at tables_of counts_of encode_functions encode_all encode_instr encode_fields fields_of encode_var encode_label encode_string encode_float all_code all_vars all_labels code_of body_mark word wide bytes_of bool_number tag operand_value tag_of operand_word destination
reads c = is_read (body_at (counts_of (program c)) (tables_of (program c)) [] 0)

pub said : List Bool
unfolding reads
said =
    reads (Return (OFloat 0) ∷ []) ∷ reads (Return (OFloat 1) ∷ [])
    ∷ reads (Return (ODataAddress 0) ∷ []) ∷ reads (Return (ODataAddress 1) ∷ [])
    ∷ reads (Label 0 ∷ []) ∷ reads (Label 1 ∷ [])
    ∷ reads (Jump 0 ∷ []) ∷ reads (Jump 1 ∷ [])
    ∷ reads (JumpIfNot (OBool true) 0 ∷ []) ∷ reads (JumpIfNot (OBool true) 1 ∷ [])
    ∷ []

-- the first of each pair lies in its table, the second is the number past it
pub past_the_table : said ≡ true ∷ false ∷ true ∷ false ∷ true ∷ false ∷ true ∷ false ∷ true ∷ false ∷ []
unfolding said
past_the_table = refl
