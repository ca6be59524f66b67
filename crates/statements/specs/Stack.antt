-- The operands of calls whose arguments are being converted: 16 bytes each in the scratch's region `operands`, the innermost call's last.
-- Assumes nothing: these are definitions.
use Rattle.std.specs.Prelude.{ℕ, zero, suc, ◌+◌, ◌*◌, true, false, List, [], ◌∷◌, ◌++◌, eqb, get_or}
use Rattle.std.specs.Int.{w64}
use Rattle.std.proofs.Common.{to_z}
use Rattle.records.specs.Layout.{operands}
use Rattle.records.specs.Words.{word_at, second_word, third_word, fourth_word}
use Rattle.conversion.specs.Ir.{Operand, OVar, OInt, OFloat, OBool, ODataAddress, ONull}
use Rattle.conversion.specs.Written.{word, wide, tag, operand_value}

-- the record of a variable's type, 0 for what is no variable
unfoldable pub var_type : Operand → ℕ
var_type (OVar x) = x.ty
var_type (OInt v short unsigned) = 0
var_type (OFloat i) = 0
var_type (OBool b) = 0
var_type (ODataAddress i) = 0
var_type ONull = 0

-- an entry: tag, a variable's type, and the value as an instruction has it
unfoldable pub operand_bytes : Operand → List ℕ
unfolding word wide tag var_type operand_value
operand_bytes o = word (tag o) ++ word (var_type o) ++ wide (operand_value o)

-- the operand of an entry's four words: 'Tags: 0 none, 1 variable, 2 Int plus 1 short plus 2 unsigned, 6 float, 7 bool, 8 string, 9 null'
unfoldable pub operand_from : ℕ → ℕ → ℕ → ℕ → Operand
operand_from t y low high =
    let v = to_z w64 (low + high * 4294967296) in
    get_or (ONull ∷ OVar (record { id = low; ty = y }) ∷ OInt v false false ∷ OInt v true false ∷ OInt v false true ∷ OInt v true true
    ∷ OFloat low ∷ OBool (eqb low 1) ∷ ODataAddress low ∷ ONull ∷ []) t ONull

-- where entry j stands, with n records
abbrev pub stack_entry_at : ℕ → ℕ → ℕ
stack_entry_at n j = operands.from * n + operands.each * j

-- the operand of entry j
unfoldable pub operand_at : List ℕ → ℕ → ℕ → Operand
unfolding operand_from word_at
operand_at s n j = operand_from (word_at s (stack_entry_at n j)) (word_at s (stack_entry_at n j + second_word)) (word_at s (stack_entry_at n j + third_word)) (word_at s (stack_entry_at n j + fourth_word))

-- the operands of `count` entries from entry j on
unfoldable pub stack_at : List ℕ → ℕ → ℕ → ℕ → List Operand
unfolding operand_at
stack_at s n j zero = []
stack_at s n j (suc count) = operand_at s n j ∷ stack_at s n (suc j) count
