-- What the code's variables and operands stand for, and an instruction's 32 bytes from the code's fields. Assumes nothing: these are definitions.
use Rattle.std.specs.Prelude.{ℕ, List, [], ◌∷◌, ◌++◌}
use Rattle.std.proofs.Math.Option.{none, some}
use Rattle.std.specs.Int.{w64}
use Rattle.std.proofs.Common.{to_z}
use Rattle.conversion.specs.Ir as Ir
use Rattle.conversion.specs.Ir.{OVar, OInt, OFloat, OBool, ODataAddress, ONull}
use Rattle.conversion.specs.Written.{word, wide, encode_fields, binary_kind}
use Rattle.ir.specs.declared.structs.VarId.{VarId}
use Rattle.ir.specs.declared.structs.Operand.{Operand}
use Rattle.ir.specs.declared.structs.Operand.TheVariants.{Var as var, Int as int, Float as float, Bool as bool, DataAddress as dataAddress, Null as null}
use Rattle.ir.specs.declared.structs.InstructionKind.{InstructionKind}
use Rattle.ir.specs.declared.structs.Tag.{Tag}
use Rattle.ir.specs.declared.structs.Fields.{Fields}

-- a variable's number and its type's record
abbrev pub var_of : VarId → Ir.VarId
var_of v = record { id = v.0; ty = v.1 }

-- an Int's 64 bits are a signed number, as the Rust's i64
abbrev pub operand_of : Operand → Ir.Operand
operand_of (var v) = OVar (var_of v)
operand_of (int b short unsigned) = OInt (to_z w64 b) short unsigned
operand_of (float i) = OFloat i
operand_of (bool b) = OBool b
operand_of (dataAddress i) = ODataAddress i
operand_of null = ONull

-- the kinds of instructions and the tags of operands, the code's by the definition's numbers
abbrev pub kind_number : InstructionKind → ℕ
kind_number InstructionKind.Copy = 1
kind_number InstructionKind.Unary = 2
kind_number InstructionKind.Binary = 3
kind_number InstructionKind.Cast = 4
kind_number InstructionKind.Zero = 5
kind_number InstructionKind.Arg = 6
kind_number InstructionKind.Call = 7
kind_number InstructionKind.Label = 8
kind_number InstructionKind.Jump = 9
kind_number InstructionKind.JumpIfNot = 10
kind_number InstructionKind.Return = 11
kind_number InstructionKind.Comment = 12

abbrev pub tag_number : Tag → ℕ
tag_number Tag.Nothing = 0
tag_number Tag.Variable = 1
tag_number Tag.Int = 2
tag_number Tag.IntShort = 3
tag_number Tag.Unsigned = 4
tag_number Tag.UnsignedShort = 5
tag_number Tag.Float = 6
tag_number Tag.Bool = 7
tag_number Tag.String = 8
tag_number Tag.Null = 9

-- 'byte 0 kind .., byte 1 operator, bytes 2 and 3 operand tags, word 4 destination or label, operands of 8 bytes at 8 and 16, word 24
-- function or statement record, word 28 zero'
unfoldable pub field_bytes : Fields → List ℕ
unfolding word wide
field_bytes f = (kind_number f.kind ∷ f.operator ∷ tag_number f.first.tag ∷ tag_number f.second.tag ∷ [])
    ++ word f.target ++ wide f.first.value ++ wide f.second.value ++ word f.owner ++ word 0

-- an instruction with no operand, one, and two (a Binary), as it is written
unfoldable pub none_bytes : ℕ → ℕ → ℕ → List ℕ
unfolding encode_fields
none_bytes kind target owner = encode_fields (record { kind = kind; operator = 0; first = none; second = none; target = target; record_word = owner })

unfoldable pub one_bytes : ℕ → ℕ → ℕ → Ir.Operand → List ℕ
unfolding encode_fields
one_bytes kind operator target o = encode_fields (record { kind = kind; operator = operator; first = some o; second = none; target = target; record_word = 0 })

unfoldable pub two_bytes : ℕ → ℕ → Ir.Operand → Ir.Operand → List ℕ
unfolding encode_fields
two_bytes operator target o p = encode_fields (record { kind = binary_kind; operator = operator; first = some o; second = some p; target = target; record_word = 0 })
