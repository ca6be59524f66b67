-- The classes of the table of operators: the definition's in the code's. Assumes nothing: these are definitions.
use Rattle.std.specs.Prelude.{Bool, true, false}
use Rattle.conversion.specs.Expressions as Defined
use Rattle.types.specs.declared.operators.OperandClass.{OperandClass}
use Rattle.types.specs.declared.operators.ResultClass.{ResultClass}

abbrev pub class_of : Defined.OperandClass → OperandClass
class_of Defined.Bools = OperandClass.Bools
class_of Defined.Any = OperandClass.Any
class_of Defined.Numbers = OperandClass.Numbers
class_of Defined.Integers = OperandClass.Integers

-- by whether the result is a Bool; else it has the operands' common type
abbrev pub result_of : Bool → ResultClass
result_of false = ResultClass.Common
result_of true = ResultClass.Bool
