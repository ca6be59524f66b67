-- The table is what the definitions give the operators in their order, computed: so is its entry at an index. Assumes nothing.
use mathlib.Core.Path.{ap}
use Rattle.std.proofs.lemmas.List.{get_or-map}
use Rattle.syntax.specs.Syntax.{BinaryOp, binary_ops, Or}
use Rattle.conversion.specs.Expressions.{operand_class, gives_bool}
use Rattle.types.specs.declared.operators.Operator.{Operator}
use Rattle.types.specs.Operators.{class_of, result_of}
use Rattle.types.proofs.operators.operator_of.Goals as goal

entry : BinaryOp → Operator
entry o = record { operands = class_of (operand_class o); result = result_of (gives_bool o) }

pub returns : goal.returns
unfolding entry operand_class gives_bool
returns c =
    let same = get_or-map entry binary_ops c.args.op Or _ c.requires in
    (ap (λ (x : Operator). x.operands) same, ap (λ (x : Operator). x.result) same)
