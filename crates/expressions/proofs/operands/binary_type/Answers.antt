-- `binary_type` meets its contract: the operands' common type, where the operator takes it, gives its result; else the error.
-- By whether there is a common type, whether it is taken, and the class of results. Assumes nothing.
use Rattle.expressions.proofs.OperandLaws.{operator-known, none-common, not_taken, gives_bool_lem, gives-common}
use Rattle.expressions.proofs.operands.binary_type.Goals.{in_default-via-in-Some+else-accepts, in_default-via-in_default}
use Rattle.expressions.proofs.operands.binary_type.Goals as goal

pub operator_of-op-requires : goal.operator_of-op-requires
operator_of-op-requires c = operator-known _ _ c.requires.good _ c.requires.operands _ c.requires.kind _ c.detail.ensures

pub returns-in-Common : goal.returns-in-Common
returns-in-Common c = gives-common _ _ c.requires.good _ c.requires.operands _ c.requires.kind _ c.detail.ensures _ _ c.operator_of-op.ensures _ c.requires.found_is _ c.in-Some.is _ (c.accepts.ensures _) c.if-accepts.true c.in-Common.is

pub returns-in-Bool : goal.returns-in-Bool
returns-in-Bool c = gives_bool_lem _ _ c.requires.good _ c.requires.operands _ c.requires.kind _ c.detail.ensures _ _ c.operator_of-op.ensures _ c.requires.found_is _ c.in-Some.is _ (c.accepts.ensures _) c.if-accepts.true c.in-Bool.is

pub returns-in_default : goal.returns-in_default
returns-in_default c = elim c.in_default.branch [ in_default-via-in-Some+else-accepts w ↦ not_taken _ _ c.requires.good _ c.requires.operands _ c.requires.kind _ c.detail.ensures _ _ c.operator_of-op.ensures _ c.requires.found_is _ w.in-Some.is _ (w.accepts.ensures _) w.if-accepts.false _ c.binary_error.ensures | in_default-via-in_default w ↦ none-common _ _ c.requires.good _ c.requires.operands _ c.requires.kind _ c.detail.ensures _ _ c.operator_of-op.ensures _ c.requires.found_is w.in_default.is _ c.binary_error.ensures ]
