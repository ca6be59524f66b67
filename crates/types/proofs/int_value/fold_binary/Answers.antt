-- A binary operator on folded operands. Each answer is a case of `FoldCases`. Assumes nothing.
use mathlib.Core.Path.{ap, ◌∙◌}
use Rattle.int128.specs.Value.{checked_of}
use Rattle.types.proofs.FoldCases.{binary-left, binary-right, binary_two}
use Rattle.types.proofs.int_value.fold_binary.Goals as goal

pub returns-in_err-left : goal.returns-in_err-left
returns-in_err-left c = ap checked_of c.from_residual.ensures ∙ binary-left c.args.op _ c.args.right c.in_err-left.was

pub returns-in_err-right : goal.returns-in_err-right
returns-in_err-right c = ap checked_of c.from_residual-in_err-right.ensures ∙ binary-right c.args.op _ _ _ c.in_ok-left.was c.in_err-right.was

pub returns : goal.returns
returns c = binary_two c.args.op _ _ _ c.in_ok-left.was _ c.in_ok-right.was _ c.fold_two.ensures
