-- A Break or Continue is converted by its kind.
-- Each branch is the definition's case of that kind. Assumes nothing.
use Rattle.statements.proofs.BlockLaws.{jump_break, jump_continue}
use Rattle.statements.proofs.blocks.convert_jump.Goals as goal

pub returns-then-kind-eq-KIND_BREAK : goal.returns-then-kind-eq-KIND_BREAK
returns-then-kind-eq-KIND_BREAK c = jump_break _ _ c.kind.ensures c.if-kind-eq-KIND_BREAK.true c.convert_break.ensures

pub returns : goal.returns
returns c = jump_continue _ _ c.kind.ensures c.if-kind-eq-KIND_BREAK.false c.convert_continue.ensures
