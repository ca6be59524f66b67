-- A Break or Continue jumps in the innermost loop; outside of all it is refused.
-- By what `in_loop` answers. Assumes nothing.
use Rattle.statements.proofs.DeclareLaws.{jump_outside, jump_states}
use Rattle.statements.proofs.statements.jump_in_loop.Goals as goal

pub returns-in-None : goal.returns-in-None
returns-in-None c = jump_outside c.requires.converting.0 _ _ c.in_loop.ensures c.args.kind c.args.outside c.in-None.is c.error_at.ensures

pub returns-in-Some : goal.returns-in-Some
returns-in-Some c = jump_states c.requires.converting.0 _ _ c.in_loop.ensures c.args.kind c.args.outside c.in-Some.is c.jump.ensures
