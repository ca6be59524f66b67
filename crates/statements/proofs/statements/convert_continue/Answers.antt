-- A Continue is its jump in the innermost loop.
-- By what the jump owes. Assumes nothing.
use Rattle.statements.proofs.DeclareLaws.{continue_states}
use Rattle.statements.proofs.statements.convert_continue.Goals as goal

pub returns : goal.returns
returns c = continue_states c.requires.converting.0 c.args.r c.jump_in_loop.ensures
