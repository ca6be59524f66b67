-- A variable more.
-- From what `put_word` wrote. Assumes nothing.
use Rattle.ir.proofs.Answers.{var_done}
use Rattle.ir.proofs.counter.add_var.Goals as goal

pub returns : goal.returns
returns c = search var_done
