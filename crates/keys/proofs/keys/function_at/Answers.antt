-- The j-th of the listed functions is a function.
-- By what the scratch lists. Assumes nothing.
use native.Mathlib.Omega.{arith}
use Rattle.keys.proofs.KeySearch.{listed-room, listed_at}
use Rattle.keys.proofs.keys.function_at.Goals as goal

pub overflow_mul-j : goal.overflow_mul-j
overflow_mul-j c = omega (arith, listed-room _ _ c.requires.listed c.args.j c.requires.j_in_bounds)

pub load-requires : goal.load-requires
load-requires c = listed-room _ _ c.requires.listed c.args.j c.requires.j_in_bounds

pub returns : goal.returns
returns c = (c.load.ensures, listed_at _ _ c.requires.listed _ _ c.requires.j_in_bounds c.load.ensures)
