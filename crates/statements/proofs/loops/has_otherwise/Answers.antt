-- Whether the If has an otherwise.
-- Its detail is 0 or 1. Assumes nothing.
use native.Mathlib.Omega.{arith}
use Rattle.statements.proofs.LeafLaws.{mark_bit}
use Rattle.statements.proofs.loops.has_otherwise.Goals as goal

pub returns : goal.returns
returns c = mark_bit c.detail.ensures (omega (arith, c.requires.r_bound))
