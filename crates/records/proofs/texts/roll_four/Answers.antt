-- Four bytes more.
-- By the law of four bytes. Assumes nothing.
use native.Mathlib.Omega.{arith}
use Rattle.records.proofs.RollLaws.{over_four, over-told}
use Rattle.records.proofs.texts.roll_four.Goals as goal

pub returns : goal.returns
returns c = (
  over-told _ _ 4 5 _ _ _ _ (over_four _ _ c.requires.0) c.turned.ensures.0 (omega (arith, c.high_first.ensures.0)),
  c.turned.ensures.1,
)
