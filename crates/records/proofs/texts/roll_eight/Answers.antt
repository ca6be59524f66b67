-- Eight bytes more.
-- By the law of eight bytes. Assumes nothing.
use native.Mathlib.Omega.{arith}
use Rattle.records.proofs.RollLaws.{over_eight, over-told}
use Rattle.records.proofs.texts.roll_eight.Goals as goal

pub returns : goal.returns
returns c = (
  over-told _ _ 8 25 _ _ _ _ (over_eight _ _ c.requires.0) c.turned.ensures.0 (omega (arith, c.eight_digits.ensures.0)),
  c.turned.ensures.1,
)
