-- Sixteen bytes more.
-- By the law of sixteen bytes. Assumes nothing.
use native.Mathlib.Omega.{arith}
use Rattle.records.proofs.RollLaws.{over_sixteen, over-told}
use Rattle.records.proofs.texts.roll_sixteen.Goals as goal

pub returns : goal.returns
returns c = (
  over-told _ _ 16 625 _ _ _ _ (over_sixteen _ _ c.requires.0) c.turned.ensures.0 (omega (arith, c.eight_digits.ensures.0, c.eight_digits-2.ensures.0)),
  c.turned.ensures.1,
)
