-- The digest of a text that goes on, as far as the text lies within the buffer.
-- From what `reach` and `roll` ensure. Assumes nothing.
use native.Mathlib.Omega.{arith}
use Rattle.records.proofs.TextLaws.{text-inside}
use Rattle.records.proofs.DigestLaws.{roll_none, roll_taken}
use Rattle.records.proofs.texts.text_roll.Goals as goal

pub returns-then-x-eq0 : goal.returns-then-x-eq0
returns-then-x-eq0 c = (roll_none _ _ _ _ c.reach-x.ensures c.if-x-eq0.true, omega arith)

pub roll-requires : goal.roll-requires
roll-requires c = (text-inside _ _ _ _ c.reach-x.ensures c.if-x-eq0.false, omega arith)

pub returns : goal.returns
returns c = (roll_taken _ _ _ _ _ c.reach-x.ensures c.roll.ensures.0, c.roll.ensures.1)
