-- The digest of a text, by its samples where it is longer than a stride.
-- From what `text_roll` and `roll_long` ensure. Assumes nothing.
use native.Mathlib.Omega.{arith}
use Rattle.records.proofs.TextLaws.{text-inside}
use Rattle.records.proofs.DigestLaws.{roll_taken}
use Rattle.records.proofs.samples.sampled_roll.Goals as goal

pub roll_long-requires : goal.roll_long-requires
roll_long-requires c = (c.requires, omega arith, omega arith, text-inside _ _ _ _ c.reach-n.ensures (λ z. omega arith))

pub returns : goal.returns
returns c = (roll_taken _ _ _ _ _ c.reach-n.ensures c.roll_long.ensures.0, c.roll_long.ensures.1)
