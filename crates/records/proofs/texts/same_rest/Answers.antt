-- Three bytes at most singly; else four, and what is behind them.
-- From what the two functions ensure, by the law of texts part by part. Assumes nothing.
use mathlib.Core.Path.{refl, sym, ◌∙◌}
use native.Mathlib.Omega.{arith}
use Rattle.records.proofs.TextLaws.{part-more, part-other}
use Rattle.records.proofs.texts.same_rest.Goals as goal

pub returns-then-not-same_four : goal.returns-then-not-same_four
returns-then-not-same_four c = part-other _ _ _ _ _ 4 _ _ (omega arith) c.same_four.ensures refl c.if-not-same_four.true

pub returns : goal.returns
returns c = c.same_singly-2.ensures ∙ sym (part-more _ _ _ _ _ 4 _ _ (omega arith) c.same_four.ensures refl c.if-not-same_four.false)
