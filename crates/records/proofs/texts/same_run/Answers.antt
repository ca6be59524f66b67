-- Fewer than eight bytes singly; else the first eight, and what is behind them.
-- From what the three functions ensure, by the law of texts part by part. Assumes nothing.
use mathlib.Core.Path.{refl, sym, ◌∙◌}
use native.Mathlib.Omega.{arith}
use Rattle.records.proofs.TextLaws.{part-more, part-other}
use Rattle.records.proofs.texts.same_run.Goals as goal

pub returns-then-not-same_eight : goal.returns-then-not-same_eight
returns-then-not-same_eight c = part-other _ _ _ _ _ 8 _ _ (omega arith) c.same_eight.ensures refl c.if-not-same_eight.true

pub returns : goal.returns
returns c = c.same_long.ensures ∙ sym (part-more _ _ _ _ _ 8 _ _ (omega arith) c.same_eight.ensures refl c.if-not-same_eight.false)
