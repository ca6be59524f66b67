-- The lowest record that is not referred to exactly once: none where no bytes say so, else the loop finds it. Its invariant: every record passed is referred to once.
-- Assumes nothing.
use mathlib.Core.Path.{sym, ap, ◌∙◌}
use mathlib.Core.Bool.{not}
use native.Mathlib.Omega.{arith}
use borrow.Author.Count.{below_more}
use Rattle.judge.proofs.FaultLaws.{once-told, none_miscounted}
use Rattle.judge.proofs.references.lowest_miscounted.Goals as goal

pub returns-then-not-some_miscounted : goal.returns-then-not-some_miscounted
returns-then-not-some_miscounted c = none_miscounted _ _ _ c.requires.2 (sym c.some_miscounted.ensures ∙ c.if-not-some_miscounted.true)

pub returns-then-not-k-count : goal.returns-then-not-k-count
returns-then-not-k-count c = record { within = omega arith; before = c.loop-r.invariant; found = λ h. sym (ap not (once-told _ _ _ _ _ c.requires.2 h c.kind-k.ensures)) ∙ ap not c.if-not-k-count.true }

pub loop-r-preserved : goal.loop-r-preserved
loop-r-preserved c = below_more _ _ c.loop-r.invariant (sym (ap not (once-told _ _ _ _ _ c.requires.2 c.loop-r-test.true c.kind-k.ensures)) ∙ ap not c.if-not-k-count.false)
