-- Where the If goes when its condition does not hold.
-- By the test. Assumes nothing.
use mathlib.Core.Path.{sym, ◌∙◌}
use Rattle.laws.proofs.FixLaws.{pick_yes, pick_no}
use Rattle.statements.proofs.loops.if_not_label.Goals as goal

pub returns-then-has_otherwise : goal.returns-then-has_otherwise
returns-then-has_otherwise c = sym (pick_yes _ 4 5 (sym c.has_otherwise.ensures ∙ c.if-has_otherwise.true))

pub returns : goal.returns
returns c = sym (pick_no _ 4 5 (sym c.has_otherwise.ensures ∙ c.if-has_otherwise.false))
