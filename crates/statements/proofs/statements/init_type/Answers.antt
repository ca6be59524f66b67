-- The type of a new variable: an address to nothing for Null.
-- By the test of the definition. Assumes nothing.
use mathlib.Core.Path.{sym}
use borrow.Author.Tests.{eq-eqb, ne_eqb}
use Rattle.laws.proofs.FixLaws.{pick_yes, pick_no}
use Rattle.statements.proofs.statements.init_type.Goals as goal

pub returns-then-y-eq-NULL_TYPE : goal.returns-then-y-eq-NULL_TYPE
returns-then-y-eq-NULL_TYPE c = sym (pick_yes _ _ _ (eq-eqb _ _ c.if-y-eq-NULL_TYPE.true))

pub returns : goal.returns
returns c = sym (pick_no _ _ _ (ne_eqb _ _ c.if-y-eq-NULL_TYPE.false))
