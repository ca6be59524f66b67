-- How deep the type is that a first type refers to: 0 where its word A is 0, else what is known of the record.
-- Each return is a case of the definition, over what `index` ensures. Assumes nothing.
use borrow.Author.Tests.{eq-eqb, ne_eqb}
use mathlib.Core.Path.{sym}
use Rattle.laws.proofs.FixLaws.{pick_yes, pick_no}
use Rattle.judge.proofs.pass.inner_depth.Goals as goal

pub returns-then-a-eq0 : goal.returns-then-a-eq0
returns-then-a-eq0 c = sym (pick_yes _ _ _ (eq-eqb _ _ c.if-a-eq0.true))

pub returns : goal.returns
returns c = rw c.index.ensures (sym (pick_no _ _ _ (ne_eqb _ _ c.if-a-eq0.false)))
