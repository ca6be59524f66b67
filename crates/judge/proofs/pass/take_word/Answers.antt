-- A word is taken: counted where it refers, and else judged where it stands.
-- By the one test, whether its role refers. Assumes nothing.
use mathlib.Core.Path.{sym, ◌∙◌}
use Rattle.judge.proofs.TakeLaws.{took_plain}
use Rattle.judge.proofs.pass.take_word.Goals as goal

pub returns-then-refers_to : goal.returns-then-refers_to
returns-then-refers_to c = c.take_reference.ensures _ _

pub returns : goal.returns
returns c = took_plain _ _ _ _ _ _ _ (sym c.refers_to.ensures ∙ c.if-refers_to.false) _ (c.plain_ok.ensures (sym c.refers_to.ensures ∙ c.if-refers_to.false) _ _)
