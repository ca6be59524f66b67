-- Equal types always; else the entry of the table at the two classes.
-- What `cast_class` and `index_of` ensure, put into the definition. Assumes nothing.
use mathlib.Core.Path.{sym, ◌∙◌}
use borrow.Author.Tests.{eq-eqb, ne_eqb}
use Rattle.conversion.specs.Types.{can_cast}
use Rattle.types.proofs.casts.can_cast.Goals as goal

pub returns-then-from-to : goal.returns-then-from-to
unfolding can_cast
returns-then-from-to c text = simp (eq-eqb _ _ c.if-from-to.true)

pub returns : goal.returns
unfolding can_cast
returns c text = rw (ne_eqb _ _ c.if-from-to.false, sym (c.index_of-a.ensures ∙ c.cast_class.ensures text), sym (c.index_of-b.ensures ∙ c.cast_class-2.ensures text))
