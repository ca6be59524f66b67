-- The first entry that is these words, of those that a chain leads through.
-- What is left of the walk gives what was asked. Assumes nothing.
use mathlib.Core.Path.{refl, sym, ◌∙◌}
use native.Mathlib.Omega.{arith}
use Rattle.ir.proofs.LinkLaws.{walk_end, walk_here, walk_further, walk_astray}
use Rattle.ir.proofs.search.walk_float.Goals as goal

pub returns-then-is_float_at : goal.returns-then-is_float_at
returns-then-is_float_at c = c.loop-u.invariant.1 _ (walk_here _ _ c.loop-u-test.true refl (sym c.is_float_at.ensures ∙ c.if-is_float_at.true))

pub returns-then-j-next : goal.returns-then-j-next
returns-then-j-next c = c.loop-u.invariant.1 _ (walk_astray _ _ c.loop-u-test.true refl _ (c.index-next.ensures ∙ c.load.ensures) (sym c.is_float_at.ensures ∙ c.if-is_float_at.false) c.if-j-next.true)

pub loop-u-preserved : goal.loop-u-preserved
loop-u-preserved c = (omega arith, λ r h. c.loop-u.invariant.1 r (walk_further _ _ c.loop-u-test.true refl _ (c.index-next.ensures ∙ c.load.ensures) (sym c.is_float_at.ensures ∙ c.if-is_float_at.false) c.if-j-next.false r h))

pub returns : goal.returns
returns c = c.loop-u.invariant.1 _ (walk_end _ (omega arith))
