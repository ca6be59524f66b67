-- Each type is put into the entry of its number. The invariant: those passed are.
-- By the law of one more. Assumes nothing.
use mathlib.Core.Path.{◌∙◌}
use native.Mathlib.Omega.{arith}
use Rattle.judge.proofs.EqualLaws.{listed_more, listed-long}
use Rattle.judge.proofs.equal.collect_types.Goals as goal

pub loop-r-preserved : goal.loop-r-preserved
loop-r-preserved c = (listed_more _ _ _ c.loop-r.invariant.0 (omega (arith, c.requires.1, c.loop-r.invariant.1, c.loop-r-test.true)) (omega (arith, c.requires.0, c.loop-r-test.true)) c.put_pair.ensures, listed-long _ _ _ c.loop-r.invariant.0 (omega (arith, c.requires.1, c.loop-r.invariant.1, c.loop-r-test.true)) (omega (arith, c.requires.0, c.loop-r-test.true)) c.put_pair.ensures ∙ c.loop-r.invariant.1)
