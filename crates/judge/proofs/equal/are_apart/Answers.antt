-- The leading types are entered one after the other. The invariant: none of those passed equals an earlier one.
-- By what each step ensures and the law of what nothing is like. Assumes nothing.
use mathlib.Core.Path.{refl, ◌∙◌}
use native.Mathlib.Omega.{arith}
use borrow.Author.Count.{below_more}
use Rattle.records.proofs.ChainedLaws.{chained-none}
use Rattle.records.proofs.SampleLaws.{sampled-kept}
use Rattle.judge.proofs.EqualLaws.{unlike_new}
use Rattle.judge.proofs.equal.are_apart.Goals as goal

pub loop-r-init : goal.loop-r-init
loop-r-init c = let clear = c.clear_heads.ensures in (
  refl,
  record { chained = chained-none _ _ _ _ clear.heads; sampled = sampled-kept _ _ _ _ _ (λ p h. clear.others p (omega arith)) clear.long c.requires.2 },
  λ k h. absurd (omega arith),
)

pub loop-r-preserved : goal.loop-r-preserved
loop-r-preserved c = (
  c.may_be_again.ensures.scratch_len_unchanged ∙ c.loop-r.invariant.0,
  c.may_be_again.ensures.digests_passed_2,
  below_more _ _ c.loop-r.invariant.2 (unlike_new _ _ _ _ c.requires.0.kinds c.loop-r-test.true (c.may_be_again.ensures.r_value c.if-may_be_again.false)),
)
