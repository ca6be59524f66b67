-- Where a walk through a bucket begins.
-- By what stands at its head, and by the float under that number. Assumes nothing.
use mathlib.Core.Path.{◌∙◌}
use native.Mathlib.Omega.{arith}
use Rattle.ir.proofs.EntryLinks.{head_beyond, head_other, head_own, words_bucket}
use Rattle.ir.proofs.pool.float_head.Goals as goal

pub returns-then-i-k : goal.returns-then-i-k
returns-then-i-k c = (head_beyond _ _ _ _ _ (c.index-i.ensures ∙ c.load.ensures) c.if-i-k.true, omega arith)

pub returns-then-float_bucket-b : goal.returns-then-float_bucket-b
returns-then-float_bucket-b c = (head_other _ _ _ _ _ (c.index-i.ensures ∙ c.load.ensures) c.if-i-k.false _ (words_bucket _ _ _ _ _ _ _ c.load-2.ensures c.load-3.ensures c.load-4.ensures c.float_bucket.ensures) c.if-float_bucket-b.true, omega arith)

pub returns : goal.returns
returns c = (head_own _ _ _ _ _ (c.index-i.ensures ∙ c.load.ensures) c.if-i-k.false _ (words_bucket _ _ _ _ _ _ _ c.load-2.ensures c.load-3.ensures c.load-4.ensures c.float_bucket.ensures) c.if-float_bucket-b.false, omega (arith, c.if-i-k.false))
