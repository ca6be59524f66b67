-- A walk along the chain of type r's bucket, for so many entries at most. The invariant: no type from the place at hand on is like type r.
-- By the laws of chains at the head, at each link and at the end. Assumes nothing.
use mathlib.Core.Path.{refl, sym, ◌∙◌}
use borrow.Author.Tests.{ltb-false}
use Prim.Native.Nat.{◌-◌}
use native.Mathlib.Omega.{arith}
use Rattle.laws.proofs.ChainLaws.{walk_start, walk_on}
use Rattle.judge.proofs.EqualLaws.{together, like_none}
use Rattle.judge.proofs.equal.may_have_alike.Goals as goal

pub loop-init : goal.loop-init
loop-init c = walk_start _ _ (together _ _ _) _ _ (c.index-at.ensures ∙ c.requires.head_value)

pub returns-then-at-eq0 : goal.returns-then-at-eq0
returns-then-at-eq0 c = λ e. sym (like_none _ _ _ _ c.loop.at (omega arith) c.loop.invariant)

pub loop-preserved : goal.loop-preserved
loop-preserved c = walk_on _ _ (together _ _ _) _ c.loop.at (c.loop.at - 1) _ c.loop.invariant (omega (arith, c.if-at-eq0.false)) (sym c.is_alike.ensures ∙ c.if-is_alike.false) (c.index-at-in-loop.ensures ∙ c.load.ensures ∙ c.requires.types_chained.0.links (c.loop.at - 1) (omega (arith, c.if-at-eq0.false, c.loop.invariant.within)) refl)

pub returns : goal.returns
returns c = λ e. sym (like_none _ _ _ _ c.loop.at (ltb-false _ _ e) c.loop.invariant)
