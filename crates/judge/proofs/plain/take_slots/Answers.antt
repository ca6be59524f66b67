-- A record whose words lead to slots is taken, if what it refers to is right.
-- By the laws of `PlainTaken`, over what the calls ensure. Assumes nothing.
use mathlib.Core.Path.{ap, ◌∙◌}
use mathlib.Core.Bool.{not}
use Rattle.judge.proofs.CapLaws.{larger-is}
use Rattle.judge.proofs.PlainTaken.{slots-cells, slots-took}
use native.Mathlib.Numerals.{unary_clauses}
use Rattle.judge.proofs.plain.take_slots.Goals as goal

pub class_of-class-requires : goal.class_of-class-requires
class_of-class-requires c = slots-cells _ _ _ _ _ _ _ _ _ _ c.requires c.put_own.ensures _ _ _ c.count_one.ensures c.count_one-2.ensures c.count_one-3.ensures

pub returns : goal.returns
returns c = slots-took _ _ _ _ _ _ _ _ _ _ c.requires c.put_own.ensures _ _ _ _ _ c.badge_ok.ensures c.badge_ok-2.ensures c.badge_ok-3.ensures (ap not c.if-not-badges-below.false) (simp unary_clauses at (c.max-deeper.ensures ∙ larger-is _ _)) (simp unary_clauses at (c.max-below.ensures ∙ larger-is _ _)) _ _ _ _ c.count_one.ensures c.count_one-2.ensures c.count_one-3.ensures _ _ c.class_of-class.ensures c.depth_over-depth.ensures c.put_known.ensures
