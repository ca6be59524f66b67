-- The first type among what was asked is the first among what is left, cell by cell.
-- The laws of the typed arguments, and a number that falls with each cell. Assumes nothing.
use Rattle.expressions.specs.Answers.{a_type, no_type}
use Rattle.syntax.proofs.Lists.{cell_below, next-list, next_falls}
use Rattle.expressions.proofs.ArgumentLaws.{of-type, target_hit, target_more, target_end}
use Rattle.expressions.proofs.arguments.target_type.Goals as goal

pub returns-in-ToType : goal.returns-in-ToType
returns-in-ToType c = (λ s. target_hit _ _ s _ _ _ _ c.argument_at.ensures c.in-ToType.is (c.loop-cell.invariant.1 s), a_type (of-type _ _ _ c.argument_at.ensures _ c.in-ToType.is))

pub next_cell-cell-requires : goal.next_cell-cell-requires
next_cell-cell-requires c = cell_below _ _ c.requires.good _ _ c.loop-cell.invariant.0 c.loop-cell-test.true

pub loop-cell-smaller : goal.loop-cell-smaller
loop-cell-smaller c = next_falls _ _ c.requires.good _ _ _ c.loop-cell.invariant.0 c.loop-cell-test.true c.next_cell-cell.ensures

pub loop-cell-preserved : goal.loop-cell-preserved
loop-cell-preserved c = (next-list _ _ c.requires.good _ _ _ c.loop-cell.invariant.0 c.loop-cell-test.true c.next_cell-cell.ensures, λ s. target_more _ _ s _ _ _ _ _ c.argument_at.ensures c.in_default.is c.next_cell-cell.ensures (c.loop-cell.invariant.1 s))

pub returns : goal.returns
returns c = (λ s. target_end _ _ s _ _ c.requires.good c.loop-cell-test.false (c.loop-cell.invariant.1 s), no_type)
