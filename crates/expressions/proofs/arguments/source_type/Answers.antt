-- The type of the first expression among what was asked is that of the first among what is left, cell by cell.
-- The laws of the typed arguments, and a number that falls with each cell. Assumes nothing.
use Rattle.expressions.specs.Answers.{a_type, no_type}
use Rattle.syntax.proofs.Lists.{cell_below, next-list, next_falls}
use Rattle.expressions.proofs.ArgumentLaws.{slot-type, next-typed, source_hit, source_more, source_end}
use Rattle.expressions.proofs.arguments.source_type.Goals as goal

pub returns-in-Expr : goal.returns-in-Expr
returns-in-Expr c = (source_hit _ _ _ _ _ _ _ _ c.argument_at.ensures c.in-Expr.is c.slot.ensures c.loop-cell.invariant.2, a_type (slot-type _ _ _ _ _ c.argument_at.ensures c.loop-cell.invariant.1 _ _ c.in-Expr.is c.slot.ensures))

pub next_cell-cell-requires : goal.next_cell-cell-requires
next_cell-cell-requires c = cell_below _ _ c.requires.good _ _ c.loop-cell.invariant.0 c.loop-cell-test.true

pub loop-cell-smaller : goal.loop-cell-smaller
loop-cell-smaller c = next_falls _ _ c.requires.good _ _ _ c.loop-cell.invariant.0 c.loop-cell-test.true c.next_cell-cell.ensures

pub loop-cell-preserved : goal.loop-cell-preserved
loop-cell-preserved c = (next-list _ _ c.requires.good _ _ _ c.loop-cell.invariant.0 c.loop-cell-test.true c.next_cell-cell.ensures, next-typed _ _ _ _ _ c.argument_at.ensures c.loop-cell.invariant.1 c.next_cell-cell.ensures, source_more _ _ _ _ _ _ _ _ c.argument_at.ensures c.in_default.is c.next_cell-cell.ensures c.loop-cell.invariant.2)

pub returns : goal.returns
returns c = (source_end _ _ _ _ _ c.requires.good c.loop-cell-test.false c.loop-cell.invariant.2, no_type)
