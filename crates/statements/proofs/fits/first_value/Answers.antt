-- The first value of a list of arguments goes to the parameter beside it, where every type before it took one.
-- By the laws of the walk past a type and of its two ends, and a number that falls with each cell. Assumes nothing.
use Rattle.syntax.proofs.Lists.{cell_below, next_falls}
use Rattle.statements.proofs.PositionLaws.{walk_end, at_value, past-type}
use Rattle.statements.proofs.fits.first_value.Goals as goal

pub next_cell-next-requires : goal.next_cell-next-requires
next_cell-next-requires c = cell_below _ _ c.requires.0 _ _ c.loop-cell.invariant.args c.loop-cell-test.true

pub returns-in-Expr : goal.returns-in-Expr
returns-in-Expr c = at_value _ _ c.requires.0 _ _ _ _ c.loop-cell.invariant c.loop-cell-test.true _ c.next_cell-next.ensures _ c.argument_at.ensures _ c.in-Expr.is

pub loop-cell-smaller : goal.loop-cell-smaller
loop-cell-smaller c = next_falls _ _ c.requires.0 _ _ _ c.loop-cell.invariant.args c.loop-cell-test.true c.next_cell-next.ensures

pub loop-cell-preserved : goal.loop-cell-preserved
loop-cell-preserved c = past-type _ _ c.requires.0 _ _ _ _ c.loop-cell.invariant c.loop-cell-test.true _ c.next_cell-next.ensures _ c.argument_at.ensures _ c.in_default.is _ c.next_parameter-beside.ensures.0 c.next_parameter-beside.ensures.1

pub returns : goal.returns
returns c = walk_end _ _ c.requires.0 _ _ _ _ c.loop-cell.invariant c.loop-cell-test.false
