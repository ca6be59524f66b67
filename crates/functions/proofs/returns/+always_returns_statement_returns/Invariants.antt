-- `statement_returns` and `always_returns` meet their contracts. Their measures are 2r + 1 for a statement and twice what is left of a block's cells: each call goes to what lies below.
-- Each need is a law of ReturnLaws; the loop's invariant is `ReturnsLeft`, its measure the cell's number. Assumes nothing.
use Rattle.syntax.proofs.Lists.{left}
use Rattle.functions.proofs.ReturnLaws.{ReturnsLeft}
use Prim.Native.Nat.{◌+◌, ◌*◌}
use Rattle.functions.proofs.returns.+always_returns_statement_returns.Given as goal

abbrev pub decreases-always_returns : goal.decreases-always_returns
decreases-always_returns l = 2 * left l.first

abbrev pub decreases-statement_returns : goal.decreases-statement_returns
decreases-statement_returns l = 2 * l.r + 1

abbrev pub invariant-always_returns-loop-cell : goal.invariant-always_returns-loop-cell
invariant-always_returns-loop-cell l = ReturnsLeft l.tree l.text l.first l.cell

abbrev pub decreases-always_returns-loop-cell : goal.decreases-always_returns-loop-cell
decreases-always_returns-loop-cell l = left l.cell
