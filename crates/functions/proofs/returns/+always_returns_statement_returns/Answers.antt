-- `statement_returns` and `always_returns` meet their contracts. Their measures are 2r + 1 for a statement and twice what is left of a block's cells: each call goes to what lies below.
-- Each need is a law of ReturnLaws; the loop's invariant is `ReturnsLeft`, its measure the cell's number. Assumes nothing.
use native.Mathlib.Omega.{arith}
use Rattle.functions.proofs.ReturnLaws.{returns_start, returns_end, cell-inside, cell_falls, item_statement, item-less, returns-here, returns-next, a-return, another, first_block, second_block, no_otherwise, first-not, by-second}
use Rattle.functions.proofs.returns.+always_returns_statement_returns.Goals as goal

pub always_returns-loop-cell-init : goal.always_returns-loop-cell-init
always_returns-loop-cell-init t c = returns_start c.requires.1

pub always_returns-reference-requires-clause-record_bytes_in_bounds : goal.always_returns-reference-requires-clause-record_bytes_in_bounds
always_returns-reference-requires-clause-record_bytes_in_bounds t c = cell-inside c.requires.0 c.loop-cell.invariant c.loop-cell-test.true

pub always_returns-statement_returns-requires : goal.always_returns-statement_returns-requires
always_returns-statement_returns-requires t c = let good = c.requires.0 in
    (omega (arith, item-less good c.loop-cell.invariant c.loop-cell-test.true c.reference.ensures, c.decreases), (good, item_statement good c.loop-cell.invariant c.loop-cell-test.true c.reference.ensures))

pub always_returns-returns-then-statement_returns : goal.always_returns-returns-then-statement_returns
always_returns-returns-then-statement_returns t c = returns-here c.requires.0 c.loop-cell.invariant c.loop-cell-test.true c.reference.ensures c.statement_returns.ensures c.if-statement_returns.true

pub always_returns-next_cell-cell-requires : goal.always_returns-next_cell-cell-requires
always_returns-next_cell-cell-requires t c = omega (arith, cell-inside c.requires.0 c.loop-cell.invariant c.loop-cell-test.true, c.requires.0.whole)

pub always_returns-loop-cell-smaller : goal.always_returns-loop-cell-smaller
always_returns-loop-cell-smaller t c = cell_falls c.requires.0 c.loop-cell.invariant c.loop-cell-test.true c.next_cell-cell.ensures

pub always_returns-loop-cell-preserved : goal.always_returns-loop-cell-preserved
always_returns-loop-cell-preserved t c = returns-next c.requires.0 c.loop-cell.invariant c.loop-cell-test.true c.reference.ensures c.statement_returns.ensures c.if-statement_returns.false c.next_cell-cell.ensures

pub always_returns-returns : goal.always_returns-returns
always_returns-returns t c = returns_end c.requires.0 c.loop-cell.invariant c.loop-cell-test.false

pub statement_returns-returns-then-node-eq-KIND_RETURN : goal.statement_returns-returns-then-node-eq-KIND_RETURN
statement_returns-returns-then-node-eq-KIND_RETURN t c = a-return c.requires.0 c.requires.1 c.kind-node.ensures c.if-node-eq-KIND_RETURN.true

pub statement_returns-returns-then-node-ne-KIND_IF : goal.statement_returns-returns-then-node-ne-KIND_IF
statement_returns-returns-then-node-ne-KIND_IF t c = another c.requires.0 c.requires.1 c.kind-node.ensures c.if-node-eq-KIND_RETURN.false c.if-node-ne-KIND_IF.true

pub statement_returns-returns-then-detail-ne1 : goal.statement_returns-returns-then-detail-ne1
statement_returns-returns-then-detail-ne1 t c = no_otherwise c.requires.0 c.requires.1 c.kind-node.ensures c.if-node-ne-KIND_IF.false c.detail.ensures c.if-detail-ne1.true

pub statement_returns-always_returns-requires : goal.statement_returns-always_returns-requires
statement_returns-always_returns-requires t c = let good = c.requires.0 in
    let w = first_block good c.requires.1 c.kind-node.ensures c.if-node-ne-KIND_IF.false c.reference.ensures in
    (omega (arith, w.0, c.decreases), (good, w.1))

pub statement_returns-always_returns-requires-then-always_returns : goal.statement_returns-always_returns-requires-then-always_returns
statement_returns-always_returns-requires-then-always_returns t c = let good = c.requires.0 in
    let w = second_block good c.requires.1 c.kind-node.ensures c.if-node-ne-KIND_IF.false c.reference-then-always_returns.ensures in
    (omega (arith, w.0, c.decreases), (good, w.1))

pub statement_returns-returns-then-always_returns : goal.statement_returns-returns-then-always_returns
statement_returns-returns-then-always_returns t c = by-second c.requires.0 c.requires.1 c.kind-node.ensures c.if-node-ne-KIND_IF.false c.detail.ensures c.if-detail-ne1.false c.reference.ensures c.always_returns.ensures c.if-always_returns.true c.reference-then-always_returns.ensures c.always_returns-then-always_returns.ensures

pub statement_returns-returns : goal.statement_returns-returns
statement_returns-returns t c = first-not c.requires.0 c.requires.1 c.kind-node.ensures c.if-node-ne-KIND_IF.false c.detail.ensures c.if-detail-ne1.false c.reference.ensures c.always_returns.ensures c.if-always_returns.false
