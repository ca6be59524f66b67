-- `parameter_variables` meets its contract: a variable for each parameter, one turn for each.
-- The invariant: what is left makes, with what was added, the whole; the measure is the cell's number. Assumes nothing.
use native.Mathlib.Omega.{arith}
use Rattle.functions.proofs.BodyLaws.{vars_start, vars_end, vars-next, cell-inside, cell_below, cell_falls, item-inside, var_room}
use Rattle.functions.proofs.bodies.parameter_variables.Goals as goal

pub loop-cell-init : goal.loop-cell-init
loop-cell-init c = vars_start c.parameters_of-cell.ensures.0 c.parameters_of-cell.ensures.1 c.requires.room_for

pub reference-requires-clause-record_bytes_in_bounds : goal.reference-requires-clause-record_bytes_in_bounds
reference-requires-clause-record_bytes_in_bounds c = cell-inside c.requires.good.0 c.loop-cell.invariant c.loop-cell-test.true

pub word-requires : goal.word-requires
word-requires c = (item-inside c.requires.good.0 c.loop-cell.invariant c.loop-cell-test.true c.reference.ensures, omega arith)

pub new_var-requires : goal.new_var-requires
new_var-requires c = var_room c.requires.good.0 c.loop-cell.invariant c.loop-cell-test.true

pub next_cell-cell-requires : goal.next_cell-cell-requires
next_cell-cell-requires c = cell_below c.requires.good.0 c.loop-cell.invariant c.loop-cell-test.true

pub loop-cell-smaller : goal.loop-cell-smaller
loop-cell-smaller c = cell_falls c.requires.good.0 c.loop-cell.invariant c.loop-cell-test.true c.next_cell-cell.ensures

pub loop-cell-preserved : goal.loop-cell-preserved
loop-cell-preserved c = vars-next c.requires.good.0 c.loop-cell.invariant c.loop-cell-test.true c.reference.ensures c.word.ensures (omega arith) c.new_var.ensures c.next_cell-cell.ensures

pub returns : goal.returns
returns c = vars_end c.requires.good.0 c.loop-cell.invariant c.loop-cell-test.false
