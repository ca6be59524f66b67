-- Whether what was asked takes all is whether what is left does, a parameter and an argument at a time.
-- The laws of the first of both lists, and a number that falls with each parameter. Assumes nothing.
use mathlib.Core.Bool.{not}
use mathlib.Core.Path.{ap}
use Rattle.syntax.proofs.Lists.{cell_below, next-list, next_falls}
use Rattle.expressions.proofs.TakeLaws.{all-no, all_more, arguments_end, params_end_all, next-args-typed}
use Rattle.expressions.proofs.takes.takes_args.Goals as goal

pub returns-then-cell-eq-END : goal.returns-then-cell-eq-END
returns-then-cell-eq-END c = arguments_end _ _ _ _ c.requires.argued.good _ _ c.loop-parameter.invariant.3 c.if-cell-eq-END.true

pub returns-then-not-takes_arg : goal.returns-then-not-takes_arg
returns-then-not-takes_arg c = all-no _ _ _ _ _ _ _ c.loop-parameter.invariant.3 c.takes_arg.ensures (ap not c.if-not-takes_arg.true)

pub next_cell-parameter-requires : goal.next_cell-parameter-requires
next_cell-parameter-requires c = cell_below _ _ c.requires.argued.good _ _ c.loop-parameter.invariant.0 c.loop-parameter-test.true

pub next_cell-cell-requires : goal.next_cell-cell-requires
next_cell-cell-requires c = cell_below _ _ c.requires.argued.good _ _ c.loop-parameter.invariant.1 c.if-cell-eq-END.false

pub loop-parameter-smaller : goal.loop-parameter-smaller
loop-parameter-smaller c = next_falls _ _ c.requires.argued.good _ _ _ c.loop-parameter.invariant.0 c.loop-parameter-test.true c.next_cell-parameter.ensures

pub loop-parameter-preserved : goal.loop-parameter-preserved
loop-parameter-preserved c = (next-list _ _ c.requires.argued.good _ _ _ c.loop-parameter.invariant.0 c.loop-parameter-test.true c.next_cell-parameter.ensures, next-list _ _ c.requires.argued.good _ _ _ c.loop-parameter.invariant.1 c.if-cell-eq-END.false c.next_cell-cell.ensures, next-args-typed _ _ _ c.requires.argued.good _ _ c.loop-parameter.invariant.1 c.if-cell-eq-END.false c.next_cell-cell.ensures c.loop-parameter.invariant.2, all_more _ _ _ _ c.requires.argued.good _ _ _ _ c.loop-parameter.invariant.0 c.loop-parameter-test.true c.loop-parameter.invariant.1 c.if-cell-eq-END.false c.next_cell-parameter.ensures c.next_cell-cell.ensures _ c.loop-parameter.invariant.3 c.takes_arg.ensures (ap not c.if-not-takes_arg.false))

pub returns : goal.returns
returns c = params_end_all _ _ _ c.requires.argued.good _ _ c.loop-parameter.invariant.3 c.loop-parameter-test.false
