-- The functions that convert an expression meet their contracts. Their measures are 4e + 3, 4e + 2 for a Binary, 4e + 1 for what it is made of, and 4e for a call's values: a call goes to a lower record, or down this order.
-- Each need is a law of ExprLaws or of ArgsLaws; the loop's invariant is `ArgsLeft`, its measure the cell's number. Assumes nothing.
use lib.ListN.{length}
use Rattle.statements.specs.Lent.{at}
use mathlib.Core.Path.{◌≡◌}
use Rattle.syntax.proofs.Lists.{left}
use Rattle.statements.proofs.ArgsLaws.{ArgsLeft}
use Prim.Native.Nat.{◌+◌, ◌*◌}
use Rattle.statements.proofs.exprs.+convert_args_convert_binary_convert_call_value_convert_expr_convert_logic_convert_other_convert_unary.Given as goal

abbrev pub decreases-convert_args : goal.decreases-convert_args
decreases-convert_args l = 4 * l.e

abbrev pub decreases-convert_binary : goal.decreases-convert_binary
decreases-convert_binary l = 4 * l.e + 2

abbrev pub decreases-convert_call_value : goal.decreases-convert_call_value
decreases-convert_call_value l = 4 * l.e + 1

abbrev pub decreases-convert_expr : goal.decreases-convert_expr
decreases-convert_expr l = 4 * l.e + 3

abbrev pub decreases-convert_logic : goal.decreases-convert_logic
decreases-convert_logic l = 4 * l.e + 1

abbrev pub decreases-convert_other : goal.decreases-convert_other
decreases-convert_other l = 4 * l.e + 1

abbrev pub decreases-convert_unary : goal.decreases-convert_unary
decreases-convert_unary l = 4 * l.e + 1

abbrev pub invariant-convert_args-loop-cell : goal.invariant-convert_args-loop-cell
invariant-convert_args-loop-cell l = ArgsLeft l.tree l.text l.initial.arena l.initial.scratch (at l.initial.at l.initial.k) l.e l.arena l.scratch l.cell (at l.at l.k) × (length l.k ≡ length l.initial.k)

abbrev pub decreases-convert_args-loop-cell : goal.decreases-convert_args-loop-cell
decreases-convert_args-loop-cell l = left l.cell
