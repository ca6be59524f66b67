-- `get_type`, `work_out`, `find_callee` and `get_argument_types` meet their contracts. Their measures are 4e + 3, 4e + 2, 4r + 1 and 4r: a call goes to a lower record, or
-- down this order. Each need is a law of TypingLaws or of ArgumentTurns; the loop's invariant is `Left`, its measure the cell's number. Assumes nothing.
use Prim.Native.Nat.{suc, ◌+◌, ◌*◌}
use lib.Dec.{eqb}
use Rattle.laws.specs.Fix.{pick}
use Rattle.expressions.proofs.ArgumentTurns.{Left}
use Rattle.expressions.proofs.expressions.+find_callee_get_argument_types_get_type_work_out.Given as goal

abbrev pub decreases-get_argument_types : goal.decreases-get_argument_types
decreases-get_argument_types l = 4 * l.r

abbrev pub decreases-get_type : goal.decreases-get_type
decreases-get_type l = 4 * l.e + 3

abbrev pub decreases-find_callee : goal.decreases-find_callee
decreases-find_callee l = 4 * l.r + 1

abbrev pub decreases-work_out : goal.decreases-work_out
decreases-work_out l = 4 * l.e + 2

abbrev pub invariant-get_argument_types-loop-cell : goal.invariant-get_argument_types-loop-cell
invariant-get_argument_types-loop-cell l = Left l.tree l.text l.initial.scratch l.scope l.turn l.r l.scratch l.cell

abbrev pub decreases-get_argument_types-loop-cell : goal.decreases-get_argument_types-loop-cell
decreases-get_argument_types-loop-cell l = pick (eqb l.cell 4294967295) 0 (suc l.cell)
