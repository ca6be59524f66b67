-- What is counted and what is left make the whole, cell by cell.
-- The laws of cells, and a number that falls with each. Assumes nothing.
use mathlib.Core.Path.{◌≡◌}
use mathlib.Core.Logic.{◌⊎◌}
use mathlib.Core.List.{List}
use Prim.Native.Nat.{ℕ, ◌+◌, ◌≤◌}
use lib.ListN.{length}
use Rattle.records.specs.Words.{records}
use Rattle.syntax.specs.Places.{ArgsAt, ParamsAt, params_at}
use Rattle.expressions.specs.Calls.{typed_at}
use Rattle.syntax.proofs.Lists.{left}
use Rattle.expressions.proofs.arguments.count_cells.Given as goal

abbrev pub invariant-loop-cell : goal.invariant-loop-cell
invariant-loop-cell l = (ArgsAt l.tree l.cell ⊎ ParamsAt l.tree l.cell) × (l.n + left l.cell ≤ records l.tree)
    × (ArgsAt l.tree l.first → ArgsAt l.tree l.cell × ((s : List ℕ) → length (typed_at l.tree l.text s l.first) ≡ l.n + length (typed_at l.tree l.text s l.cell)))
    × (ParamsAt l.tree l.first → ParamsAt l.tree l.cell × (length (params_at l.tree l.text l.first) ≡ l.n + length (params_at l.tree l.text l.cell)))

abbrev pub decreases-loop-cell : goal.decreases-loop-cell
decreases-loop-cell l = left l.cell
