-- The first type among what was asked is the first among what is left, cell by cell.
-- The laws of the typed arguments, and a number that falls with each cell. Assumes nothing.
use mathlib.Core.Path.{◌≡◌}
use mathlib.Core.List.{List}
use Prim.Native.Nat.{ℕ}
use Rattle.conversion.specs.Expressions.{target_type}
use Rattle.syntax.specs.Places.{ArgsAt}
use Rattle.expressions.specs.Calls.{typed_at}
use Rattle.syntax.proofs.Lists.{left}
use Rattle.expressions.proofs.arguments.target_type.Given as goal

abbrev pub invariant-loop-cell : goal.invariant-loop-cell
invariant-loop-cell l = ArgsAt l.tree l.cell × ((s : List ℕ) → target_type (typed_at l.tree l.text s l.first) ≡ target_type (typed_at l.tree l.text s l.cell))

abbrev pub decreases-loop-cell : goal.decreases-loop-cell
decreases-loop-cell l = left l.cell
