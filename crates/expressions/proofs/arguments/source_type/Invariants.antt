-- The type of the first expression among what was asked is that of the first among what is left, cell by cell.
-- The laws of the typed arguments, and a number that falls with each cell. Assumes nothing.
use mathlib.Core.Path.{◌≡◌}
use Rattle.conversion.specs.Expressions.{source_type}
use Rattle.syntax.specs.Places.{ArgsAt, args_at}
use Rattle.expressions.specs.Slots.{ArgsTyped}
use Rattle.expressions.specs.Calls.{typed_at}
use Rattle.syntax.proofs.Lists.{left}
use Rattle.expressions.proofs.arguments.source_type.Given as goal

abbrev pub invariant-loop-cell : goal.invariant-loop-cell
invariant-loop-cell l = ArgsAt l.tree l.cell × ArgsTyped l.tree l.scratch (args_at l.tree l.text l.cell) × (source_type (typed_at l.tree l.text l.scratch l.first) ≡ source_type (typed_at l.tree l.text l.scratch l.cell))

abbrev pub decreases-loop-cell : goal.decreases-loop-cell
decreases-loop-cell l = left l.cell
