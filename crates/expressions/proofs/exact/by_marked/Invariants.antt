-- The function whose key is a prefix with `$...`, where it is mangled: the chain of its digest is walked. The invariant: no function met so far has it as its key.
-- By the laws of a walk along a chain of keys; the measure is the place. Assumes nothing.
use mathlib.Core.List.{◌++◌}
use Rattle.conversion.specs.Expressions.{variadic_mark}
use Rattle.keys.proofs.FoundLaws.{KeyWalk}
use Rattle.expressions.specs.Calls.{name_of}
use Rattle.expressions.proofs.exact.by_marked.Given as goal

abbrev pub invariant-loop-at : goal.invariant-loop-at
invariant-loop-at l = KeyWalk l.tree l.text (name_of l.tree l.text l.scratch l.call l.k ++ variadic_mark) l.digest l.at

abbrev pub decreases-loop-at : goal.decreases-loop-at
decreases-loop-at l = l.at
