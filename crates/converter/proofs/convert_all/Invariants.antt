-- All functions are converted one after the other: those done stand in the arena, and what was asked equals what is left from the place at hand on.
-- The laws of the loop: the start, one function more, a refusal, the end. Assumes nothing.
use mathlib.Core.Path.{◌≡◌}
use lib.ListN.{length}
use Rattle.ir.specs.Counted.{counted}
use Rattle.converter.proofs.AllLaws.{SoFar}
use Rattle.converter.proofs.convert_all.Given as goal

abbrev pub invariant-loop-j : goal.invariant-loop-j
invariant-loop-j l = SoFar l.tree l.text l.initial.arena l.initial.scratch l.count (counted l.k) l.j l.arena l.scratch × (length l.k ≡ length l.initial.k)
