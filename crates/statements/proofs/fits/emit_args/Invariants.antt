-- An Arg for each value: what is left owes what the whole owes, and the rest has room.
-- By one turn, and the end. Assumes nothing.
use mathlib.Core.Path.{◌≡◌}
use lib.ListN.{length}
use Rattle.ir.specs.Counted.{counted}
use Rattle.records.specs.Words.{records}
use Rattle.statements.proofs.FitTurns.{EmitLeft}
use Rattle.statements.proofs.fits.emit_args.Given as goal

abbrev pub invariant-loop-j : goal.invariant-loop-j
invariant-loop-j l = EmitLeft l.scratch (records l.tree) l.first l.count (counted l.initial.k) l.initial.arena l.j (counted l.k) l.arena × (length l.k ≡ length l.initial.k)
