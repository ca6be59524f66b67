-- Each value is fitted to its parameter, in place: what is left owes what the whole owes, and the rest has room.
-- By one turn, and the end. Assumes nothing.
use lib.ListN.{length}
use Rattle.ir.specs.Counted.{counted}
use mathlib.Core.Path.{◌≡◌}
use Rattle.records.specs.Words.{word_of, C}
use Rattle.syntax.specs.Places.{args_at, function_of}
use Rattle.statements.proofs.FitTurns.{FitLeft}
use Rattle.statements.proofs.fits.fit_args.Given as goal

abbrev pub invariant-loop-j : goal.invariant-loop-j
invariant-loop-j l = FitLeft l.tree l.text l.initial.scratch (args_at l.tree l.text (word_of l.tree l.e C)) (function_of l.tree l.text l.f) l.first l.count (counted l.initial.k) l.initial.arena l.j (counted l.k) l.arena l.scratch l.argument l.parameter × (length l.k ≡ length l.initial.k)
