-- The first entry that is these words, of those that a chain leads through.
-- What is left of the walk gives what was asked. Assumes nothing.
use Prim.Native.Nat.{ℕ, ◌+◌, ◌*◌, ◌≤◌}
use Rattle.records.specs.Words.{word_at}
use Rattle.std.specs.Prelude.{Option as StdOption}
use Rattle.ir.specs.Search.{float_words_at, Walks}
use Rattle.ir.proofs.search.walk_float.Given as goal

abbrev pub invariant-loop-u : goal.invariant-loop-u
invariant-loop-u l = (l.u ≤ l.v) × ((r : StdOption ℕ) → Walks (λ (j : ℕ). word_at l.s (l.links + 4 * j)) (float_words_at l.s l.at l.w.0 l.w.1 l.w.2) l.u r → Walks (λ (j : ℕ). word_at l.s (l.links + 4 * j)) (float_words_at l.s l.at l.w.0 l.w.1 l.w.2) l.v r)

abbrev pub decreases-loop-u : goal.decreases-loop-u
decreases-loop-u l = l.u
