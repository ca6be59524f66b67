-- N eights, side by side. The invariant: the eights before the one at hand are the same just if the mark says so. Assumes nothing.
use Rattle.std.proofs.Common.{◌≡◌, ◌*◌}
use Rattle.records.specs.Words.{text_at, same_text}
use Rattle.records.proofs.texts.same_eights.Given as goal

abbrev pub invariant-loop-k : goal.invariant-loop-k
invariant-loop-k g l = l.same ≡ same_text (text_at l.s l.i (8 * l.k)) (text_at l.t l.j (8 * l.k))
