-- The types that stand before the first other record are counted. The loop's invariant: every record passed is a type.
-- Each record's kind is what `kind` ensures. Assumes nothing.
use Prim.Native.Nat.{ℕ, ◌<◌}
use mathlib.Core.Path.{◌≡◌}
use Rattle.records.specs.Words.{kind_of}
use Rattle.judge.proofs.types.leading_types.Given as goal

abbrev pub invariant-loop-i : goal.invariant-loop-i
invariant-loop-i l = (k : ℕ) → k < l.i → kind_of l.tree k ≡ 1
