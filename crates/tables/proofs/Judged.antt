-- The tables of a tree each of whose records has what it must lead to, and is referred to at most once, are read back: no premise on counts.
-- By the theorem that the sizes suffice. Assumes nothing.
use mathlib.Core.Path.{◌≡◌}
use Prim.Native.Nat.{ℕ, ◌<◌}
use mathlib.Core.Bool.{Bool}
use mathlib.Core.List.{List}
use Rattle.records.specs.Words.{records}
use Rattle.syntax.specs.Decode.{program}
use Rattle.syntax.proofs.Held.{Complete, Once}
use Rattle.conversion.specs.ConvertError.{ok}
use Rattle.conversion.specs.Ir.{IrProgram}
use Rattle.conversion.specs.Converter.{convert}
use Rattle.conversion.specs.Written.{counts_of}
use Rattle.conversion.proofs.Sizes.{Suffice, tree_suffices}
use Rattle.tables.proofs.Exists.{CountsFit}
use Rattle.tables.proofs.ReadBack.{counts-fit}

module _ (tree text : List ℕ) (needsMain : Bool) (few : records tree < 1073741824) (complete : (r : ℕ) → r < records tree → Complete tree text r)
    (once : (j : ℕ) → j < records tree → Once tree text (records tree) j) where
  pub judged-counts : (p : IrProgram) → convert (program tree text) needsMain ≡ ok p → CountsFit (counts_of p)
  judged-counts p e =
      let s : Suffice (records tree) p = rw e at (tree_suffices tree text needsMain complete once) in
      counts-fit (records tree) p few s.functions s.instructions s.variables s.labels s.strings s.floats
