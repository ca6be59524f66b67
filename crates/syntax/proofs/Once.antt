-- In a tree whose records all keep the rules, the functions together meet no expression record twice.
-- Such records are complete and referred to at most once, so what q weighs is held at most once. Assumes nothing.
use mathlib.Core.Path.{◌≡◌}
use mathlib.Core.Bool.{true}
use mathlib.Core.List.{List}
use Prim.Native.Nat.{ℕ, ◌≤◌, ◌<◌}
use Rattle.laws.specs.Different.{occurs}
use Rattle.records.specs.Words.{records}
use Rattle.records.specs.Rules.{record_ok}
use Rattle.syntax.specs.Exprs.{all_exprs}
use Rattle.syntax.specs.Decode.{program}
use Rattle.syntax.proofs.Held.{functions-once}
use Rattle.syntax.proofs.Judged.{judged_complete, judged-once}

pub judged-occurs : (tree text : List ℕ) → ((r : ℕ) → r < records tree → record_ok tree text r ≡ true)
    → (q : ℕ) → occurs q (all_exprs (program tree text).functions) ≤ 1
unfolding program
judged-occurs tree text ok q = functions-once tree text (records tree) q (judged_complete tree text ok) (judged-once tree text ok)
