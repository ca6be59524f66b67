-- The entry that the slot says, where it is open and has the two words.
-- By what `load` ensures of the slot and `entry_is` of the entry. Assumes nothing.
use mathlib.Core.Path.{refl, ◌∙◌}
use borrow.Author.Tests.{lt-ltb, le-ltb}
use Rattle.scope.proofs.Names.{said_tested}
use Rattle.scope.proofs.open_at.Goals.{then-j-count, else-j-count}
use Rattle.scope.proofs.open_at.Goals as goal

pub returns : goal.returns
returns c = c.then_some.ensures ∙ said_tested _ _ _ _ _ _ _ (c.index-j.ensures ∙ c.load.ensures) _
    (elim c.if-j-count.branch [
      | then-j-count w ↦ rw (lt-ltb _ _ w.if-j-count.true) (w.then_some-is ∙ w.entry_is.ensures)
      | else-j-count w ↦ rw (w.then_some-is, le-ltb _ _ w.if-j-count.false) refl
    ])
