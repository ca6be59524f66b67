-- The functions' records stand in scratch. The invariant: those of the records passed are listed, and counted. The measure is what is left.
-- The laws of the list, one record at a time. Assumes nothing.
use mathlib.Core.Path.{refl, sym, ◌∙◌}
use Rattle.functions.proofs.Listing.{listing_start, listing_skip, listing_put, listing_end}
use Rattle.functions.proofs.functions.list_functions.Goals.{else-kind-eq-KIND_FUNCTION, then-kind-eq-KIND_FUNCTION}
use Rattle.functions.proofs.functions.list_functions.Goals as goal

pub loop-r-init : goal.loop-r-init
loop-r-init c = listing_start _ _ _ refl

pub loop-r-preserved : goal.loop-r-preserved
loop-r-preserved c = elim c.if-kind-eq-KIND_FUNCTION.branch [
  | then-kind-eq-KIND_FUNCTION w ↦ rw w.count-is
      (listing_put _ _ _ _ _ _ c.loop-r.invariant c.loop-r-test.true c.requires.tree_in_bounds _ (w.scratch-is ∙ w.put_word.ensures) (sym c.kind.ensures ∙ w.if-kind-eq-KIND_FUNCTION.true))
  | else-kind-eq-KIND_FUNCTION w ↦ rw (w.scratch-is, w.count-is)
      (listing_skip _ _ _ _ _ _ c.loop-r.invariant c.loop-r-test.true (λ e. w.if-kind-eq-KIND_FUNCTION.false (c.kind.ensures ∙ e)))
]

pub returns : goal.returns
returns c = listing_end _ _ _ _ _ _ c.loop-r.invariant c.loop-r-test.false
