-- The number of a record's text: the entry that the walk found, or the record, which is then entered where the walk stopped.
-- By the laws of the pass, over what the walk and the writing ensure. Assumes nothing.
use native.Mathlib.Omega.{arith}
use Rattle.records.proofs.EntryLaws.{chain-leads}
use Rattle.texts.proofs.PassLaws.{number-told, number-within, found-entered, place_inside, new-entered}
use borrow.Author.Rules.{rules}
use Rattle.texts.proofs.number_text.Goals.{then-place-r, else-place-r}
use Rattle.texts.proofs.number_text.Goals as goal

pub find_place-place-requires : goal.find_place-place-requires
find_place-place-requires c = record { chain_room = (record { few = c.requires.good.0.few; room = omega (arith, c.requires.good.1) }, omega (arith, c.requires.good.0.whole), c.requires.r_bound.0, omega (arith, c.requires.good.1, c.requires.r_bound.3)); leads = chain-leads _ _ _ _ _ c.requires.chains _ c.requires.r_bound.0 c.requires.r_bound.3 c.requires.r_bound.2 }

pub load-next-requires : goal.load-next-requires
load-next-requires c = omega (arith, place_inside _ _ _ _ c.requires.r_bound.0 c.requires.r_bound.1 c.requires.r_bound.2 c.requires.r_bound.3 _ c.requires.chains _ _ _ c.find_place-place.ensures c.if-place-r.true, c.requires.good.1, c.requires.r_bound.0)

pub enter_at-requires : goal.enter_at-requires
enter_at-requires c = (record { few = c.requires.good.0.few; room = omega (arith, c.requires.good.1) }, c.requires.r_bound.0, omega (arith, place_inside _ _ _ _ c.requires.r_bound.0 c.requires.r_bound.1 c.requires.r_bound.2 c.requires.r_bound.3 _ c.requires.chains _ _ _ c.find_place-place.ensures c.if-place-r.true, c.requires.good.1, c.requires.r_bound.0))

pub overflow_cast-result : goal.overflow_cast-result
overflow_cast-result c = omega (arith, number-within _ _ _ _ c.requires.r_bound.0 c.requires.r_bound.1 c.requires.r_bound.2 c.requires.r_bound.3 _ c.requires.chains _ _ _ c.find_place-place.ensures, c.requires.good.0.few, c.requires.r_bound.0)

pub returns : goal.returns
returns c = let belongs = c.find_place-place.ensures in (
  number-told _ _ _ _ c.requires.r_bound.0 c.requires.r_bound.1 c.requires.r_bound.2 c.requires.r_bound.3 _ c.requires.chains _ _ _ belongs,
  elim c.if-place-r.branch [
    | then-place-r w ↦ rw w.scratch-is (new-entered _ _ _ _ c.requires.r_bound.0 c.requires.r_bound.1 c.requires.r_bound.2 c.requires.r_bound.3 _ c.requires.chains _ _ _ belongs w.if-place-r.true _ _ (record { few = c.requires.good.0.few; room = omega (arith, c.requires.good.1) }) (search rules) (search rules) w.load-next.ensures w.enter_at.ensures)
    | else-place-r w ↦ rw w.scratch-is (found-entered _ _ _ _ c.requires.r_bound.0 c.requires.r_bound.1 c.requires.r_bound.2 c.requires.r_bound.3 _ c.requires.chains _ _ _ belongs w.if-place-r.false)
  ],
)
