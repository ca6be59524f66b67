-- A label more: its number at its slot, and its entry behind the others.
-- The two writes one after the other. Assumes nothing.
use mathlib.Core.Path.{refl}
use borrow.Author.Rules.{rules}
use Rattle.ir.proofs.SlotLaws.{label_writes}
use Rattle.ir.proofs.counter.add_label.Goals as goal

pub returns : goal.returns
returns c = (
  search rules,
  record {
    counts = refl;
    wrote = label_writes _ _ _ _ _ _ _ _ _
        c.label_slot-slot.ensures
        c.put_word.ensures
        c.put_pair.ensures;
  },
)
