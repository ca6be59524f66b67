-- The label of a kind and a record.
-- It is the one under the number at its slot, or a label more. Assumes nothing.
use mathlib.Core.Path.{refl}
use Rattle.ir.proofs.Answers.{label_found, label_new}
use Rattle.ir.proofs.counter.number_label.Goals as goal

pub returns-then-is_label : goal.returns-then-is_label
returns-then-is_label c = label_found _ _ _ _ c.requires.0 _ _ c.label_slot.ensures c.load-number.ensures
    _ _ c.is_label.ensures c.if-is_label.true refl refl

pub returns : goal.returns
returns c = label_new _ _ _ _ c.requires.0 _ _ c.label_slot.ensures c.load-number.ensures
    _ _ _ c.requires.1 c.requires.2 c.is_label.ensures c.if-is_label.false c.add_label.ensures
