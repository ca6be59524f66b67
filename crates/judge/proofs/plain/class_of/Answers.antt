-- What the list holds that begins at a cell, by the slots that its words lead to.
-- Each return is a case of `PlainClass`. Assumes nothing.
use Rattle.judge.proofs.ListClass.{class_plain}
use Rattle.judge.proofs.PlainClass.{slot_mixed, slot_same}
use Rattle.judge.proofs.plain.class_of.Goals as goal

pub returns-then-k-ne-KIND_LIST : goal.returns-then-k-ne-KIND_LIST
returns-then-k-ne-KIND_LIST c = λ r b few low place. class_plain _ _ _ _ _ _ c.if-k-ne-KIND_LIST.true

pub returns-then-pb-rest : goal.returns-then-pb-rest
returns-then-pb-rest c = λ r b few low place. slot_mixed _ c.args.known.now _ _ _ _ _ _ _ few c.if-k-ne-KIND_LIST.false place c.index.ensures (low c.if-k-ne-KIND_LIST.false) c.item_of-item.ensures c.if-pb-rest.true

pub returns : goal.returns
returns c = λ r b few low place. slot_same _ c.args.known.now _ _ _ _ _ _ _ few c.if-k-ne-KIND_LIST.false place c.index.ensures (low c.if-k-ne-KIND_LIST.false) c.item_of-item.ensures c.if-pb-rest.false
