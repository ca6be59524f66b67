-- Which list a record may stand in, by its kind.
-- Each return is a case of the definition. Assumes nothing.
use Rattle.judge.proofs.ListClass.{item_argument, item_statement, item-none, item_untyped, item-typed}
use Rattle.judge.proofs.rules.item_class.Goals as goal

pub returns-then-k : goal.returns-then-k
returns-then-k c = item_argument _ _ _ c.kind-k.ensures c.if-k.true

pub returns-then-k-2 : goal.returns-then-k-2
returns-then-k-2 c = item_statement _ _ _ c.kind-k.ensures c.if-k.false c.if-k-2.true

pub returns-then-k-ne-KIND_VARIABLE : goal.returns-then-k-ne-KIND_VARIABLE
returns-then-k-ne-KIND_VARIABLE c = item-none _ _ _ c.kind-k.ensures c.if-k.false c.if-k-2.false c.if-k-ne-KIND_VARIABLE.true

pub returns-then-word : goal.returns-then-word
returns-then-word c = item_untyped _ _ _ c.kind-k.ensures c.if-k.false c.if-k-2.false c.if-k-ne-KIND_VARIABLE.false _ c.word.ensures c.if-word.true

pub returns : goal.returns
returns c = item-typed _ _ _ c.kind-k.ensures c.if-k.false c.if-k-2.false c.if-k-ne-KIND_VARIABLE.false _ c.word.ensures c.if-word.false
