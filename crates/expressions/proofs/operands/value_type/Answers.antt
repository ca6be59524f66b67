-- `value_type` meets its contract: the cast's type, or the function's return type, or a refusal.
-- By the callee, and by the function's word D. Assumes nothing.
use mathlib.Core.Path.{ap, ◌∙◌}
use Rattle.std.specs.Prelude.{Ok}
use Rattle.expressions.proofs.LeafLaws.{value-refused, value-cast, value_none, value_some}
use Rattle.expressions.proofs.operands.value_type.Goals as goal

pub returns-then-y : goal.returns-then-y
returns-then-y c = value_none _ _ c.requires.good _ _ c.requires.callee _ (c.in-Ok-Function.is ∙ ap Ok (rw c.in-Ok-Function.is at c.in-Ok-Function.field-0-is)) _ c.reference-y.ensures c.if-y.true _ c.refuse.ensures

pub returns-in-Err : goal.returns-in-Err
returns-in-Err c = value-refused _ _ c.requires.good _ _ c.requires.callee _ c.in-Err.is

pub returns-in-Ok-Cast : goal.returns-in-Ok-Cast
returns-in-Ok-Cast c = value-cast _ _ c.requires.good _ _ c.requires.callee _ (c.in-Ok-Cast.is ∙ ap Ok (rw c.in-Ok-Cast.is at c.in-Ok-Cast.field-0-is))

pub returns-else-y : goal.returns-else-y
returns-else-y c = value_some _ _ c.requires.good _ _ c.requires.callee _ (c.in-Ok-Function.is ∙ ap Ok (rw c.in-Ok-Function.is at c.in-Ok-Function.field-0-is)) _ c.reference-y.ensures c.if-y.false
