-- `callee_record` meets its contract: the record of each answer.
-- By the cases of the answer. Assumes nothing.
use mathlib.Core.Path.{sym, ap, ◌∙◌}
use Rattle.std.specs.Prelude.{Ok}
use Rattle.expressions.specs.Answers.{callee_record}
use Rattle.expressions.proofs.calls.callee_record.Goals as goal

pub returns-in-Function : goal.returns-in-Function
unfolding callee_record
returns-in-Function c = sym (ap callee_record (c.in-Ok.is ∙ ap Ok c.in-Function.is))

pub returns-in-Cast : goal.returns-in-Cast
unfolding callee_record
returns-in-Cast c = sym (ap callee_record (c.in-Ok.is ∙ ap Ok c.in-Cast.is))

pub returns-in_default : goal.returns-in_default
unfolding callee_record
returns-in_default c = sym (ap callee_record c.in_default.is)
