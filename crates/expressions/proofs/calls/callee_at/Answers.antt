-- `callee_at` meets its contract: the record's kind tells a function from a type.
-- By `function-stands` and `cast-stands` of TypingLaws. Assumes nothing.
use mathlib.Core.Path.{sym, ◌∙◌}
use Rattle.expressions.proofs.TypingLaws.{function-stands, cast-stands}
use Rattle.expressions.proofs.calls.callee_at.Goals as goal

pub returns-then-kind-eq-KIND_FUNCTION : goal.returns-then-kind-eq-KIND_FUNCTION
returns-then-kind-eq-KIND_FUNCTION c = function-stands _ _ c.requires.function_at (sym c.kind.ensures ∙ c.if-kind-eq-KIND_FUNCTION.true)

pub returns : goal.returns
returns c = cast-stands _ _ c.requires.function_at (λ q. c.if-kind-eq-KIND_FUNCTION.false (c.kind.ensures ∙ q))
