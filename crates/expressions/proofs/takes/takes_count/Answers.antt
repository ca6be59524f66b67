-- As many as the parameters, or more when variadic: by the two tests.
-- The laws of the count. Assumes nothing.
use Rattle.expressions.proofs.TakeLaws.{count_same, count-variadic, count_plain}
use Rattle.expressions.proofs.takes.takes_count.Goals as goal

pub returns-then-own-count : goal.returns-then-own-count
returns-then-own-count c = count_same _ _ _ _ c.parameters_of.ensures.0 c.count_parameters-own.ensures c.if-own-count.true

pub returns-then-is_variadic : goal.returns-then-is_variadic
returns-then-is_variadic c = count-variadic _ _ _ _ c.parameters_of.ensures.0 c.count_parameters-own.ensures c.if-own-count.false _ c.is_variadic.ensures c.if-is_variadic.true

pub returns : goal.returns
returns c = count_plain _ _ _ _ c.parameters_of.ensures.0 c.count_parameters-own.ensures c.if-own-count.false _ c.is_variadic.ensures c.if-is_variadic.false
