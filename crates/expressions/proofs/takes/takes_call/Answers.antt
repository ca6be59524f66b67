-- The count, and then each argument.
-- By the two tests of the definition. Assumes nothing.
use mathlib.Core.Bool.{not}
use mathlib.Core.Path.{ap}
use Rattle.expressions.proofs.TakeLaws.{args-no, args-all}
use Rattle.expressions.proofs.takes.takes_call.Goals as goal

pub returns-then-not-takes_count : goal.returns-then-not-takes_count
returns-then-not-takes_count c = args-no _ _ _ _ _ _ c.takes_count.ensures c.requires.called.counted (ap not c.if-not-takes_count.true)

pub returns : goal.returns
returns c = args-all _ _ _ _ _ _ c.takes_count.ensures c.requires.called.counted (ap not c.if-not-takes_count.false) _ c.parameters_of.ensures.0 _ c.takes_args.ensures
