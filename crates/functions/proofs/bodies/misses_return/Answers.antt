-- `misses_return` meets its contract: there is a return type, and the body does not always return.
-- By the word of the return type, and by what `always_returns` ensures. Assumes nothing.
use Rattle.functions.proofs.BodyLaws.{misses_none, misses_some, body-list}
use Rattle.functions.proofs.bodies.misses_return.Goals as goal

pub returns-then-reference : goal.returns-then-reference
returns-then-reference c = misses_none c.requires.0 c.requires.1 c.reference.ensures c.if-reference.true

pub always_returns-requires : goal.always_returns-requires
always_returns-requires c = (c.requires.0, body-list c.requires.0 c.requires.1 c.reference-2.ensures)

pub returns : goal.returns
returns c = misses_some c.requires.0 c.requires.1 c.reference.ensures c.if-reference.false c.reference-2.ensures c.always_returns.ensures
