-- The variable that a For changes: one of the blocks around, which may not be constant.
-- By what the search finds. Assumes nothing.
use Rattle.statements.proofs.ForLaws.{variable-asked, known-not, known_fixed, known_is}
use Rattle.statements.proofs.loops.for_known.Goals as goal

pub find_name-requires : goal.find_name-requires
find_name-requires c = variable-asked c.requires.ready c.requires.kind.0 c.requires.kind.1

pub returns-then-known : goal.returns-then-known
returns-then-known c = λ k l x. known_fixed _ x c.requires.kind.1 c.requires.kind.2 _ c.find_name.ensures c.in-Some.is c.if-known.true c.error_at.ensures

pub returns-in-None : goal.returns-in-None
returns-in-None c = λ k l x. known-not _ x c.requires.kind.1 c.requires.kind.2 _ c.find_name.ensures c.in-None.is c.error_at-in-None.ensures

pub returns-else-known : goal.returns-else-known
returns-else-known c = λ k l x. known_is _ x c.requires.kind.1 c.requires.kind.2 _ c.find_name.ensures c.in-Some.is c.if-known.false
