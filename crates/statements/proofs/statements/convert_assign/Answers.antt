-- An Init of a known name: refused where that is constant.
-- By the choice of the definition. Assumes nothing.
use Rattle.statements.proofs.PlainTurns.{refused-stated}
use Rattle.statements.proofs.InitLaws.{assign-constant, assign_plain}
use Rattle.statements.proofs.statements.convert_assign.Goals as goal

pub returns-then-known : goal.returns-then-known
returns-then-known c = record { states_as = assign-constant c.args.r c.args.known.var c.if-known.true c.error_at.ensures; types = refused-stated }

pub returns : goal.returns
returns c = record { states_as = assign_plain c.args.r c.args.known.var c.if-known.false c.assign_to.ensures.states_as; types = c.assign_to.ensures.types }
