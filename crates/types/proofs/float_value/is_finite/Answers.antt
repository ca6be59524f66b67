-- x - x equals itself exactly where x is finite: a law of `FloatFacts`. Assumes nothing.
use Rattle.types.proofs.FloatFacts.{finite-is}
use Rattle.types.proofs.float_value.is_finite.Goals as goal

pub returns : goal.returns
returns c = finite-is c.args.x
