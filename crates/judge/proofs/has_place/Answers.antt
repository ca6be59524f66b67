-- Whether a refusal has a place. Assumes nothing.
use Rattle.std.proofs.Common.{rules}
use Rattle.judge.specs.Keeps.{placed}
use Rattle.judge.proofs.has_place.Goals as goal

pub returns : goal.returns
unfolding placed
returns c = search rules
