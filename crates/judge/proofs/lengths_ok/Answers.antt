-- Row 'lengths'.
-- The code's tests are those of the definition, in its order. Assumes nothing.
use mathlib.Core.Path.{refl}
use Rattle.judge.specs.Judge.{lengths_ok}
use Rattle.judge.proofs.lengths_ok.Goals as goal

pub returns : goal.returns
unfolding lengths_ok
returns c = refl
