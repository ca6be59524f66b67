-- What differs from itself is a NaN: a law of `FloatFacts`. Assumes nothing.
use mathlib.Core.Path.{refl}
use Rattle.types.specs.Floats.{float_of}
use Rattle.types.proofs.FloatFacts.{told_nan}
use Rattle.types.proofs.float_value.nan_apart.Goals as goal

pub returns-then-x : goal.returns-then-x
unfolding float_of
returns-then-x c = refl

pub returns : goal.returns
returns c = told_nan _ c.if-x.false
