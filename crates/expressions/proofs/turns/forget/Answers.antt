-- `forget` clears the bytes of the turns and of what is kept beside the types, with the count of visits.
-- By the laws of a part that is written. Assumes nothing.
use native.Mathlib.Omega.{arith}
use Rattle.expressions.proofs.ForgetLaws.{forgotten}
use Rattle.expressions.proofs.turns.forget.Goals as goal

pub returns : goal.returns
returns c = forgotten _ _ c.requires _ (omega arith) _ (c.fill.ensures.after (λ y e. e))
