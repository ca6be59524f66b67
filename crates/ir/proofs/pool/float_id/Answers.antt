-- The float with these bits and this mark.
-- What a walk through its bucket found, or a float more. Assumes nothing.
use mathlib.Core.Path.{refl}
use native.Mathlib.Omega.{arith}
use Rattle.ir.proofs.Answers.{float_at, float_nowhere}
use Rattle.ir.proofs.LinkLaws.{walk_below}
use Rattle.conversion.specs.Written.{bool_number}
use borrow.Author.Rules.{rules}
use Rattle.ir.proofs.pool.float_id.Goals as goal

pub overflow_cast-result : goal.overflow_cast-result
overflow_cast-result c = omega (arith, walk_below c.walk_float.ensures _ c.in-Some.is, c.float_head-last.ensures.1, c.requires.0.floats_in, c.requires.0.small)

pub returns-in-Some : goal.returns-in-Some
unfolding bool_number
returns-in-Some c = float_at _ _ c.entry_bits-e.ensures _ _ _ _ _ _ _ _ c.requires.0
    c.low.ensures
    c.high.ensures
    (search rules)
    c.float_bucket-b.ensures
    c.float_head-last.ensures
    c.walk_float.ensures
    _ _ c.in-Some.is refl refl

pub returns-in-None : goal.returns-in-None
unfolding bool_number
returns-in-None c = float_nowhere _ _ c.entry_bits-e.ensures _ _ _ _ _ _ _ _ c.requires.0
    c.low.ensures
    c.high.ensures
    (search rules)
    c.float_bucket-b.ensures
    c.float_head-last.ensures
    c.walk_float.ensures
    _ _ c.requires.1 c.in-None.is c.add_float.ensures
