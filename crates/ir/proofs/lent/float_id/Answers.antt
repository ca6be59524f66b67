-- The float of these bits and this mark, on the words.
-- What the step by value owes, and the word that was stored. Assumes nothing.
use native.Mathlib.Omega.{arith}
use Rattle.ir.proofs.LentLaws.{ten, float_lent}
use Rattle.ir.proofs.lent.float_id.Goals as goal

pub counters_of-c-requires : goal.counters_of-c-requires
counters_of-c-requires c = ten _ _ c.requires.0

pub bounds-k-6 : goal.bounds-k-6
bounds-k-6 c = omega (arith, ten _ _ c.requires.0)

pub returns : goal.returns
returns c = float_lent _ _ _ c.requires.0 _ c.counters_of-c.ensures _ _ c.float_id-found.ensures
