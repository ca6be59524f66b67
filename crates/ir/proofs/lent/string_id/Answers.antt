-- The string at this place, on the words.
-- What the step by value owes, and the word that was stored. Assumes nothing.
use native.Mathlib.Omega.{arith}
use Rattle.ir.proofs.LentLaws.{ten, string_lent}
use Rattle.ir.proofs.lent.string_id.Goals as goal

pub counters_of-c-requires : goal.counters_of-c-requires
counters_of-c-requires c = ten _ _ c.requires.0

pub bounds-k-5 : goal.bounds-k-5
bounds-k-5 c = omega (arith, ten _ _ c.requires.0)

pub returns : goal.returns
returns c = string_lent _ _ _ c.requires.0 _ c.counters_of-c.ensures _ _ _ _ c.string_id-found.ensures
