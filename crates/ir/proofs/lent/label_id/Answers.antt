-- The label of a kind and a record, on the words.
-- What the step by value owes, and the word that was stored. Assumes nothing.
use native.Mathlib.Omega.{arith}
use Rattle.ir.proofs.LentLaws.{ten, label_lent}
use Rattle.ir.proofs.lent.label_id.Goals as goal

pub counters_of-c-requires : goal.counters_of-c-requires
counters_of-c-requires c = ten _ _ c.requires.0

pub bounds-k-3 : goal.bounds-k-3
bounds-k-3 c = omega (arith, ten _ _ c.requires.0)

pub returns : goal.returns
returns c = label_lent _ _ _ c.requires.0 _ c.counters_of-c.ensures _ _ _ c.label_id-found.ensures
