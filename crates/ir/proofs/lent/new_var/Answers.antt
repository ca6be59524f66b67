-- A variable more, on the words.
-- What the step by value owes, and the word that was stored. Assumes nothing.
use native.Mathlib.Omega.{arith}
use Rattle.ir.proofs.LentLaws.{ten, var_lent}
use Rattle.ir.proofs.lent.new_var.Goals as goal

pub counters_of-c-requires : goal.counters_of-c-requires
counters_of-c-requires c = ten _ _ c.requires.0

pub bounds-k-2 : goal.bounds-k-2
bounds-k-2 c = omega (arith, ten _ _ c.requires.0)

pub returns : goal.returns
returns c = var_lent _ _ _ c.requires.0 _ c.counters_of-c.ensures _ _ c.new_var-made.ensures
