-- Where the loop begins both arrays are as long as they were made.
-- By the length of an array of zeros. Assumes nothing.
use mathlib.Core.Path.{◌≡◌}
use Prim.Native.Nat.{ℕ}
use native.Mathlib.Omega.{arith}
use lib.ListN.{length, replicate, length-replicate}
use Rattle.convert_replay.proofs.replay.Goals as goal

zeros : (n : ℕ) → length (replicate {A = ℕ} n 0) ≡ n
zeros n = length-replicate n 0

pub loop-cases-init : goal.loop-cases-init
loop-cases-init c = (zeros 104, zeros 620000, omega arith)
