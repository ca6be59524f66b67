-- After i turns the first i bytes are copied, and the rest is as found.
-- One turn is the law of a copy. Assumes nothing.
use native.Mathlib.Omega.{arith}
use lib.ListN.{length-set}
use Rattle.ir.proofs.CutLaws.{copy_more}
use Rattle.ir.proofs.cut.copy.Goals as goal

pub loop-i-preserved : goal.loop-i-preserved
loop-i-preserved c = let entry = c.args in
    let i = c.loop-i.i in (
      rw c.loop-i.invariant.0 (copy_more entry.out.now entry.src.now entry.from i (omega arith) (omega arith)),
      simp length-set c.loop-i.invariant.1,
    )
