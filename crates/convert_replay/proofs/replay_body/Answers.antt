-- Tree, text and tables are parts of the body: the tree and the text end within it.
-- By `search rules`, and since the test says that the body is no shorter than both. Assumes nothing.
use mathlib.Core.Path.{sym}
use native.Mathlib.Omega.{arith}
use lib.Seq.{length-take-le}
use Rattle.convert_replay.proofs.replay_body.Goals as goal

pub slice_bounds-replay_case-end : goal.slice_bounds-replay_case-end
slice_bounds-replay_case-end c = sym (length-take-le _ _ (omega arith))
