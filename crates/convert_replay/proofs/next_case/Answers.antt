-- The case's body is read into the start of its room, which is no shorter, and lent from there.
-- By the length of such a part, before and after the read. Assumes nothing.
use mathlib.Core.Path.{sym}
use lib.Seq.{length-take-le}
use Rattle.convert_replay.proofs.next_case.Goals as goal

pub slice_bounds-read_full-end-2 : goal.slice_bounds-read_full-end-2
slice_bounds-read_full-end-2 c = sym (length-take-le _ _ c.if-body-len.false)
