-- A call over buffers of the lent lengths is safe, and every buffer keeps its length.
-- By `search rules`, and since the call keeps the lengths. Assumes nothing.
use Prim.Native.Nat.{◌<◌}
use native.Mathlib.Omega.{arith}
use Rattle.convert_replay.proofs.replay_lent.Goals as goal

below_0 : 0 < 7
below_0 = omega arith

below_1 : 1 < 7
below_1 = omega arith

below_2 : 2 < 7
below_2 = omega arith

below_3 : 3 < 7
below_3 = omega arith

below_4 : 4 < 7
below_4 = omega arith

below_5 : 5 < 7
below_5 = omega arith

below_6 : 6 < 7
below_6 = omega arith

pub buffer_left-requires : goal.buffer_left-requires
buffer_left-requires c = (c.requires, below_0)

pub buffer_left-requires-2 : goal.buffer_left-requires-2
buffer_left-requires-2 c = (c.requires, below_1)

pub buffer_left-requires-3 : goal.buffer_left-requires-3
buffer_left-requires-3 c = (c.requires, below_2)

pub buffer_left-requires-4 : goal.buffer_left-requires-4
buffer_left-requires-4 c = (c.requires, below_3)

pub buffer_left-requires-5 : goal.buffer_left-requires-5
buffer_left-requires-5 c = (c.requires, below_4)

pub buffer_left-requires-6 : goal.buffer_left-requires-6
buffer_left-requires-6 c = (c.requires, below_5)

pub buffer_left-requires-7 : goal.buffer_left-requires-7
buffer_left-requires-7 c = (c.requires, below_6)
