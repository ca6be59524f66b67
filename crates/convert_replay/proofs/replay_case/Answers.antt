-- Each array is lent whole: as long as it was made.
-- By the length of an array of one byte. Assumes nothing.
use Prim.Native.Nat.{ℕ}
use mathlib.Core.Path.{◌≡◌, sym}
use lib.ListN.{length, get_or, replicate, length-replicate}
use Rattle.convert_replay.proofs.replay_case.Goals as goal

filled : (n byte : ℕ) → n ≡ length (replicate {A = ℕ} n byte)
filled n byte = sym (length-replicate n byte)

pub slice_bounds-replay_room-end : goal.slice_bounds-replay_room-end
slice_bounds-replay_room-end c = filled 655800 (get_or c.args.head.now 40 0)

pub slice_bounds-replay_room-end-2 : goal.slice_bounds-replay_room-end-2
slice_bounds-replay_room-end-2 c = filled 24700 (get_or c.args.head.now 40 0)

pub slice_bounds-replay_room-end-3 : goal.slice_bounds-replay_room-end-3
slice_bounds-replay_room-end-3 c = filled 49300 (get_or c.args.head.now 40 0)

pub slice_bounds-replay_room-end-4 : goal.slice_bounds-replay_room-end-4
slice_bounds-replay_room-end-4 c = filled 65700 (get_or c.args.head.now 40 0)

pub slice_bounds-replay_room-end-5 : goal.slice_bounds-replay_room-end-5
slice_bounds-replay_room-end-5 c = filled 16500 (get_or c.args.head.now 40 0)

pub slice_bounds-replay_room-end-6 : goal.slice_bounds-replay_room-end-6
slice_bounds-replay_room-end-6 c = filled 65700 (get_or c.args.head.now 40 0)

pub slice_bounds-replay_room-end-7 : goal.slice_bounds-replay_room-end-7
slice_bounds-replay_room-end-7 c = filled 147700 (get_or c.args.head.now 40 0)

pub replay_room-requires : goal.replay_room-requires
replay_room-requires c = c.requires
