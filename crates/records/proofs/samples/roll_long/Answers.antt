-- The digest of a part that is longer than a stride: up to the first sample, over the run to the last, and on to the end.
-- By the laws of samples; the first is behind where the part begins, the last before its end. Assumes nothing.
use Rattle.records.proofs.SampleLaws.{in_order, first_small, last-room, long-told}
use Rattle.records.proofs.samples.roll_long.Goals as goal

pub roll_between-h-requires : goal.roll_between-h-requires
roll_between-h-requires c = (in_order c.args.i c.args.n c.args.stride c.requires.1 c.requires.2, last-room c.args.i c.args.n c.args.stride c.requires.1 c.requires.2 _ _ c.args.at c.requires.0 c.requires.3, c.roll-d.ensures.1, first_small c.args.i c.args.n c.args.stride c.requires.1 c.requires.2 _ _ c.args.at c.requires.0 c.requires.3)

pub returns : goal.returns
returns c = (long-told c.args.i c.args.n c.args.stride c.requires.1 c.requires.2 _ _ c.args.at c.requires.0 c.requires.3 _ _ _ c.roll-d.ensures c.roll_between-h.ensures.0 c.roll.ensures.0, c.roll.ensures.1)
