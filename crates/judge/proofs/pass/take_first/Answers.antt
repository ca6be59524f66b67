-- One of the twelve first types is taken where it is right, and else nothing is done.
-- By the laws of `FirstLaws`, over what the calls ensure. Assumes nothing.
use mathlib.Core.Bool.{not}
use mathlib.Core.Path.{ap}
use native.Mathlib.Omega.{arith}
use Rattle.judge.proofs.FirstLaws.{first-right, inner-low, inner-shallow, first-took}
use Rattle.judge.proofs.pass.take_first.Goals as goal

pub inner_depth-below-requires : goal.inner_depth-below-requires
inner_depth-below-requires c =
    let right = first-right c.args.tree.now c.args.bytes c.args.r c.args.types c.five_words-words.result _ _ _ _ _ _ _ c.index.ensures c.index-2.ensures c.pad.ensures c.index-3.ensures c.index-4.ensures c.index-5.ensures c.is_first_type-first.ensures (ap not c.if-not-zero-text.false) in
    omega (arith, inner-low _ _ c.requires.r_lt_fewest_records.0 right.first _ c.five_words-words.ensures.a, c.requires.r_lt_fewest_records.1, c.requires.r_lt_fewest_records.2.room)

pub depth_over-depth-requires : goal.depth_over-depth-requires
depth_over-depth-requires c =
    let right = first-right c.args.tree.now c.args.bytes c.args.r c.args.types c.five_words-words.result _ _ _ _ _ _ _ c.index.ensures c.index-2.ensures c.pad.ensures c.index-3.ensures c.index-4.ensures c.index-5.ensures c.is_first_type-first.ensures (ap not c.if-not-zero-text.false) in
    inner-shallow _ _ c.requires.r_lt_fewest_records.0 right.first _ c.five_words-words.ensures.a _ _ c.requires.known_below.0 c.inner_depth-below.ensures

pub returns : goal.returns
returns c = let right = first-right c.args.tree.now c.args.bytes c.args.r c.args.types c.five_words-words.result _ _ _ _ _ _ _ c.index.ensures c.index-2.ensures c.pad.ensures c.index-3.ensures c.index-4.ensures c.index-5.ensures c.is_first_type-first.ensures (ap not c.if-not-zero-text.false) in
    first-took _ _ _ _ _ _ _ c.requires.r_lt_fewest_records.0 c.requires.r_lt_fewest_records.1 c.requires.r_lt_fewest_records.2.lead c.five_words-words.ensures right c.requires.known_below.0 c.requires.known_below.1 (omega (arith, c.requires.r_lt_fewest_records.1, c.requires.r_lt_fewest_records.2.room)) _ _ c.inner_depth-below.ensures c.depth_over-depth.ensures _ c.put_known.ensures
