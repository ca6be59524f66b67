-- A record is taken: its words, its own tests, and its four bytes.
-- Two laws over what the calls ensure. Assumes nothing.
use native.Mathlib.Omega.{arith}
use Rattle.judge.proofs.CountLaws.{row_told}
use Rattle.judge.proofs.DepthLaws.{depth_small}
use Rattle.judge.proofs.TakeLaws.{rules-told, bytes-told}
use Rattle.judge.proofs.pass.take_any.Goals as goal

pub take_words-told-requires : goal.take_words-told-requires
take_words-told-requires c = record { r_lt_most_records = (omega arith, omega arith, c.requires.known_below.0); row_value = (row_told _ _ _ _ _ _ c.kind-k.ensures c.detail-found.ensures c.shape_of.ensures.0 c.row_of-row.ensures, c.five_words-words.ensures) }

pub depth_over-depth-requires : goal.depth_over-depth-requires
depth_over-depth-requires c = depth_small _ _ _ c.take_words-told.ensures.depth

pub returns : goal.returns
returns c = bytes-told _ _ _ _ c.requires.r_bound.1.lead c.requires.r_bound.0 _ _ _ _ _ _ c.kind-k.ensures c.detail-found.ensures (row_told _ _ _ _ _ _ c.kind-k.ensures c.detail-found.ensures c.shape_of.ensures.0 c.row_of-row.ensures) c.five_words-words.ensures c.pad.ensures _ _ _ _ _ _ _ c.requires.known_below.0 c.requires.known_below.1 c.take_words-told.ensures c.class_at-class.ensures c.depth_over-depth.ensures (omega (arith, c.requires.r_bound.0, c.requires.r_bound.1.room)) c.put_known.ensures _
    (rules-told _ _ _ _ c.requires.r_bound.1.lead c.requires.r_bound.0 _ _ _ _ _ _ c.kind-k.ensures c.detail-found.ensures (row_told _ _ _ _ _ _ c.kind-k.ensures c.detail-found.ensures c.shape_of.ensures.0 c.row_of-row.ensures) c.five_words-words.ensures c.pad.ensures _ _ _ c.take_words-told.ensures.right c.marks_ok-marks.ensures c.is_first_type-first.ensures)
