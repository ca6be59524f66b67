-- The rows in order, and what scratch holds afterwards.
-- Rows one and two return before anything is written. Assumes nothing.
use mathlib.Core.Path.{sym, ◌∙◌}
use Rattle.judge.proofs.RowLaws.{lengths-fit, enough, judged-length, judged_buffer, judged-records}
use Rattle.judge.proofs.judge_rows.Goals as goal

pub returns-then-not-lengths : goal.returns-then-not-lengths
returns-then-not-lengths c = let made = judged-length _ _ _ _ _ c.lengths_ok-lengths.ensures _ c.if-not-lengths.true c.refuse_tree.ensures in record { value = made.0; judge_keeps = made.1 }

pub returns-then-not-buffers : goal.returns-then-not-buffers
returns-then-not-buffers c = let made = judged_buffer _ _ _ _ _ c.lengths_ok-lengths.ensures c.if-not-lengths.false _ c.buffers_ok-buffers.ensures _ c.if-not-buffers.true c.refuse_tree-then-not-buffers.ensures in record { value = made.0; judge_keeps = made.1 }

pub judge_records-requires : goal.judge_records-requires
judge_records-requires c = let fit = lengths-fit _ (sym c.lengths_ok-lengths.ensures ∙ c.if-not-lengths.false) in
    (fit.0, fit.1, (enough _ _ _ (sym c.buffers_ok-buffers.ensures ∙ c.if-not-buffers.false)).scratch)

pub returns : goal.returns
returns c = let made = judged-records _ _ _ _ _ c.lengths_ok-lengths.ensures c.if-not-lengths.false _ c.buffers_ok-buffers.ensures _ _ c.if-not-buffers.false c.judge_records.ensures.0 c.judge_records.ensures.1 in record { value = made.0; judge_keeps = made.1 }
