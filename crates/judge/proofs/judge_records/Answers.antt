-- Rows 'records' and 'nesting'.
-- Each return is a case of the rows, by the two lowest numbers. Assumes nothing.
use mathlib.Core.Path.{sym, ap, ◌∙◌}
use Rattle.judge.specs.Judge.{refused_by, judged_by}
use Rattle.judge.proofs.RowLaws.{row-fault, row-deep, row-none}
use Rattle.judge.proofs.judge_records.Goals as goal

pub returns-then-fault-n : goal.returns-then-fault-n
unfolding judged_by refused_by
returns-then-fault-n c = (c.refuse_tree.ensures ∙ sym (ap judged_by (row-fault _ _ _ c.requires.0 _ c.lowest_records-lowest.ensures.lowest c.if-fault-n.true)), c.lowest_records-lowest.ensures.scratch_len_unchanged)

pub returns-then-deep-n : goal.returns-then-deep-n
unfolding judged_by refused_by
returns-then-deep-n c = (c.refuse_tree-then-deep-n.ensures ∙ sym (ap judged_by (row-deep _ _ _ c.requires.0 _ c.lowest_records-lowest.ensures.lowest c.if-fault-n.false _ c.lowest_records-lowest.ensures.lowest_2 c.if-deep-n.true)), c.lowest_records-lowest.ensures.scratch_len_unchanged)

pub returns : goal.returns
unfolding judged_by refused_by
returns c = (sym (ap judged_by (row-none _ _ _ c.requires.0 _ c.lowest_records-lowest.ensures.lowest c.if-fault-n.false _ c.lowest_records-lowest.ensures.lowest_2 c.if-deep-n.false)), c.lowest_records-lowest.ensures.scratch_len_unchanged)
