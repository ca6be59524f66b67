-- The entry: the core's answer, and what each lent buffer holds afterwards.
-- The six outputs are cleared where the answer is a refusal with a place, and else are as found. Assumes nothing.
use Rattle.judge.proofs.RowLaws.{answer_in_lem, outputs-cleared, outputs-kept, long-judged, long_after}
use Rattle.judge.proofs.judge.Goals as goal

pub returns-then-has_place : goal.returns-then-has_place
returns-then-has_place c =
    let long = c.lengths_of-l.ensures in record { value = answer_in_lem _ _ _ _ (long-judged _ _ _ _ _ long _ c.judge_tree-answer.ensures.value) _ c.has_place.ensures; scratch_after = outputs-cleared _ _ _ _ (long-judged _ _ _ _ _ long _ c.judge_tree-answer.ensures.value) _ c.has_place.ensures _ (long_after _ _ _ _ _ long _ _ c.judge_tree-answer.ensures.scratch_after) c.if-has_place.true _ _ _ _ _ _ (c.clear_outputs.ensures.instructions, c.clear_outputs.ensures.variables, c.clear_outputs.ensures.labels, c.clear_outputs.ensures.functions, c.clear_outputs.ensures.strings, c.clear_outputs.ensures.floats) }

pub returns-else-has_place : goal.returns-else-has_place
returns-else-has_place c =
    let long = c.lengths_of-l.ensures in record { value = answer_in_lem _ _ _ _ (long-judged _ _ _ _ _ long _ c.judge_tree-answer.ensures.value) _ c.has_place.ensures; scratch_after = outputs-kept _ _ _ _ (long-judged _ _ _ _ _ long _ c.judge_tree-answer.ensures.value) _ c.has_place.ensures _ (long_after _ _ _ _ _ long _ _ c.judge_tree-answer.ensures.scratch_after) c.if-has_place.false }
