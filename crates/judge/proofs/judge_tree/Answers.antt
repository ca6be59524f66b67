-- The rows' answer, and what scratch holds afterwards.
-- Where the answer is a refusal without a place nothing was written; else scratch is cleared. Assumes nothing.
use Rattle.std.proofs.Common.{◌≡◌, rules}
use Rattle.judge.specs.Keeps.{unplaced}
use Rattle.judge.proofs.RowLaws.{core_kept, core_cleared}
use Rattle.judge.proofs.judge_tree.Goals as goal

pub returns-else-not-nothing_written : goal.returns-else-not-nothing_written
unfolding unplaced
returns-else-not-nothing_written c = let told : c.is_err_and-nothing_written.result ≡ unplaced c.judge_rows-answer.result = search rules in
    record { value = c.judge_rows-answer.ensures.value; scratch_after = core_kept _ _ _ _ _ _ (c.judge_rows-answer.ensures.value, c.judge_rows-answer.ensures.judge_keeps) _ told c.if-not-nothing_written.false }

pub returns-then-not-nothing_written : goal.returns-then-not-nothing_written
unfolding unplaced
returns-then-not-nothing_written c = let told : c.is_err_and-nothing_written.result ≡ unplaced c.judge_rows-answer.result = search rules in
    record { value = c.judge_rows-answer.ensures.value; scratch_after = core_cleared _ _ _ _ _ _ (c.judge_rows-answer.ensures.value, c.judge_rows-answer.ensures.judge_keeps) _ told c.if-not-nothing_written.true _ c.clear.ensures }
