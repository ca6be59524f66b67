-- Each way out of the call is a case of its definition: the test of the answer's buffer, or what `judge`, `answer_words` and
-- `put_answer` ensure, put together by `long-call`. Assumes nothing.
use Rattle.rudderplum.proofs.Calls.{short-returns, long-returns, short-call, long-call}
use Rattle.rudderplum.proofs.rudderplum_judge.Goals as goal

pub returns-then-answer-lt-FOUR_WORDS : goal.returns-then-answer-lt-FOUR_WORDS
returns-then-answer-lt-FOUR_WORDS c = let start = c in
    record { value = short-returns _ c.if-answer-lt-FOUR_WORDS.true; answer_after = short-call c.args.tree.now c.args.text.now _ c.if-answer-lt-FOUR_WORDS.true }

pub returns : goal.returns
returns c = let put = c in
    let words = c in
    let judged = c in
    let short = c in
    let start = c in
    let said = c in record {
      value = long-returns c.args.answer.now c.if-answer-lt-FOUR_WORDS.false;
      answer_after = long-call c.args.tree.now c.args.text.now _ _ _ _ c.judge-judged.result c.answer_words.result
          c.if-answer-lt-FOUR_WORDS.false
          c.judge-judged.ensures.value
          c.judge-judged.ensures.scratch_after
          c.answer_words.ensures
          c.put_answer.ensures;
    }
