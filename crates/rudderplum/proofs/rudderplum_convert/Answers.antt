-- Each way out of the call is a case of its definition: the test of the answer's buffer, or what `convert` and `put_conversion` ensure.
-- Put together by `long-convert`. Assumes nothing.
use Rattle.rudderplum.specs.Boundary.{asks_main}
use Rattle.rudderplum.proofs.Calls.{short-returns_eight, long-returns_eight, short-convert, long-convert}
use Rattle.rudderplum.proofs.rudderplum_convert.Goals as goal

pub returns-then-answer-lt-EIGHT_WORDS : goal.returns-then-answer-lt-EIGHT_WORDS
unfolding asks_main
returns-then-answer-lt-EIGHT_WORDS c = record { value = short-returns_eight _ c.if-answer-lt-EIGHT_WORDS.true; answer_after = short-convert c.args.tree.now c.args.text.now _ _ c.if-answer-lt-EIGHT_WORDS.true }

pub returns : goal.returns
unfolding asks_main
returns c = record { value = long-returns_eight _ c.if-answer-lt-EIGHT_WORDS.false; answer_after = long-convert c.args.tree.now c.args.text.now _ _ _ _ _ c.convert-converted.result c.if-answer-lt-EIGHT_WORDS.false c.convert-converted.ensures c.put_conversion.ensures }
