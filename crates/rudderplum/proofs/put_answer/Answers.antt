-- The four words of an answer are its sixteen bytes.
-- By what `put_four` ensures. Assumes nothing.
use borrow.Author.Rules.{rules}
use Rattle.rudderplum.specs.Boundary.{answer_bytes}
use Rattle.rudderplum.proofs.put_answer.Goals as goal

pub returns : goal.returns
unfolding answer_bytes
returns c = search rules
