-- The eight words of a refusal are the definition's bytes.
-- By what `put_answer` and `put_four` ensure. Assumes nothing.
use Rattle.rudderplum.proofs.Calls.{refusal_put}
use Rattle.rudderplum.proofs.put_refusal.Goals as goal

pub returns : goal.returns
returns c = refusal_put _ _ _ c.requires c.args.a c.put_answer.ensures c.put_four.ensures
