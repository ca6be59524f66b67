-- The eight words of a conversion's answer, by the case that the match met.
-- By what `put_counts`, `put_refusal` and `words_of` ensure. Assumes nothing.
use Rattle.rudderplum.proofs.Calls.{converted_put, refused_put}
use Rattle.rudderplum.proofs.put_conversion.Goals as goal

pub returns-in-Ok : goal.returns-in-Ok
returns-in-Ok c = converted_put _ _ _ _ _ c.in-Ok.is c.put_counts.ensures

pub returns-in-Err : goal.returns-in-Err
returns-in-Err c = refused_put _ _ _ _ _ _ c.in-Err.is c.words_of.ensures c.put_refusal.ensures
