-- The eight words of a converted tree are the definition's bytes.
-- By what `count_word` and `put_four` ensure. Assumes nothing.
use Rattle.rudderplum.proofs.Calls.{counts_put}
use Rattle.rudderplum.proofs.put_counts.Goals as goal

pub returns : goal.returns
returns c = let first = c in
    counts_put _ _ _ c.requires c.args.c _ _ _ _ _ _ _
    c.count_word-functions.ensures
    c.count_word-instructions.ensures
    c.count_word-variables.ensures
    c.count_word-labels.ensures
    c.count_word-strings.ensures
    c.count_word-floats.ensures
    c.count_word-visits.ensures
    c.put_four.ensures
    c.put_four-2.ensures
