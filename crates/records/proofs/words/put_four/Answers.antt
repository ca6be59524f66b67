-- Two pairs of words are one run.
-- By the law of two runs. Assumes nothing.
use Rattle.records.proofs.WordLaws.{put_four}
use Rattle.records.proofs.words.put_four.Goals as goal

pub returns : goal.returns
returns c = search put_four
