-- Two words, one behind the other, are one run.
-- By the law of two runs. Assumes nothing.
use Rattle.records.proofs.WordLaws.{put_pair}
use Rattle.records.proofs.words.put_pair.Goals as goal

pub returns : goal.returns
returns c = search put_pair
