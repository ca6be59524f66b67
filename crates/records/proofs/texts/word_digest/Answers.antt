-- The digest of four words is two steps and the last.
-- From what the steps ensure. Assumes nothing.
use Rattle.records.proofs.DigestLaws.{four_done}
use Rattle.records.proofs.texts.word_digest.Goals as goal

pub returns : goal.returns
returns c = four_done _ _ _ _ _ _ _ c.step.ensures.0 c.step-2.ensures.0 c.digest_end.ensures
