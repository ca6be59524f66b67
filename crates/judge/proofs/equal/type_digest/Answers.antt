-- A type's digest: of its name, or of its words.
-- Each return is a case of the definition, over what the calls ensure. Assumes nothing.
use Rattle.records.proofs.DigestLaws.{digest-is}
use Rattle.judge.proofs.EqualLaws.{custom_told, words-told}
use Rattle.judge.proofs.equal.type_digest.Goals as goal

pub returns-then-d-eq-FORM_CUSTOM : goal.returns-then-d-eq-FORM_CUSTOM
returns-then-d-eq-FORM_CUSTOM c = custom_told _ _ _ _ _ _ _ c.detail-d.ensures c.if-d-eq-FORM_CUSTOM.true c.word-a.ensures c.word-b.ensures (digest-is _ _ _ c.sampled_roll.ensures.0 c.roll_digest.ensures)

pub returns : goal.returns
returns c = words-told _ _ _ _ _ _ _ _ _ c.detail-d.ensures c.if-d-eq-FORM_CUSTOM.false c.from.ensures c.word-a.ensures c.word-b.ensures c.word.ensures c.word_digest.ensures
