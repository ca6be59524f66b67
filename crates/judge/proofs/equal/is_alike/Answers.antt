-- Types whose digests differ are not alike; a Custom is like any of its digest, and of other types the words are compared.
-- Each return is a case of the definition, over what the calls ensure. Assumes nothing.
use Rattle.judge.proofs.EqualLaws.{is-named, is_unnamed, digests-differ, alike-named, alike-words}
use Rattle.judge.proofs.equal.is_alike.Goals as goal

pub returns-then-digest-d : goal.returns-then-digest-d
returns-then-digest-d c = digests-differ _ _ _ _ _ _ c.requires.digest_value.0 c.requires.digest_value.1 c.if-digest-d.true

pub returns-then-detail-eq-FORM_CUSTOM : goal.returns-then-detail-eq-FORM_CUSTOM
returns-then-detail-eq-FORM_CUSTOM c = alike-named _ _ _ _ _ _ c.requires.digest_value.0 c.requires.digest_value.1 c.if-digest-d.false (is-named _ _ _ c.detail.ensures c.if-detail-eq-FORM_CUSTOM.true)

pub returns : goal.returns
returns c = alike-words _ _ _ _ _ _ c.requires.digest_value.0 c.requires.digest_value.1 c.if-digest-d.false _ (is_unnamed _ _ _ c.detail.ensures c.if-detail-eq-FORM_CUSTOM.false) (c.same_words.ensures _)
