-- A record is passed over, or becomes an entry.
-- By the laws of the entries, over what the calls ensure. Assumes nothing.
use native.Mathlib.Omega.{arith}
use Rattle.texts.proofs.PassLaws.{own-told}
use Rattle.texts.proofs.SortedLaws.{collected_more}
use Rattle.texts.proofs.collect_record.Goals as goal

pub returns : goal.returns
returns c = let has = own-told _ _ _ _ _ c.kind.ensures c.has_text.ensures c.if-not-has_text.false in
    collected_more _ _ _ _ _ c.requires.3 has (omega (arith, c.requires.1, c.requires.2, c.requires.3.few)) (omega (arith, c.requires.0, c.requires.1)) c.put_pair.ensures c.requires.1
