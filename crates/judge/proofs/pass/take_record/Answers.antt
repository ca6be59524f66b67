-- A record is taken as one of the first types or by the table where that finds it right, and else by the rules.
-- By which of the three took it. Assumes nothing.
use Rattle.judge.proofs.PlainTaken.{plain_record}
use Rattle.judge.proofs.pass.take_record.Goals as goal

pub returns-then-first : goal.returns-then-first
returns-then-first c = plain_record _ _ _ _ _ _ _ _ _ c.take_first-first.ensures c.if-first.true c.requires.r_bound.1.lead c.requires.r_bound.0

pub returns-then-told : goal.returns-then-told
returns-then-told c = plain_record _ _ _ _ _ _ _ _ _ c.take_plain-told.ensures c.if-told.true c.requires.r_bound.1.lead c.requires.r_bound.0
