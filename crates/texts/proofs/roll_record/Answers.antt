-- A record is passed over, or its text's digest written.
-- By the laws of digests written, over what the calls ensure. Assumes nothing.
use Rattle.texts.proofs.PassLaws.{roll_told}
use Rattle.texts.proofs.SortedLaws.{rolled-more}
use borrow.Author.Rules.{rules}
use Rattle.texts.proofs.roll_record.Goals as goal

pub returns : goal.returns
returns c = let read = c.read_long-next.ensures in
    let rolled = roll_told _ _ _ _ _ _ c.word-offset.ensures c.word-len.ensures c.roll_read-rolled.ensures.0 in let made = rolled-more _ _ _ _ _ _ _ c.requires.good.1 c.requires.r_bound.0 read.1 c.put_word.ensures c.requires.r_bound.1 rolled (search rules) _ _ read.0 in record { rolled = made.0; read = made.1 }
