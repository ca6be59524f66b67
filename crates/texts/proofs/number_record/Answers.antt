-- A record is passed over, or entered with its text's number and digest written.
-- By the laws of the pass, over what the calls ensure. Assumes nothing.
use mathlib.Core.Path.{refl}
use native.Mathlib.Omega.{arith}
use Rattle.texts.proofs.PassLaws.{passed_over, taken, kept-all, kept-sampled, passed-sampled, read_past, own-told, roll_told, bucket_told}
use borrow.Author.Rules.{rules}
use Rattle.texts.proofs.number_record.Goals as goal

pub returns-then-not-has_text : goal.returns-then-not-has_text
returns-then-not-has_text c = record { passed = (passed_over _ _ _ _ c.requires.r_bound.1 (own-told _ _ _ _ _ c.kind.ensures c.has_text.ensures c.if-not-has_text.true), kept-all _ _); read = read_past _ _ _ _ _ _ _ (omega arith) c.requires.r_bound.2 }

pub number_text-walk-requires : goal.number_text-walk-requires
number_text-walk-requires c = let has = own-told _ _ _ _ _ c.kind.ensures c.has_text.ensures c.if-not-has_text.false in
    let only = c.read_long-next.ensures.1 in
    let rolled = roll_told _ _ _ _ _ _ c.word-offset.ensures c.word-len.ensures c.roll_read-rolled.ensures.0 in
    let passed = passed-sampled _ _ _ only _ _ _ refl (omega (arith, c.requires.r_bound.0)) c.requires.r_bound.1 in
    let bucket = c.bucket-b.ensures in
    record { good = (c.requires.good.0, omega (arith, c.requires.good.1, only.long)); r_bound = (c.requires.r_bound.0, has, bucket_told _ _ _ _ _ _ has rolled c.roll_digest.ensures bucket.0, bucket.1); chains = passed.chained }

pub returns : goal.returns
returns c = let has = own-told _ _ _ _ _ c.kind.ensures c.has_text.ensures c.if-not-has_text.false in
    let only = c.read_long-next.ensures.1 in
    let rolled = roll_told _ _ _ _ _ _ c.word-offset.ensures c.word-len.ensures c.roll_read-rolled.ensures.0 in
    let passed = passed-sampled _ _ _ only _ _ _ refl (omega (arith, c.requires.r_bound.0)) c.requires.r_bound.1 in
    let read = c.read_long-next.ensures.0 in
    let made = taken _ _ _ _ _ _ (omega (arith, c.requires.good.1, only.long)) c.requires.r_bound.0 _ _ _ c.number_text-walk.ensures.1 c.put_word.ensures c.put_word-2.ensures passed c.requires.good.0.few has rolled (search rules) c.number_text-walk.ensures.0 _ _ _ (kept-sampled _ _ _ only) read in record { passed = made.0; read = made.1 }
