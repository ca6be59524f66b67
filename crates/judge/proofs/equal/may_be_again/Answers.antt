-- A walk along the chain of type r's bucket, then r is entered there.
-- By the laws of chains of types and of samples, over what the calls ensure. Assumes nothing.
use mathlib.Core.Path.{refl}
use Rattle.records.proofs.ChainedLaws.{bucket_told, head_told, entered-long, entered-behind, chained_more}
use Rattle.records.proofs.SampleLaws.{sampled-kept}
use borrow.Author.Rules.{rules}
use Rattle.judge.proofs.equal.may_be_again.Goals as goal

pub may_have_alike-again-requires : goal.may_have_alike-again-requires
may_have_alike-again-requires c = let chained = c.requires.digests_passed.chained in
    let digest = c.type_digest-d.ensures in
    let at-bucket = c.bucket-b.ensures in
    record { leading = c.requires.leading; types_chained = (chained, digest); head_value = head_told _ _ _ _ _ _ _ chained at-bucket.1 (bucket_told _ _ _ _ _ _ refl digest at-bucket.0) c.load-head.ensures }

pub returns : goal.returns
returns c = let room = c.requires.leading.1 in
    let r-below = c.requires.leading.2 in
    let digest = c.type_digest-d.ensures in
    let at-bucket = c.bucket-b.ensures in
    let is-entered = c.enter.ensures in
    let long = entered-long _ _ _ _ _ _ room r-below at-bucket.1 (search rules) (search rules) _ is-entered in record {
      r_value = c.may_have_alike-again.ensures;
      digests_passed_2 = record {
        chained = chained_more _ _ _ _ _ _ room r-below at-bucket.1 (search rules) (search rules) _ _ _ is-entered c.requires.digests_passed.chained digest (bucket_told _ _ _ _ _ _ refl digest at-bucket.0) c.load-head.ensures;
        sampled = sampled-kept _ _ _ _ _ (entered-behind _ _ _ _ _ _ room r-below at-bucket.1 (search rules) (search rules) _ is-entered) long c.requires.digests_passed.sampled;
      };
      scratch_len_unchanged = long;
    }
