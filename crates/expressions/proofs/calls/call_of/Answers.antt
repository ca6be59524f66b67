-- The verb's number stands in scratch, the verb and the first cell are the record's words; the arguments are counted from there.
-- By what each call ensures. Assumes nothing.
use Rattle.expressions.proofs.CallLaws.{arguments_at, counted-at, verb-number}
use Rattle.expressions.proofs.calls.call_of.Goals as goal

pub count_arguments-count-requires : goal.count_arguments-count-requires
count_arguments-count-requires c = let first = c in
    record { good = c.requires.good.0; args_at = arguments_at _ _ c.requires.good.0 _ c.requires.kind _ c.reference-first.ensures }

pub returns : goal.returns
returns c = let first = c in
    record {
      verb = verb-number _ _ _ _ c.requires.kind c.requires.good.1 _ c.original-number.ensures;
      offset = c.text_part-verb.ensures.0;
      len = c.text_part-verb.ensures.1;
      first = c.reference-first.ensures;
      count = counted-at _ _ _ _ _ c.reference-first.ensures c.count_arguments-count.ensures;
    }
