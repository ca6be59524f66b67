-- Whether two texts are the same: by their lengths, and else byte by byte.
-- From what `reach` and `same_part` ensure. Assumes nothing.
use Rattle.records.proofs.TextLaws.{other-lengths, no_lengths, text-inside, text-inside_too, same_taken}
use Rattle.records.proofs.texts.same_text.Goals as goal

pub returns-then-x-y : goal.returns-then-x-y
returns-then-x-y c = search other-lengths

pub returns-then-x-eq0 : goal.returns-then-x-eq0
returns-then-x-eq0 c = search no_lengths

pub same_part-requires : goal.same_part-requires
same_part-requires c = (search text-inside, search text-inside_too)

pub returns : goal.returns
returns c = search same_taken
