-- A text's length: none of its bytes lie past the buffer's end.
-- The length of `take` and `drop`. Assumes nothing.
use Rattle.std.proofs.Common.{rules}
use Rattle.records.proofs.TextLaws.{text-length}
use Rattle.records.proofs.texts.reach.Goals as goal

pub returns : goal.returns
returns c = search (rules, text-length)
