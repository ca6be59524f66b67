-- A record past the twelve passes; one of the twelve is held to its row of both tables.
-- Each return is a case of the definition, over what the calls ensure. Assumes nothing.
use Rattle.records.proofs.TypeLaws.{first_past, first_twelve}
use Rattle.judge.proofs.types.is_first_type.Goals as goal

pub returns-then-r-ge-FEWEST_RECORDS : goal.returns-then-r-ge-FEWEST_RECORDS
returns-then-r-ge-FEWEST_RECORDS c = first_past _ _ c.if-r-ge-FEWEST_RECORDS.true

pub returns : goal.returns
returns c = rw (c.kind.ensures, c.detail.ensures, c.word.ensures)
    (first_twelve _ _ c.if-r-ge-FEWEST_RECORDS.false)
