-- From the next cell on stand the parameters behind the first; behind none there is none.
-- By the law of the first parameter, and of none. Assumes nothing.
use Rattle.syntax.proofs.Lists.{cell_below}
use Rattle.statements.proofs.FitLaws.{behind-next, own-next}
use Rattle.statements.proofs.fits.next_parameter.Goals as goal

pub returns-then-parameter-eq-END : goal.returns-then-parameter-eq-END
returns-then-parameter-eq-END c = behind-next _ _ c.requires.0 _ c.requires.1 c.if-parameter-eq-END.true

pub next_cell-requires : goal.next_cell-requires
next_cell-requires c = cell_below _ _ c.requires.0 _ _ c.requires.1 c.if-parameter-eq-END.false

pub returns : goal.returns
returns c = own-next _ _ c.requires.0 _ c.requires.1 c.if-parameter-eq-END.false _ c.next_cell.ensures
