-- `common_of` meets its contract: the two tests are the definition's, in its order.
-- By the tests' answers. Assumes nothing.
use Rattle.expressions.proofs.OperandLaws.{right-fits, left-fits, common-left, common-right, common-none}
use Rattle.expressions.proofs.operands.common_of.Goals as goal

pub fits-requires : goal.fits-requires
fits-requires c = record { expr = (right-fits _ _ c.requires.good _ c.requires.operands).0; fact = (right-fits _ _ c.requires.good _ c.requires.operands).1.0; fact_2 = (right-fits _ _ c.requires.good _ c.requires.operands).1.1 }

pub returns-then-fits : goal.returns-then-fits
returns-then-fits c = common-left _ _ c.requires.good _ c.requires.operands _ c.fits.ensures c.if-fits.true

pub fits-requires-2 : goal.fits-requires-2
fits-requires-2 c = record { expr = (left-fits _ _ c.requires.good _ c.requires.operands).0; fact = (left-fits _ _ c.requires.good _ c.requires.operands).1.0; fact_2 = (left-fits _ _ c.requires.good _ c.requires.operands).1.1 }

pub returns-then-fits-2 : goal.returns-then-fits-2
returns-then-fits-2 c = common-right _ _ c.requires.good _ c.requires.operands _ c.fits.ensures c.if-fits.false _ c.fits-2.ensures c.if-fits-2.true

pub returns : goal.returns
returns c = common-none _ _ c.requires.good _ c.requires.operands _ c.fits.ensures c.if-fits.false _ c.fits-2.ensures c.if-fits-2.false
