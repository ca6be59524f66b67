-- The size of a type: of an array from its element, whose record number is lower, which is the measure.
-- Each answer is a case of `SizeCases`. Assumes nothing.
use Rattle.types.proofs.size.+size.Given as goal

abbrev pub decreases-size : goal.decreases-size
decreases-size l = l.ty
