-- The value of an expression record, by its kind; the record number falls, which is the measure.
-- Each answer is a case of `ValueCases`. Assumes nothing.
use Rattle.types.proofs.float_value.+float_value.Given as goal

abbrev pub decreases-float_value : goal.decreases-float_value
decreases-float_value l = l.r
