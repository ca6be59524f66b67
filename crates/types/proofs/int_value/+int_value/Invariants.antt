-- The value of an expression record, by its kind; the record number falls, which is the measure.
-- Each answer is a case of `ValueCases`. Assumes nothing.
use Rattle.types.proofs.int_value.+int_value.Given as goal

abbrev pub decreases-int_value : goal.decreases-int_value
decreases-int_value l = l.r
