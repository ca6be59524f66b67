-- How many of n bytes agree from two bytes on: all where these are one, else they are compared.
-- By the law of a text beside itself. Assumes nothing.
use Rattle.sorting.proofs.AheadLaws.{common-one}
use Rattle.sorting.proofs.sorted.common_from.Goals as goal

pub returns-then-i-j : goal.returns-then-i-j
returns-then-i-j c = common-one _ _ _ _ c.if-i-j.true c.requires.0
