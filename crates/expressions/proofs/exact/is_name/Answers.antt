-- Whether the part is the name: first the verb, then the suffixes.
-- A name's two pieces are the same text where each of them is. Assumes nothing.
use native.Mathlib.Omega.{arith}
use Rattle.expressions.proofs.NameLaws.{number-inside}
use Rattle.expressions.proofs.ExactLaws.{suffixes-inside, verb-inside, name-other, name-same}
use Rattle.expressions.proofs.exact.is_name.Goals as goal

pub same_part-requires : goal.same_part-requires
same_part-requires c = (omega (arith, c.requires.k_le_count.1, verb-inside _ _ _ _ c.requires.called _ c.args.key c.requires.len_value), c.requires.called.inside)

pub returns-then-not-same_part : goal.returns-then-not-same_part
returns-then-not-same_part c = name-other _ _ _ _ c.requires.called _ _ c.requires.len_value c.requires.k_le_count.1 _ c.same_part.ensures c.if-not-same_part.true

pub are_suffixes-requires : goal.are_suffixes-requires
are_suffixes-requires c = record { argued = c.requires.called.argued; k_in_bounds = number-inside _ _ _ _ _ c.requires.called c.requires.k_le_count.0; first_in_bounds = suffixes-inside _ _ _ _ c.requires.called _ c.args.key c.requires.len_value c.requires.k_le_count.1 }

pub returns : goal.returns
returns c = name-same _ _ _ _ c.requires.called _ _ c.requires.len_value c.requires.k_le_count.1 _ c.same_part.ensures c.if-not-same_part.false _ c.are_suffixes.ensures
