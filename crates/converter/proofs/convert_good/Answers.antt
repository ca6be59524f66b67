-- Of a good tree, answer and buffers are what the definition says: its tables, each alone, and its visits, or its error and zeros; scratch is zero.
-- What the conversion leaves in arena and scratch, and what is cut out of the arena. Assumes nothing.
use mathlib.Core.Path.{refl}
use Rattle.ir.specs.Counted.{counted}
use Rattle.converter.proofs.CallLaws.{cut_afforded, scratch-room, as_the_rust}
use Rattle.converter.proofs.convert_good.Goals as goal

pub convert_program-done-requires : goal.convert_program-done-requires
unfolding counted
convert_program-done-requires c = let first = c in
    record { good = (c.requires.good.0, c.requires.seven_long.arena, c.requires.seven_long.scratch, c.requires.good.1); k_value = refl }

pub visits-visits-requires : goal.visits-visits-requires
visits-visits-requires c = let first = c in
    (c.requires.good.1, scratch-room _ _ _ _ _ _ _ _ _ _ _ _ _ c.convert_program-done.ensures c.requires.seven_long)

pub finish-requires : goal.finish-requires
finish-requires c = cut_afforded _ _ _ _ _ _ _ _ _ _ _ _ _ c.convert_program-done.ensures c.requires.seven_long

pub returns : goal.returns
returns c = as_the_rust _ _ _ _ _ _ _ _ _ _ _ _ _ c.convert_program-done.ensures c.requires.good.0 _ c.visits-visits.ensures _ _ _ _ _ _ _ _ c.finish.ensures c.clear.ensures
