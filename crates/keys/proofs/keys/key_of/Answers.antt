-- The key of a function.
-- By what `is_mangled` and its names ensure. Assumes nothing.
use Rattle.keys.proofs.KeySearch.{key_mangled, key_plain}
use Rattle.keys.proofs.keys.key_of.Goals as goal

pub returns-then-is_mangled : goal.returns-then-is_mangled
returns-then-is_mangled c = key_mangled _ _ _ _ c.is_mangled.ensures c.if-is_mangled.true c.mangled_name_of.ensures

pub returns-else-is_mangled : goal.returns-else-is_mangled
returns-else-is_mangled c = key_plain _ _ _ _ c.is_mangled.ensures c.if-is_mangled.false c.name_of.ensures
