-- Whether a function is neither external nor `main`.
-- By what its mark and its name ensure. Assumes nothing.
use Rattle.keys.proofs.KeySearch.{external_plain, mangled_by_name}
use Rattle.keys.proofs.keys.is_mangled.Goals as goal

pub returns-then-not-is_external : goal.returns-then-not-is_external
returns-then-not-is_external c = mangled_by_name _ _ _ _ c.is_external.ensures c.if-not-is_external.true c.name_of.ensures.is c.is_main.ensures

pub returns-else-not-is_external : goal.returns-else-not-is_external
returns-else-not-is_external c = external_plain _ _ c.is_external.ensures c.if-not-is_external.false
