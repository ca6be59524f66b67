-- The record of the mangled name, or of the name.
-- By what `is_mangled` ensures. Assumes nothing.
use Rattle.keys.proofs.SlotLaws.{record_mangled, record_plain}
use Rattle.keys.proofs.keys.key_record.Goals as goal

pub returns-then-is_mangled : goal.returns-then-is_mangled
returns-then-is_mangled c = record_mangled _ _ _ _ c.is_mangled.ensures _ c.if-is_mangled.true c.reference.ensures

pub returns-else-is_mangled : goal.returns-else-is_mangled
returns-else-is_mangled c = record_plain _ _ _ _ c.is_mangled.ensures _ c.if-is_mangled.false c.reference-else-is_mangled.ensures
