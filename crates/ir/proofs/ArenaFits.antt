-- The regions of the arena lie one behind the other within 320 bytes a record, and each has the bytes of as many entries as are counted.
-- The tests are computed. Assumes nothing.
use mathlib.Core.Path.{◌≡◌, refl}
use mathlib.Core.Bool.{true}
use Prim.Native.Nat.{◌*◌}
use Rattle.ir.specs.Arena.{instructions, variables, labels, functions, strings, floats, string_numbers, label_slots, float_links, float_heads, string_slots, arena, arena_each}
use Rattle.records.specs.Layout.{fits_within}

pub arena-fits : fits_within arena_each 0 arena ≡ true
unfolding fits_within
arena-fits = refl

-- entries a record, by the bytes of an entry
pub entries_fit : (instructions.each ≡ 4 * 32) × (variables.each ≡ 3 * 4) × (labels.each ≡ 3 * 8) × (functions.each ≡ 1 * 32) × (strings.each ≡ 1 * 8)
    × (floats.each ≡ 2 * 16) × (string_numbers.each ≡ 1 * 4) × (label_slots.each ≡ 7 * 4) × (float_links.each ≡ 2 * 4) × (float_heads.each ≡ 1 * 4)
    × (string_slots.each ≡ 1 * 4)
entries_fit = (refl, refl, refl, refl, refl, refl, refl, refl, refl, refl, refl)
