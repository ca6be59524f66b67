-- The regions of the scratch lie one behind the other within 72 bytes a record: the test is computed.
-- Assumes nothing.
use mathlib.Core.Path.{◌≡◌, refl}
use mathlib.Core.Bool.{true}
use Rattle.records.specs.Layout.{layout, scratch_each, fits_within}

pub layout-fits : fits_within scratch_each 0 layout ≡ true
unfolding fits_within
layout-fits = refl
