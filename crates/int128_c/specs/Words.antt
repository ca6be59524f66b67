-- A number by its two halves, and an answer by a flag and two halves.
use Rattle.std.specs.Prelude.{ℕ, Bool, true, false, ℤ, Option, Some, None}
use Rattle.int128.specs.declared.Int128.{Int128}
use Rattle.int128.specs.Value.{value_of}

abbrev pub value_in : ℕ → ℕ → ℤ
value_in hi lo = value_of (record { hi = hi; lo = lo })

abbrev pub answer_in : Bool → ℕ → ℕ → Option Int128
answer_in true hi lo = Some (record { hi = hi; lo = lo })
answer_in false hi lo = None
