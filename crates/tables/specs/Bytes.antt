-- A byte. Assumes nothing: these are definitions.
use Rattle.std.specs.Prelude.{ℕ, ◌<◌}

abbrev pub Byte : ℕ → Type 0
Byte n = n < 256
