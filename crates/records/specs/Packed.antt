-- A row of the table packed into one number, as the code looks it up. No contract that callers see speaks of it.
-- Assumes nothing: this is a definition.
use Rattle.std.specs.Prelude.{ℕ, ◌/◌, ◌%◌}
use Rattle.records.specs.declared.shape.Row.{Row}
use Rattle.records.specs.Shapes.{row, role_of}

-- the limit below 256; above it a digit below 16 for the role of each word, A's lowest
unfoldable pub unpacked : ℕ → Row
unfolding role_of
unpacked p =
    row (p % 256) (role_of (p / 256 % 16)) (role_of (p / 4096 % 16)) (role_of (p / 65536 % 16)) (role_of (p / 1048576 % 16)) (role_of (p / 16777216 % 16))
