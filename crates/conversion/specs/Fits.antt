-- Entries that their table can say: each number fits its words, and a string's text stands where the entry points.
-- Cited by what the arena holds and by what is read back from the tables. Assumes nothing: these are definitions.
use Rattle.std.specs.Prelude.{◌≡◌, ℕ, ◌^◌, ◌<◌, List}
use Rattle.records.specs.Words.{text_at}
use Rattle.conversion.specs.Ir.{StringEntry, FloatEntry}

-- a string's place fits its words, and its text stands there
pub record StringStands (text : List ℕ) (s : StringEntry) : Type 0 where
  pub offset : s.offset < 2 ^ 32
  pub len : s.len < 2 ^ 32
  pub stands : s.text ≡ text_at text s.offset s.len

pub record FloatFits (f : FloatEntry) : Type 0 where
  pub bits : f.bits < 2 ^ 64
