-- What acceptance by the judge means: a tree of whole records, not too many, each of which breaks no rule. Assumes nothing: these are definitions.
use Rattle.std.specs.Prelude.{◌≡◌, ℕ, ◌*◌, ◌≤◌, ◌<◌, true, List, length}
use Rattle.records.specs.Words.{record_bytes, records, most_records}
use Rattle.records.specs.Rules.{record_ok}

-- '24: tree not a multiple of 32, .. or over 16,384 records', 'a record breaks a rule above or its text leaves the buffer': none of these
pub record Good (tree text : List ℕ) : Type 0 where
  pub whole : length tree ≡ records tree * record_bytes
  pub few : records tree ≤ most_records
  pub ok : (r : ℕ) → r < records tree → record_ok tree text r ≡ true
