-- Parts of the text, as the code holds them: by offset and length. Assumes nothing: these are definitions.
use Rattle.std.specs.Prelude.{◌≡◌, ℕ, ◌+◌, ◌≤◌, List, length}
use Rattle.records.specs.Words.{text_at}
use Rattle.syntax.specs.Syntax.{Text}
use Rattle.keys.specs.declared.parts.Part.{Part}

-- a part lies inside the text, and is this text
pub record PartIs (text : List ℕ) (p : Part) (t : Text) : Type 0 where
  pub inside : p.offset + p.len ≤ length text
  pub is : text_at text p.offset p.len ≡ t
