-- What an answer owes: the definition's step gives its result from any tables that the arena held, or stops with its error. Assumes nothing: these
-- are definitions.
use Rattle.std.specs.Prelude.{◌≡◌, List, ℕ, length}
use Rattle.records.specs.declared.convert_error.ConvertError.{ConvertError}
use Rattle.conversion.specs.Ir.{M}
use Rattle.texts.specs.Texts.{text_number}
use Rattle.ir.specs.declared.structs.Counters.{Counters}
use Rattle.ir.specs.Amounts.{Amount, Spent}
use Rattle.ir.specs.Steps.{Next, NextIn, StopsIn}
use Rattle.ir.specs.Arena.{NumberedTexts}

-- a result, with how far the tables are written; or a refusal
pub data StepAnswer (A : Type 0) : Type 0 where
  gave : A → Counters → StepAnswer A
  refused : ConvertError → StepAnswer A

-- the texts of a tree, each with its number: by it a string is looked for among those that are written
unfoldable pub texts_of : List ℕ → List ℕ → NumberedTexts
unfolding text_number
texts_of tree text = record { text = text; number = text_number tree text }

-- the definition's step gives a from any tables that the arena held, and adds at most n; for all texts, and for these
pub record Adds {A : Type 0} (m : M A) (n : Amount) (k : Counters) (l : List ℕ) (a : A) (k' : Counters) (l' : List ℕ) : Type 0 where
  pub next : Next m k l a k' l'
  pub spent : Spent k k' n
  pub long : length l' ≡ length l

pub record AddsIn {A : Type 0} (texts : NumberedTexts) (m : M A) (n : Amount) (k : Counters) (l : List ℕ) (a : A) (k' : Counters) (l' : List ℕ) : Type 0 where
  pub next : NextIn texts m k l a k' l'
  pub spent : Spent k k' n

-- the answer is what the definition's step m gives, which adds at most n, or its error at its place
pub record Meets {A : Type 0} (texts : NumberedTexts) (m : M A) (n : Amount) (k : Counters) (l l' : List ℕ) (a : StepAnswer A) : Type 0 where
  pub long : length l' ≡ length l
  pub gives : (x : A) (k' : Counters) → a ≡ gave x k' → AddsIn texts m n k l x k' l'
  pub stops : (e : ConvertError) → a ≡ refused e → StopsIn texts m k l e.kind e.place
