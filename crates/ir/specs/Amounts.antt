-- How many entries are still to come, at most, and that the tables have room for them. What a step spends of it is taken away, so that a
-- whole conversion asks for its amount once. Assumes nothing: these are definitions.
use Rattle.std.specs.Prelude.{◌≡◌, ℕ, ◌+◌, ◌*◌, ◌≤◌}
use Rattle.ir.specs.declared.structs.Counters.{Counters}

-- so many entries of each table
pub record Amount : Type 0 where
  pub instructions : ℕ
  pub variables : ℕ
  pub labels : ℕ
  pub strings : ℕ
  pub floats : ℕ

abbrev pub amount : ℕ → ℕ → ℕ → ℕ → ℕ → Amount
amount i v l s f = record { instructions = i; variables = v; labels = l; strings = s; floats = f }

-- one amount, and behind it another
abbrev pub both : Amount → Amount → Amount
both a b = amount (a.instructions + b.instructions) (a.variables + b.variables) (a.labels + b.labels) (a.strings + b.strings) (a.floats + b.floats)

-- each table has room for its amount: 4 instructions a record, 3 variables, 3 labels, 1 string, 2 floats
pub record Affords (k : Counters) (a : Amount) : Type 0 where
  pub instructions : k.instructions + a.instructions ≤ 4 * k.records
  pub variables : k.variables + a.variables ≤ 3 * k.records
  pub labels : k.labels + a.labels ≤ 3 * k.records
  pub strings : k.strings + a.strings ≤ k.records
  pub floats : k.floats + a.floats ≤ 2 * k.records

-- from k to k' at most this amount was added, to the tables of one function, and no instruction taken away
pub record Spent (k k' : Counters) (a : Amount) : Type 0 where
  pub records : k'.records ≡ k.records
  pub instructions : k'.instructions ≤ k.instructions + a.instructions
  pub instructions_stay : k.instructions ≤ k'.instructions
  pub variables : k'.variables ≤ k.variables + a.variables
  pub labels : k'.labels ≤ k.labels + a.labels
  pub strings : k'.strings ≤ k.strings + a.strings
  pub floats : k'.floats ≤ k.floats + a.floats
  pub functions : k'.functions ≡ k.functions
  pub instructions_before : k'.instructions_before ≡ k.instructions_before
  pub variables_before : k'.variables_before ≡ k.variables_before
  pub labels_before : k'.labels_before ≡ k.labels_before
