-- The variable of an open name.
-- By what `load` ensures of its words. Assumes nothing.
use mathlib.Core.Path.{ap, ap₂}
use Prim.Native.Nat.{ℕ, ◌/◌, ◌%◌}
use lib.Dec.{eqb}
use Rattle.conversion.specs.Ir.{VarId}
use Rattle.scope.specs.Open.{VariableAt}
use Rattle.scope.proofs.variable_at.Goals as goal

-- a variable by its number and its type
abbrev numbered : ℕ → ℕ → VarId
numbered i y = record { id = i; ty = y }

pub returns : goal.returns
unfolding VariableAt
returns c = (ap₂ numbered c.load-id.ensures (ap (λ (y : ℕ). y / 2) c.load-w.ensures), ap (λ (y : ℕ). eqb (y % 2) 1) c.load-w.ensures)
