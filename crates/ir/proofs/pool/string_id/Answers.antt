-- The string whose text has this number.
-- It is the one at the slot of the number, or a string more. Assumes nothing.
use mathlib.Core.Path.{refl, sym, ◌∙◌}
use native.Mathlib.Omega.{arith}
use Rattle.ir.proofs.Answers.{string_at, string_nowhere}
use Rattle.ir.proofs.pool.string_id.Goals as goal

pub returns-then-has_number : goal.returns-then-has_number
returns-then-has_number c = string_at _ _ _ _ _ _ c.requires.0 c.requires.2 (c.index.ensures ∙ c.load-number.ensures) _ _ c.has_number.ensures c.if-has_number.true (sym c.index.ensures) refl

pub returns : goal.returns
returns c = string_nowhere _ _ _ _ _ _ c.requires.0 c.requires.2 (c.index.ensures ∙ c.load-number.ensures) _ _ _ c.requires.1 (omega arith) (omega arith) c.has_number.ensures c.if-has_number.false c.add_string.ensures
