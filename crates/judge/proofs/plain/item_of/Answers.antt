-- Which list a record may stand in, by its kind and the table.
-- Each return is a case of `PlainClass`. Assumes nothing.
use native.Mathlib.Omega.{arith}
use Rattle.judge.proofs.PlainClass.{item-high, variable_untyped, variable-typed, item-table}
use Rattle.judge.proofs.plain.item_of.Goals as goal

pub returns-then-k-gt-KIND_FUNCTION : goal.returns-then-k-gt-KIND_FUNCTION
returns-then-k-gt-KIND_FUNCTION c = item-high _ _ _ c.requires.1 c.if-k-gt-KIND_FUNCTION.true

pub returns-then-word : goal.returns-then-word
returns-then-word c = variable_untyped _ _ _ c.requires.1 c.if-k-eq-KIND_VARIABLE.true _ c.word.ensures c.if-word.true

pub returns-then-k-eq-KIND_VARIABLE : goal.returns-then-k-eq-KIND_VARIABLE
returns-then-k-eq-KIND_VARIABLE c = variable-typed _ _ _ c.requires.1 c.if-k-eq-KIND_VARIABLE.true _ c.word.ensures c.if-word.false

pub returns : goal.returns
returns c = item-table _ _ _ c.requires.1 _ c.requires.2 (omega (arith, c.if-k-gt-KIND_FUNCTION.false)) c.if-k-eq-KIND_VARIABLE.false
