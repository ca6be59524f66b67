-- The operand of four words.
-- By their tag. Assumes nothing.
use native.Mathlib.Omega.{arith}
use Rattle.statements.proofs.StackLaws.{from_var, from-none, from_int, from_float, from_bool, from_string, from_null}
use Rattle.statements.proofs.operands.operand_of.Goals as goal

pub returns-then-tag-eq-TAG_VARIABLE : goal.returns-then-tag-eq-TAG_VARIABLE
returns-then-tag-eq-TAG_VARIABLE c = from_var _ _ _ _ c.if-tag-eq-TAG_VARIABLE.true

pub returns-then-tag-lt-TAG_INT : goal.returns-then-tag-lt-TAG_INT
returns-then-tag-lt-TAG_INT c = from-none _ _ _ _ c.if-tag-eq-TAG_VARIABLE.false c.if-tag-lt-TAG_INT.true

pub returns-then-tag-lt-TAG_FLOAT : goal.returns-then-tag-lt-TAG_FLOAT
returns-then-tag-lt-TAG_FLOAT c = from_int _ _ _ _ c.if-tag-lt-TAG_INT.false c.if-tag-lt-TAG_FLOAT.true

pub returns-then-tag-eq-TAG_FLOAT : goal.returns-then-tag-eq-TAG_FLOAT
returns-then-tag-eq-TAG_FLOAT c = from_float _ _ _ _ c.if-tag-eq-TAG_FLOAT.true

pub returns-then-tag-eq-TAG_BOOL : goal.returns-then-tag-eq-TAG_BOOL
returns-then-tag-eq-TAG_BOOL c = from_bool _ _ _ _ c.if-tag-eq-TAG_BOOL.true

pub returns-then-tag-eq-TAG_STRING : goal.returns-then-tag-eq-TAG_STRING
returns-then-tag-eq-TAG_STRING c = from_string _ _ _ _ c.if-tag-eq-TAG_STRING.true

pub returns : goal.returns
returns c = from_null _ _ _ _ (omega arith)
