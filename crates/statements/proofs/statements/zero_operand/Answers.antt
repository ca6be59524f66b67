-- The bool below the form of an Address, the null from there on.
-- By the test. Assumes nothing.
use Rattle.statements.proofs.DeclareLaws.{less_picks, least_picks}
use Rattle.statements.proofs.statements.zero_operand.Goals as goal

pub returns-then-f-lt-FORM_ADDRESS : goal.returns-then-f-lt-FORM_ADDRESS
returns-then-f-lt-FORM_ADDRESS c = less_picks _ _ c.if-f-lt-FORM_ADDRESS.true

pub returns : goal.returns
returns c = least_picks _ _ c.if-f-lt-FORM_ADDRESS.false
