-- The type in a parameter's record; behind the parameters long Float.
-- By the law of the first parameter, and of none. Assumes nothing.
use native.Mathlib.Omega.{arith}
use Rattle.expressions.proofs.TakeLaws.{at_parameter, at-variable, variable_type_lem}
use Rattle.statements.proofs.FitLaws.{behind-type, own-type}
use Rattle.statements.proofs.fits.parameter_type.Goals as goal

pub returns-then-parameter-eq-END : goal.returns-then-parameter-eq-END
returns-then-parameter-eq-END c = (behind-type _ _ c.requires.0 _ c.requires.1 c.if-parameter-eq-END.true, c.requires.2)

pub reference-requires : goal.reference-requires
reference-requires c = record { record_bytes_in_bounds = at_parameter _ _ c.requires.0 _ c.requires.1 c.if-parameter-eq-END.false; k_bound = omega arith }

pub reference-requires-2 : goal.reference-requires-2
reference-requires-2 c = record { record_bytes_in_bounds = at-variable _ _ c.requires.0 _ c.requires.1 c.if-parameter-eq-END.false _ c.reference.ensures; k_bound = omega arith }

pub returns : goal.returns
returns c = (own-type _ _ c.requires.0 _ c.requires.1 c.if-parameter-eq-END.false _ c.reference.ensures _ c.reference-2.ensures, variable_type_lem _ _ c.requires.0 _ c.requires.1 c.if-parameter-eq-END.false _ c.reference.ensures _ c.reference-2.ensures)
