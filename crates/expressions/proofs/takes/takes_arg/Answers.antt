-- The argument's expression fits the parameter's type, or the type argument is that type.
-- The laws of the first of both lists. Assumes nothing.
use native.Mathlib.Omega.{arith}
use Rattle.expressions.proofs.ArgumentLaws.{of-expr, slot-type}
use Rattle.expressions.proofs.TakeLaws.{as_type, at_parameter, at-variable, variable_type_lem, takes_value, takes_type}
use Rattle.expressions.proofs.takes.takes_arg.Goals as goal

pub reference-requires : goal.reference-requires
reference-requires c = record { record_bytes_in_bounds = at_parameter _ _ c.requires.argued.good _ c.requires.params_at c.requires.fact.1; k_bound = omega arith }

pub reference-ty-requires : goal.reference-ty-requires
reference-ty-requires c = record { record_bytes_in_bounds = at-variable _ _ c.requires.argued.good _ c.requires.params_at c.requires.fact.1 _ c.reference.ensures; k_bound = omega arith }

pub fits-requires : goal.fits-requires
fits-requires c = record { expr = (of-expr _ _ _ c.argument_at.ensures _ c.in-Expr.is).0; fact = as_type _ _ c.requires.argued.good _ (slot-type _ _ _ _ _ c.argument_at.ensures c.requires.argued.typed _ _ c.in-Expr.is c.slot.ensures); fact_2 = as_type _ _ c.requires.argued.good _ (variable_type_lem _ _ c.requires.argued.good _ c.requires.params_at c.requires.fact.1 _ c.reference.ensures _ c.reference-ty.ensures) }

pub returns-in-Expr : goal.returns-in-Expr
returns-in-Expr c = takes_value _ _ c.requires.argued.good _ c.requires.params_at c.requires.fact.1 _ c.reference.ensures _ c.reference-ty.ensures _ _ _ c.argument_at.ensures _ _ c.in-Expr.is c.slot.ensures _ (c.fits.ensures _)

pub returns-in-ToType : goal.returns-in-ToType
returns-in-ToType c = takes_type _ _ c.requires.argued.good _ c.requires.params_at c.requires.fact.1 _ c.reference.ensures _ c.reference-ty.ensures _ _ _ c.argument_at.ensures _ c.in-ToType.is
