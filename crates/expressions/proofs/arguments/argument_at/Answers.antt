-- The item of the cell is an expression's record or a type's, by its kind.
-- The laws of an argument's cell. Assumes nothing.
use native.Mathlib.Omega.{arith}
use Rattle.expressions.proofs.ArgumentLaws.{at-cell, at_item, value_argument, type_argument}
use Rattle.expressions.proofs.arguments.argument_at.Goals as goal

pub reference-item-requires : goal.reference-item-requires
reference-item-requires c = record { record_bytes_in_bounds = at-cell _ _ c.requires.good _ c.requires.args_at c.requires.fact; k_bound = omega arith }

pub reference-inner-requires : goal.reference-inner-requires
reference-inner-requires c = record { record_bytes_in_bounds = at_item _ _ c.requires.good _ c.requires.args_at c.requires.fact _ c.reference-item.ensures; k_bound = omega arith }

pub kind-requires : goal.kind-requires
kind-requires c = at_item _ _ c.requires.good _ c.requires.args_at c.requires.fact _ c.reference-item.ensures

pub returns-then-kind-eq-KIND_VALUE : goal.returns-then-kind-eq-KIND_VALUE
returns-then-kind-eq-KIND_VALUE c = value_argument _ _ c.requires.good _ c.requires.args_at c.requires.fact _ _ _ c.reference-item.ensures c.reference-inner.ensures c.kind.ensures c.if-kind-eq-KIND_VALUE.true

pub returns : goal.returns
returns c = type_argument _ _ c.requires.good _ c.requires.args_at c.requires.fact _ _ _ c.reference-item.ensures c.reference-inner.ensures c.kind.ensures c.if-kind-eq-KIND_VALUE.false
