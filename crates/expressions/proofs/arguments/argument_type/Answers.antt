-- An expression's type stands at its slot; a type argument is its type.
-- The laws of the typed arguments. Assumes nothing.
use Rattle.expressions.proofs.ArgumentLaws.{first_slot, first-type}
use Rattle.expressions.proofs.arguments.argument_type.Goals as goal

pub returns-in-Expr : goal.returns-in-Expr
returns-in-Expr c = first_slot _ _ _ _ _ c.argument_at.ensures c.requires.argued.typed _ _ c.in-Expr.is c.slot.ensures

pub returns-in-ToType : goal.returns-in-ToType
returns-in-ToType c = first-type _ _ _ _ _ c.argument_at.ensures c.requires.argued.typed _ c.in-ToType.is
