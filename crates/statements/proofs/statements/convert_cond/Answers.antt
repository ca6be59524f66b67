-- The operand of a condition, which is a Bool.
-- It is typed first; any other type is refused. Assumes nothing.
use Rattle.statements.proofs.PlainTurns.{value-next}
use Rattle.statements.proofs.TypedLaws.{refused-types, typed-in_turn}
use Rattle.statements.proofs.StatedLaws.{type_converting}
use Rattle.statements.proofs.ReturnLaws.{cond_stop, cond_other, cond_is}
use Rattle.statements.proofs.statements.convert_cond.Goals as goal

pub convert_expr-requires : goal.convert_expr-requires
convert_expr-requires c = record { converting = (type_converting c.requires.converting.0 c.get_type.ensures, c.requires.converting.1); expr = c.requires.expr; in_turn = typed-in_turn c.requires.converting.0 c.get_type.ensures c.in-Ok.is }

pub returns-then-y-eq-BOOL_TYPE : goal.returns-then-y-eq-BOOL_TYPE
returns-then-y-eq-BOOL_TYPE c = record { converts_as = cond_is c.requires.converting.0 c.requires.expr c.get_type.ensures c.in-Ok.is c.if-y-eq-BOOL_TYPE.true c.convert_expr.ensures.converts_as; types = λ o k q. value-next c.requires.converting.0 c.get_type.ensures c.in-Ok.is (c.convert_expr.ensures.types o k q) }

pub returns-in-Err : goal.returns-in-Err
returns-in-Err c = record { converts_as = cond_stop c.requires.converting.0 c.requires.expr c.get_type.ensures c.in-Err.is; types = refused-types }

pub returns-else-y-eq-BOOL_TYPE : goal.returns-else-y-eq-BOOL_TYPE
returns-else-y-eq-BOOL_TYPE c = record { converts_as = cond_other c.requires.converting.0 c.requires.expr c.get_type.ensures c.in-Ok.is c.if-y-eq-BOOL_TYPE.false c.error_at.ensures; types = refused-types }
