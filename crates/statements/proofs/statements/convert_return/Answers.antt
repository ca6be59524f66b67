-- A Return, by the type of its value and that of its function.
-- Typed first; the function's type is word D of its record. Assumes nothing.
use Rattle.expressions.proofs.TypingLaws.{is-typed}
use Rattle.statements.proofs.PlainTurns.{typing_in, refused-stated}
use Rattle.statements.proofs.TypedLaws.{typed-in_turn}
use Rattle.statements.proofs.StatedLaws.{type_converting}
use Rattle.statements.proofs.ReturnLaws.{return-expr, expected_type_lem, return_untyped, return-none, return_some, return-next}
use Rattle.statements.proofs.statements.convert_return.Goals as goal

pub get_type-requires : goal.get_type-requires
get_type-requires c = record { typing = typing_in c.requires.converting.0 c.requires.in_turn; expr = return-expr c.requires.converting.0.ready.keyed.good c.reference-e.ensures c.requires.kind }

pub returns-then-expected : goal.returns-then-expected
returns-then-expected c = record { states_as = return-none c.requires.converting.0 c.requires.kind c.reference-e.ensures c.get_type.ensures c.reference-expected.ensures c.in-Ok.is c.if-expected.true c.error_at.ensures; types = refused-stated }

pub return_as-requires : goal.return_as-requires
return_as-requires c = record { converting = (type_converting c.requires.converting.0 c.get_type.ensures, c.requires.converting.1); kind = (c.requires.kind, is-typed _ _ _ c.get_type.ensures.typed c.in-Ok.is, expected_type_lem c.requires.converting.0 c.requires.kind c.reference-e.ensures c.get_type.ensures c.reference-expected.ensures c.if-expected.false); in_turn = typed-in_turn c.requires.converting.0 c.get_type.ensures c.in-Ok.is }

pub returns-in-Err : goal.returns-in-Err
returns-in-Err c = record { states_as = return_untyped c.requires.converting.0 c.requires.kind c.reference-e.ensures c.get_type.ensures c.in-Err.is; types = refused-stated }

pub returns-else-expected : goal.returns-else-expected
returns-else-expected c = record { states_as = return_some c.requires.converting.0 c.requires.kind c.reference-e.ensures c.get_type.ensures c.reference-expected.ensures c.in-Ok.is c.if-expected.false c.return_as.ensures.states_as; types = λ sc k h. return-next c.requires.converting.0 c.requires.kind c.reference-e.ensures c.get_type.ensures c.in-Ok.is (c.return_as.ensures.types sc k h) }
