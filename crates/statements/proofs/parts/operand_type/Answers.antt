-- The type that both sides of a Binary are fitted to.
-- What typing answers, by its three answers. Assumes nothing.
use mathlib.Core.List.{[]}
use mathlib.Core.Path.{ap, ◌∙◌}
use Rattle.std.specs.Prelude.{Ok}
use Rattle.statements.proofs.AroundLaws.{common-refused, common-is, common-neither, is-types, neither-types, refused-common}
use Rattle.statements.specs.Lent.{at}
use Rattle.statements.proofs.parts.operand_type.Goals as goal

pub common_type-requires : goal.common_type-requires
common_type-requires c = record { typing = record { ready = c.requires.ready; remembers = c.requires.by_index [] }; kind = c.requires.kind.0 }

pub returns-in-Err : goal.returns-in-Err
returns-in-Err c = record { by_index_2 = λ k. common-refused _ _ _ c.common_type.ensures _ c.in-Err.is; types = λ k. refused-common }

pub returns-in-Ok-Some : goal.returns-in-Ok-Some
returns-in-Ok-Some c = record { by_index_2 = λ k. common-is _ _ _ c.common_type.ensures _ (c.in-Ok-Some.is ∙ ap Ok c.in-Ok-Some.field-0-is); types = λ k. is-types (at c.args.c k) _ c.common_type.ensures _ (c.in-Ok-Some.is ∙ ap Ok c.in-Ok-Some.field-0-is) _ }

pub returns-in-Ok-None : goal.returns-in-Ok-None
returns-in-Ok-None c = record { by_index_2 = λ k. common-neither _ _ _ c.common_type.ensures (c.in-Ok-None.is ∙ ap Ok c.in-Ok-None.field-0-is) c.requires.kind.1; types = λ k. neither-types (at c.args.c k) _ c.common_type.ensures (c.in-Ok-None.is ∙ ap Ok c.in-Ok-None.field-0-is) _ }
