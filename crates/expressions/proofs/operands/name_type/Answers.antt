-- `name_type` meets its contract: the variable's type, or a refusal at the name.
-- By what the search for the name finds, whatever variables the scope stands for. Assumes nothing.
use mathlib.Core.Path.{ap}
use Rattle.std.specs.Prelude.{ok_or}
use Rattle.conversion.specs.ConvertError.{UnknownVariable}
use Rattle.expressions.proofs.LeafLaws.{name-known, name_unknown}
use Rattle.expressions.proofs.OriginalLaws.{name-asked}
use Rattle.expressions.proofs.operands.name_type.Goals as goal

pub find_name-requires : goal.find_name-requires
find_name-requires c = name-asked c.requires.good c.requires.scoped c.requires.kind

pub returns-in-Some : goal.returns-in-Some
returns-in-Some c = name-known _ _ _ _ _ c.requires.scoped c.requires.kind _ c.find_name.ensures (record { kind = UnknownVariable; place = c.args.e }) _ (ap (λ r. ok_or r (record { kind = UnknownVariable; place = c.args.e })) c.in-Some.is)

pub returns-in-None : goal.returns-in-None
returns-in-None c = rw c.refuse.ensures (name_unknown _ _ _ _ _ c.requires.scoped c.requires.kind _ c.find_name.ensures _ (ap (λ r. ok_or r (record { kind = UnknownVariable; place = c.args.e })) c.in-None.is))
