-- A Declare, Init, Return or call statement is converted by its kind.
-- Each branch is the definition's case of that kind. Assumes nothing.
use native.Mathlib.Omega.{arith}
use Rattle.statements.proofs.PlainTurns.{own-declare, own_init, own-return}
use Rattle.statements.proofs.BlockLaws.{plain_declare, plain_init, plain_return, plain_call}
use Rattle.statements.specs.Lent.{at}
use Rattle.statements.proofs.blocks.convert_plain.Goals as goal

pub returns-in-15 : goal.returns-in-15
returns-in-15 c = record { states_as = plain_declare _ _ c.kind.ensures c.in-15.is c.convert_declare.ensures.states_as; types = λ sc k h. own-declare c.requires.converting.0.ready.keyed.good (at c.args.c c.args.k.now) c.requires.statement.0.below c.kind.ensures c.in-15.is (c.convert_declare.ensures.types sc k h) }

pub returns-in-16 : goal.returns-in-16
returns-in-16 c = record { states_as = plain_init _ _ c.kind.ensures c.in-16.is c.convert_init.ensures.states_as; types = λ sc k h. own_init c.requires.converting.0.ready.keyed.good (at c.args.c c.args.k.now) c.requires.statement.0.below c.kind.ensures c.in-16.is (c.convert_init.ensures.types sc k h) }

pub returns-in-17 : goal.returns-in-17
returns-in-17 c = record { states_as = plain_return _ _ c.kind.ensures c.in-17.is c.convert_return.ensures.states_as; types = λ sc k h. own-return c.requires.converting.0.ready.keyed.good (at c.args.c c.args.k.now) c.requires.statement.0.below c.kind.ensures c.in-17.is (c.convert_return.ensures.types sc k h) }

pub returns-in_default : goal.returns-in_default
returns-in_default c = record { states_as = plain_call _ _ c.kind.ensures (λ e. omega arith) (λ e. omega arith) (λ e. omega arith) c.convert_call.ensures.states_as; types = c.convert_call.ensures.types }
