-- An Init of a new name behind its value: the variable, then the name, then the copy.
-- By what declaring answers. Assumes nothing.
use native.Mathlib.Omega.{arith}
use Rattle.statements.proofs.PlainTurns.{refused-stated}
use Rattle.statements.proofs.InitLaws.{new_type_lem, new_requires, new-taken, new_declared, new-types}
use Rattle.statements.proofs.statements.declare_init.Goals as goal

pub overflow_cast-init_type : goal.overflow_cast-init_type
overflow_cast-init_type c = omega (arith, (new_type_lem c.requires.converting.0 c.requires.converting.1 c.requires.kind.0 c.requires.kind.1 c.init_type.ensures).below, c.requires.converting.0.ready.keyed.good.few)

pub declare_name-requires : goal.declare_name-requires
declare_name-requires c = new_requires c.requires.converting.0 c.requires.converting.1 c.requires.kind.0 c.requires.kind.1 c.init_type.ensures (omega (arith, c.arena-1.given)) c.new_var-v.ensures

pub returns-in-None : goal.returns-in-None
returns-in-None c = record { declares_as = new-taken c.requires.converting.0 c.requires.converting.1 c.requires.kind.0 c.requires.kind.1 c.init_type.ensures (omega (arith, c.arena-1.given)) c.new_var-v.ensures c.args.src c.detail-constant.ensures c.declare_name.ensures c.in-None.is c.error_at.ensures; types = refused-stated }

pub returns-in-Some : goal.returns-in-Some
returns-in-Some c = record { declares_as = new_declared c.requires.converting.0 c.requires.converting.1 c.requires.kind.0 c.requires.kind.1 c.init_type.ensures (omega (arith, c.arena-1.given)) c.new_var-v.ensures c.args.src c.detail-constant.ensures c.declare_name.ensures c.in-Some.is (omega arith) c.emit_copy.ensures; types = λ _ _ _. new-types c.requires.converting.0 c.requires.converting.1 c.requires.kind.0 c.requires.kind.1 c.init_type.ensures (omega (arith, c.arena-1.given)) c.new_var-v.ensures c.args.src c.detail-constant.ensures c.declare_name.ensures c.in-Some.is c.requires.in_turn }
