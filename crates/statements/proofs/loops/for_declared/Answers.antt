-- The variable that a For declares, new in the scope of its body.
-- By what the new variable and its name owe. Assumes nothing.
use native.Mathlib.Omega.{arith}
use Rattle.statements.proofs.ForLaws.{variable-inside, declare_asks, for_taken, for_done, refused-variable, declared_none}
use Rattle.statements.proofs.loops.for_declared.Goals as goal

pub word-requires : goal.word-requires
word-requires c = (variable-inside c.requires.converting.0.ready.keyed.good c.requires.kind.0 c.requires.kind.1, omega arith)

pub declare_name-requires : goal.declare_name-requires
declare_name-requires c = declare_asks c.requires.converting.0 c.requires.converting.1 c.requires.kind.0 c.requires.kind.1 c.requires.kind.2 c.word.ensures (omega arith) c.new_var-x.ensures

pub returns-in-None : goal.returns-in-None
returns-in-None c = record { variable_as = for_taken c.requires.converting.0 c.requires.converting.1 c.requires.kind.0 c.requires.kind.1 c.requires.kind.2 c.word.ensures (omega arith) c.new_var-x.ensures _ c.declare_name.ensures c.in-None.is c.error_at.ensures; types = refused-variable }

pub returns-in-Some : goal.returns-in-Some
returns-in-Some c = record { variable_as = for_done c.requires.converting.0 c.requires.converting.1 c.requires.kind.0 c.requires.kind.1 c.requires.kind.2 c.word.ensures (omega arith) c.new_var-x.ensures _ c.declare_name.ensures c.in-Some.is; types = declared_none c.requires.converting.0 c.requires.converting.1 c.requires.kind.0 c.requires.kind.1 c.requires.kind.2 c.word.ensures (omega arith) c.new_var-x.ensures _ c.declare_name.ensures c.in-Some.is c.requires.in_turn }
