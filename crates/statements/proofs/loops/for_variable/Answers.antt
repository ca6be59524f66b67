-- The variable of a For: declared, or one of the blocks around where its record has no type.
-- By the word of its type. Assumes nothing.
use Rattle.statements.proofs.TurnLaws.{turns_refl}
use Rattle.statements.proofs.ForLaws.{variable-inside, variable-typed, variable-typed-none}
use native.Mathlib.Omega.{arith}
use Rattle.statements.specs.Lent.{at}
use Rattle.statements.proofs.loops.for_variable.Goals as goal

pub word-requires : goal.word-requires
word-requires c = (variable-inside c.requires.converting.0.ready.keyed.good c.requires.kind c.reference-v.ensures, omega arith)

pub returns-then-word : goal.returns-then-word
returns-then-word c = record { variable_as = c.for_known.ensures _ _ c.requires.converting.0; types = variable-typed-none (at c.args.c c.args.k.now) (turns_refl _ _) c.requires.in_turn }

pub for_declared-requires : goal.for_declared-requires
for_declared-requires c = record { converting = c.requires.converting; kind = (c.requires.kind, c.reference-v.ensures, variable-typed c.requires.converting.0.ready.keyed.good c.requires.kind c.reference-v.ensures c.word.ensures c.if-word.false); in_turn = c.requires.in_turn }
