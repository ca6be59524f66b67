-- An instruction more, whichever is written so.
-- From what `put_fields` wrote, and the word that was stored. Assumes nothing.
use native.Mathlib.Omega.{arith}
use Rattle.ir.specs.Counted.{counted}
use Rattle.ir.proofs.LentLaws.{ten, emit-lent}
use borrow.Author.Rules.{rules}
use Rattle.ir.proofs.structs.push.Goals as goal

pub bounds-k-1 : goal.bounds-k-1
bounds-k-1 c = omega (arith, ten _ _ c.requires.0)

pub overflow_add-k : goal.overflow_add-k
unfolding counted
overflow_add-k c = search rules

pub bounds-k-1-2 : goal.bounds-k-1-2
bounds-k-1-2 c = omega (arith, ten _ _ c.requires.0)

pub overflow_mul-n : goal.overflow_mul-n
unfolding counted
overflow_mul-n c = search rules

pub put_fields-requires : goal.put_fields-requires
unfolding counted
put_fields-requires c = search rules

pub returns : goal.returns
unfolding counted
returns c = λ i e. emit-lent i _ c.args.k.now _ _ c.requires.0 c.requires.1 e c.put_fields.ensures
