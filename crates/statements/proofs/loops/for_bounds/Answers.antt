-- Both bounds of a For are checked, the second where the first is fine.
-- By what each check owes; the scope stays. Assumes nothing.
use Rattle.std.proofs.lemmas.Result.{err_from_is_err_and}
use mathlib.Core.List.{[]}
use Rattle.expressions.proofs.SlotLaws.{ready-frame}
use Rattle.statements.proofs.ForLaws.{bounds_not, bounds_then, refused_outcome, checked_in_turn, bounds_typed}
use Rattle.statements.proofs.HeadLaws.{first_bound, second_bound}
use Rattle.statements.specs.Lent.{at}
use Rattle.statements.proofs.loops.for_bounds.Goals as goal

pub check_bound-requires : goal.check_bound-requires
check_bound-requires c = record { ready = (c.requires.ready.0, first_bound c.requires.ready.0.keyed.good c.requires.ready.1 c.reference-from.ensures, c.requires.ready.2); by_index = c.requires.by_index }

pub check_bound-requires-2 : goal.check_bound-requires-2
check_bound-requires-2 c = record { ready = (ready-frame _ _ _ (c.check_bound.ensures.by_index_2 []).frame _ _ c.requires.ready.0, second_bound c.requires.ready.0.keyed.good c.requires.ready.1 c.reference-until.ensures, c.requires.ready.2); by_index = λ k. checked_in_turn (at c.args.c k) c.requires.ready.0.scoped (c.check_bound.ensures.by_index_2 k) (c.check_bound.ensures.types k) c.in_ok-check_bound.was }

pub returns-in_err-check_bound : goal.returns-in_err-check_bound
returns-in_err-check_bound c = let p = err_from_is_err_and c.from_residual.result c.from_residual.ensures.1 in rw (p.1, p.2) (record { by_index_2 = λ k. bounds_not _ _ _ _ _ _ c.reference-from.ensures (c.check_bound.ensures.by_index_2 k) c.in_err-check_bound.was; types = λ k. refused_outcome })

pub returns : goal.returns
returns c = record { by_index_2 = λ k. bounds_then _ _ _ _ _ _ c.reference-from.ensures (c.check_bound.ensures.by_index_2 k) c.requires.ready.0.scoped c.in_ok-check_bound.was c.reference-until.ensures (c.check_bound-2.ensures.by_index_2 k); types = λ k. bounds_typed (at c.args.c k) _ c.requires.ready.0.scoped (c.check_bound.ensures.by_index_2 k) (c.check_bound.ensures.types k) c.in_ok-check_bound.was c.reference-from.ensures c.reference-until.ensures (c.check_bound-2.ensures.types k) }
