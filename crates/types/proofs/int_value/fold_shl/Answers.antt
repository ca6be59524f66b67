-- A left shift that loses no bits. It is taken back, and each answer is a case of `FoldCases`: nothing was shifted, nothing was
-- taken back, what was taken back is the old value, or it is not. Assumes nothing.
use mathlib.Core.Path.{sym, ap, ◌∙◌}
use Rattle.int128.specs.Value.{checked_of}
use Rattle.int128.proofs.Compare.{eq-is}
use Rattle.types.proofs.FoldCases.{shift_nothing, back_same, back_other, true_false}
use Rattle.types.proofs.int_value.fold_shl.Goals as goal

pub returns-in_err-v : goal.returns-in_err-v
returns-in_err-v c = ap checked_of c.from_residual.ensures ∙ shift_nothing _ _ _ c.checked_shl_by.ensures c.in_err-v.was

pub returns-then-eq : goal.returns-then-eq
returns-then-eq c = back_same _ _ _ c.checked_shl_by.ensures _ c.in_ok-v.was _ c.checked_shr_by.ensures _ c.in_ok-back.was ((eq-is c.in_ok-back.back c.args.left).0 (sym c.eq.ensures ∙ c.if-eq.true))

pub returns : goal.returns
returns c = back_other _ _ _ c.checked_shl_by.ensures _ c.in_ok-v.was _ c.checked_shr_by.ensures _ c.in_ok-back.was (λ e. true_false (sym ((eq-is c.in_ok-back.back c.args.left).1 e) ∙ sym c.eq.ensures ∙ c.if-eq.false))
