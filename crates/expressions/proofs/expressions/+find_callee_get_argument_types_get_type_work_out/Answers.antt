-- `get_type`, `work_out`, `find_callee` and `get_argument_types` meet their contracts. Their measures are 4e + 3, 4e + 2, 4r + 1 and 4r: a call goes to a lower record, or
-- down this order. Each need is a law of TypingLaws or of ArgumentTurns; the loop's invariant is `Left`, its measure the cell's number. Assumes nothing.
use mathlib.Core.Path.{refl}
use native.Mathlib.Omega.{arith}
use Rattle.std.proofs.lemmas.Result.{err_from_is_err_and}
use Rattle.expressions.proofs.SlotLaws.{keyed-frame}
use Rattle.expressions.proofs.OperandLaws.{operands-are}
use Rattle.expressions.proofs.TurnLaws.{typing_next}
use Rattle.expressions.proofs.TypingLaws.{is-typed, is-kind, operand-expr, left-expr, right-expr, unary-stop, unary-next, left-stop, right-stop, right_next_lem, call_value_lem, leaf_meets, type-known, keep_ready, keep_meets, call-stop, call_next}
use Rattle.expressions.proofs.ArgumentTurns.{loop_start_lem, loop_end_lem, cell_falls, turn-type, value_low, turn-stop, turn-value}
use Rattle.expressions.proofs.expressions.+find_callee_get_argument_types_get_type_work_out.Goals.{get_argument_types-in-Expr+in_ok-get_type, get_argument_types-in_default}
use Rattle.expressions.proofs.expressions.+find_callee_get_argument_types_get_type_work_out.Goals as goal

pub get_argument_types-loop-cell-init : goal.get_argument_types-loop-cell-init
get_argument_types-loop-cell-init t c = loop_start_lem _ _ c.requires.typing.ready.keyed.good _ _ _ _ c.requires.typing c.requires.kind _ c.reference-cell.ensures

pub get_argument_types-get_type-requires : goal.get_argument_types-get_type-requires
get_argument_types-get_type-requires t c = let h = value_low _ _ c.requires.typing.ready.keyed.good _ _ _ _ c.requires.typing _ _ c.loop-cell.invariant c.loop-cell-test.true _ c.argument_at.ensures _ c.in-Expr.is in
    (omega (arith, h.0, c.decreases), (c.loop-cell.invariant.typing, h.1))

pub get_argument_types-returns-in_err-get_type : goal.get_argument_types-returns-in_err-get_type
get_argument_types-returns-in_err-get_type t c = let p = err_from_is_err_and c.from_residual.result c.from_residual.ensures.1 in
    rw (p.1, p.2) (turn-stop _ _ c.requires.typing.ready.keyed.good _ _ _ _ c.requires.typing _ _ c.loop-cell.invariant c.loop-cell-test.true _ c.argument_at.ensures _ c.in-Expr.is _ _ c.get_type.ensures _ c.in_err-get_type.was)

pub get_argument_types-loop-cell-smaller : goal.get_argument_types-loop-cell-smaller
get_argument_types-loop-cell-smaller t c = cell_falls _ _ c.requires.typing.ready.keyed.good _ _ _ _ c.requires.typing _ _ c.loop-cell.invariant c.loop-cell-test.true _ c.next_cell-cell.ensures

pub get_argument_types-loop-cell-preserved : goal.get_argument_types-loop-cell-preserved
get_argument_types-loop-cell-preserved t c = elim c.match-argument_at.branch [ get_argument_types-in-Expr+in_ok-get_type w ↦ turn-value _ _ c.requires.typing.ready.keyed.good _ _ _ _ c.requires.typing _ _ c.loop-cell.invariant c.loop-cell-test.true _ c.argument_at.ensures _ w.in-Expr.is _ _ w.get_type.ensures _ w.in_ok-get_type.was _ w.scratch-is _ c.next_cell-cell.ensures | get_argument_types-in_default w ↦ turn-type _ _ c.requires.typing.ready.keyed.good _ _ _ _ c.requires.typing _ _ c.loop-cell.invariant c.loop-cell-test.true _ c.argument_at.ensures _ w.in_default.is _ w.scratch-is _ c.next_cell-cell.ensures ]

pub get_argument_types-returns : goal.get_argument_types-returns
get_argument_types-returns t c = loop_end_lem _ _ c.requires.typing.ready.keyed.good _ _ _ _ c.requires.typing _ _ c.loop-cell.invariant c.loop-cell-test.false

pub get_type-returns-then-is_typed : goal.get_type-returns-then-is_typed
get_type-returns-then-is_typed t c = type-known _ _ c.requires.typing.ready.keyed.good _ c.requires.expr _ _ _ c.requires.typing _ c.is_typed.ensures c.if-is_typed.true _ c.slot.ensures

pub find_callee-resolve_typed-requires : goal.find_callee-resolve_typed-requires
find_callee-resolve_typed-requires t c = record { keyed = keyed-frame _ _ _ c.get_argument_types.ensures.frame _ c.requires.typing.ready.keyed; kind = c.requires.kind; args_typed = c.get_argument_types.ensures.typed c.in_ok-get_argument_types.was }

pub find_callee-returns-in_err-get_argument_types : goal.find_callee-returns-in_err-get_argument_types
find_callee-returns-in_err-get_argument_types t c = let p = err_from_is_err_and c.from_residual.result c.from_residual.ensures.1 in
    rw (p.1, p.2) (call-stop _ _ c.requires.typing.ready.keyed.good _ _ _ _ _ _ c.get_argument_types.ensures _ c.in_err-get_argument_types.was)

pub find_callee-returns : goal.find_callee-returns
find_callee-returns t c = call_next _ _ c.requires.typing.ready.keyed.good _ _ _ _ _ _ c.get_argument_types.ensures c.in_ok-get_argument_types.was _ c.resolve_typed.ensures

pub work_out-get_type-requires : goal.work_out-get_type-requires
work_out-get_type-requires t c = let h = operand-expr _ _ c.requires.typing.ready.keyed.good _ _ c.requires.expr.0 c.kind-k.ensures c.if-k-eq-KIND_UNARY.true _ c.reference-left.ensures in
    (omega (arith, h.0, c.decreases), (c.requires.typing, h.1))

pub work_out-unary_type-a-requires : goal.work_out-unary_type-a-requires
work_out-unary_type-a-requires t c = record { good = c.requires.typing.ready.keyed.good; kind = is-kind _ _ c.requires.typing.ready.keyed.good _ _ c.requires.expr.0 c.kind-k.ensures 9 c.if-k-eq-KIND_UNARY.true; type_at = is-typed _ _ _ c.get_type.ensures.typed c.in-Ok.is }

pub work_out-keep-requires : goal.work_out-keep-requires
work_out-keep-requires t c = keep_ready _ _ c.requires.typing.ready.keyed.good _ c.requires.expr.0 _ _ _ c.requires.typing c.requires.expr.1 _ _ _ (unary-next _ _ c.requires.typing.ready.keyed.good _ _ c.requires.expr.0 c.kind-k.ensures _ _ _ c.if-k-eq-KIND_UNARY.true _ c.reference-left.ensures _ _ c.get_type.ensures _ c.in-Ok.is _ c.unary_type-a.ensures)

pub work_out-returns-in-Err : goal.work_out-returns-in-Err
work_out-returns-in-Err t c = unary-stop _ _ c.requires.typing.ready.keyed.good _ _ c.requires.expr.0 c.kind-k.ensures _ _ _ c.if-k-eq-KIND_UNARY.true _ c.reference-left.ensures _ _ c.get_type.ensures _ c.in-Err.is

pub work_out-returns-in-Ok : goal.work_out-returns-in-Ok
work_out-returns-in-Ok t c = keep_meets _ _ c.requires.typing.ready.keyed.good _ c.requires.expr.0 _ _ _ c.requires.typing c.requires.expr.1 _ _ _ (unary-next _ _ c.requires.typing.ready.keyed.good _ _ c.requires.expr.0 c.kind-k.ensures _ _ _ c.if-k-eq-KIND_UNARY.true _ c.reference-left.ensures _ _ c.get_type.ensures _ c.in-Ok.is _ c.unary_type-a.ensures) c.ranges.turn.fits _ _ c.keep.ensures

pub work_out-get_type-requires-then-k-eq-KIND_BINARY : goal.work_out-get_type-requires-then-k-eq-KIND_BINARY
work_out-get_type-requires-then-k-eq-KIND_BINARY t c = let h = left-expr _ _ c.requires.typing.ready.keyed.good _ _ c.requires.expr.0 c.kind-k.ensures c.if-k-eq-KIND_BINARY.true _ c.reference-left.ensures in
    (omega (arith, h.0, c.decreases), (c.requires.typing, h.1))

pub work_out-get_type-requires-in-Ok-get_type : goal.work_out-get_type-requires-in-Ok-get_type
work_out-get_type-requires-in-Ok-get_type t c = let h = right-expr _ _ c.requires.typing.ready.keyed.good _ _ c.requires.expr.0 c.kind-k.ensures c.if-k-eq-KIND_BINARY.true _ c.reference-right.ensures in
    (omega (arith, h.0, c.decreases), (typing_next _ _ _ _ _ c.requires.typing _ c.get_type-then-k-eq-KIND_BINARY.ensures.frame _ (c.get_type-then-k-eq-KIND_BINARY.ensures.adds _ c.in-Ok-get_type.is), h.1))

pub work_out-common_of-common-requires : goal.work_out-common_of-common-requires
work_out-common_of-common-requires t c = record {
  good = c.requires.typing.ready.keyed.good;
  operands = operands-are _ _ _ _ _ _ refl
      (left-expr _ _ c.requires.typing.ready.keyed.good _ _ c.requires.expr.0 c.kind-k.ensures c.if-k-eq-KIND_BINARY.true _ c.reference-left.ensures).1
      (is-typed _ _ _ c.get_type-then-k-eq-KIND_BINARY.ensures.typed c.in-Ok-get_type.is)
      (right-expr _ _ c.requires.typing.ready.keyed.good _ _ c.requires.expr.0 c.kind-k.ensures c.if-k-eq-KIND_BINARY.true _ c.reference-right.ensures).1
      (is-typed _ _ _ c.get_type-in-Ok-get_type.ensures.typed c.in-Ok-get_type-2.is);
}

pub work_out-binary_type-a-requires : goal.work_out-binary_type-a-requires
work_out-binary_type-a-requires t c = record {
  good = c.requires.typing.ready.keyed.good;
  operands = operands-are _ _ _ _ _ _ refl
      (left-expr _ _ c.requires.typing.ready.keyed.good _ _ c.requires.expr.0 c.kind-k.ensures c.if-k-eq-KIND_BINARY.true _ c.reference-left.ensures).1
      (is-typed _ _ _ c.get_type-then-k-eq-KIND_BINARY.ensures.typed c.in-Ok-get_type.is)
      (right-expr _ _ c.requires.typing.ready.keyed.good _ _ c.requires.expr.0 c.kind-k.ensures c.if-k-eq-KIND_BINARY.true _ c.reference-right.ensures).1
      (is-typed _ _ _ c.get_type-in-Ok-get_type.ensures.typed c.in-Ok-get_type-2.is);
  kind = is-kind _ _ c.requires.typing.ready.keyed.good _ _ c.requires.expr.0 c.kind-k.ensures 10 c.if-k-eq-KIND_BINARY.true;
  found_is = c.common_of-common.ensures;
}

pub work_out-keep-requires-in-Ok-get_type-2 : goal.work_out-keep-requires-in-Ok-get_type-2
work_out-keep-requires-in-Ok-get_type-2 t c = keep_ready _ _ c.requires.typing.ready.keyed.good _ c.requires.expr.0 _ _ _ c.requires.typing c.requires.expr.1 _ _ _ (right_next_lem _ _ c.requires.typing.ready.keyed.good _ _ c.requires.expr.0 c.kind-k.ensures _ _ _ c.if-k-eq-KIND_BINARY.true _ c.reference-left.ensures _ _ c.get_type-then-k-eq-KIND_BINARY.ensures c.requires.typing _ c.in-Ok-get_type.is _ c.reference-right.ensures _ _ c.get_type-in-Ok-get_type.ensures _ c.in-Ok-get_type-2.is _ refl _ c.binary_type-a.ensures _ c.common_of-common.ensures _ c.unwrap_or.ensures)

pub work_out-returns-in-Err-get_type : goal.work_out-returns-in-Err-get_type
work_out-returns-in-Err-get_type t c = left-stop _ _ c.requires.typing.ready.keyed.good _ _ c.requires.expr.0 c.kind-k.ensures _ _ _ c.if-k-eq-KIND_BINARY.true _ c.reference-left.ensures _ _ c.get_type-then-k-eq-KIND_BINARY.ensures _ c.in-Err-get_type.is

pub work_out-returns-in-Err-get_type-2 : goal.work_out-returns-in-Err-get_type-2
work_out-returns-in-Err-get_type-2 t c = right-stop _ _ c.requires.typing.ready.keyed.good _ _ c.requires.expr.0 c.kind-k.ensures _ _ _ c.if-k-eq-KIND_BINARY.true _ c.reference-left.ensures _ _ c.get_type-then-k-eq-KIND_BINARY.ensures c.requires.typing _ c.in-Ok-get_type.is _ c.reference-right.ensures _ _ c.get_type-in-Ok-get_type.ensures _ c.in-Err-get_type-2.is

pub work_out-returns-in-Ok-get_type-2 : goal.work_out-returns-in-Ok-get_type-2
work_out-returns-in-Ok-get_type-2 t c = keep_meets _ _ c.requires.typing.ready.keyed.good _ c.requires.expr.0 _ _ _ c.requires.typing c.requires.expr.1 _ _ _ (right_next_lem _ _ c.requires.typing.ready.keyed.good _ _ c.requires.expr.0 c.kind-k.ensures _ _ _ c.if-k-eq-KIND_BINARY.true _ c.reference-left.ensures _ _ c.get_type-then-k-eq-KIND_BINARY.ensures c.requires.typing _ c.in-Ok-get_type.is _ c.reference-right.ensures _ _ c.get_type-in-Ok-get_type.ensures _ c.in-Ok-get_type-2.is _ refl _ c.binary_type-a.ensures _ c.common_of-common.ensures _ c.unwrap_or.ensures) c.ranges.turn.fits _ _ c.keep-in-Ok-get_type-2.ensures

pub work_out-keep-requires-then-k-eq-KIND_CALL : goal.work_out-keep-requires-then-k-eq-KIND_CALL
work_out-keep-requires-then-k-eq-KIND_CALL t c = keep_ready _ _ c.requires.typing.ready.keyed.good _ c.requires.expr.0 _ _ _ c.requires.typing c.requires.expr.1 _ _ _ (call_value_lem _ _ c.requires.typing.ready.keyed.good _ _ c.requires.expr.0 c.kind-k.ensures _ _ _ c.if-k-eq-KIND_CALL.true _ _ c.find_callee-callee.ensures _ c.value_type-a.ensures _ c.callee_record.ensures)

pub work_out-returns-then-k-eq-KIND_CALL : goal.work_out-returns-then-k-eq-KIND_CALL
work_out-returns-then-k-eq-KIND_CALL t c = keep_meets _ _ c.requires.typing.ready.keyed.good _ c.requires.expr.0 _ _ _ c.requires.typing c.requires.expr.1 _ _ _ (call_value_lem _ _ c.requires.typing.ready.keyed.good _ _ c.requires.expr.0 c.kind-k.ensures _ _ _ c.if-k-eq-KIND_CALL.true _ _ c.find_callee-callee.ensures _ c.value_type-a.ensures _ c.callee_record.ensures) c.ranges.turn.fits _ _ c.keep-then-k-eq-KIND_CALL.ensures

pub work_out-keep-requires-2 : goal.work_out-keep-requires-2
work_out-keep-requires-2 t c = keep_ready _ _ c.requires.typing.ready.keyed.good _ c.requires.expr.0 _ _ _ c.requires.typing c.requires.expr.1 _ _ _ (leaf_meets _ _ c.requires.typing.ready.keyed.good _ _ c.requires.expr.0 c.kind-k.ensures _ _ _ c.requires.typing c.if-k-eq-KIND_UNARY.false c.if-k-eq-KIND_BINARY.false c.if-k-eq-KIND_CALL.false _ c.leaf_type-a.ensures)

pub work_out-returns : goal.work_out-returns
work_out-returns t c = keep_meets _ _ c.requires.typing.ready.keyed.good _ c.requires.expr.0 _ _ _ c.requires.typing c.requires.expr.1 _ _ _ (leaf_meets _ _ c.requires.typing.ready.keyed.good _ _ c.requires.expr.0 c.kind-k.ensures _ _ _ c.requires.typing c.if-k-eq-KIND_UNARY.false c.if-k-eq-KIND_BINARY.false c.if-k-eq-KIND_CALL.false _ c.leaf_type-a.ensures) c.ranges.turn.fits _ _ c.keep-2.ensures
