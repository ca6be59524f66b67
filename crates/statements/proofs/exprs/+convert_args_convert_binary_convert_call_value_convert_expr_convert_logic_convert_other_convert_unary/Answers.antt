-- The functions that convert an expression meet their contracts. Their measures are 4e + 3, 4e + 2 for a Binary, 4e + 1 for what it is made of, and 4e for a call's values: a call goes to a lower record, or down this order.
-- Each need is a law of ExprLaws or of ArgsLaws; the loop's invariant is `ArgsLeft`, its measure the cell's number. Assumes nothing.
use mathlib.Core.List.{List}
use Rattle.statements.specs.declared.answers.Converter.{Converter}
use Rattle.statements.specs.Lent.{at, converted, converted_args}
use mathlib.Core.Path.{◌≡◌, refl, sym, ap, ◌∙◌, subst}
use Rattle.expressions.specs.Answers.{callee_of, IsCallee}
use native.Mathlib.Omega.{arith}
use Rattle.expressions.proofs.TypingLaws.{is-typed, is-kind, expr-low}
use Rattle.statements.proofs.AroundLaws.{variable_type_lem, left_side, right_side}
use Rattle.statements.proofs.ConvertLaws.{converts-most, converting_after}
use Rattle.statements.proofs.ExprLaws.{typed_converting, typed-stop, typed-unary, typed-binary, typed_call, call-kind, operand_side, unary-part, unary-room, unary-stop, unary-next, fitted_converting, fitted-stop, fitted_logic, fitted-other, left_afforded, begin_room, other-left, other_afforded, other-room, other-right, other-next, logic_converting, logic_left_afforded, logic_left, logic_room, logic_right_converting, logic_right_afforded, logic_right, logic_end-room, logic_next}
use Rattle.statements.proofs.ArgsLaws.{called_converting, called_afforded, called_stop, args-stop, finish_converting, finish_afforded, called_next, loop_start_lem, loop_end_lem, cell-low, next-less, loop_end-types, turn_in, turn-type, value_low, value_afforded, turn-stop, turn-value}
use Rattle.statements.proofs.TypedLaws.{refused-types, args-refused-types, leaf_types, typed-in_turn, unary_types_lem, binary_types_lem, call_types_lem, common_in-turn, common_types_lem, operand-types, left-in_turn, sides_types_lem, called_in_turn, called_types}
use Prim.Native.Nat.{ℕ}
use Rattle.statements.proofs.exprs.+convert_args_convert_binary_convert_call_value_convert_expr_convert_logic_convert_other_convert_unary.Goals.{convert_args-in-Expr+in-Ok, convert_args-in_default}
use Rattle.statements.proofs.exprs.+convert_args_convert_binary_convert_call_value_convert_expr_convert_logic_convert_other_convert_unary.Goals as goal

-- what is lent and what goes by value, each for its equal
at_same : {c d : Converter} {k l : List ℕ} → c ≡ d → k ≡ l → at c k ≡ at d l
at_same {d = d} {k = k} p q = ap (λ (z : Converter). at z k) p ∙ ap (at d) q

pub convert_args-loop-cell-init : goal.convert_args-loop-cell-init
convert_args-loop-cell-init t c = (loop_start_lem c.requires.converting.0 c.requires.converting.1 c.requires.kind c.requires.in_turn _ c.reference-cell.ensures, refl)

pub convert_args-convert_expr-requires : goal.convert_args-convert_expr-requires
convert_args-convert_expr-requires t c = let h = value_low c.requires.converting.0 c.requires.converting.1 c.requires.kind c.loop-cell.invariant.0 c.loop-cell-test.true c.argument_at.ensures c.in-Expr.is in (omega (arith, h.0, c.decreases), ((c.loop-cell.invariant.0.converting, value_afforded c.requires.converting.0 c.requires.converting.1 c.requires.kind c.loop-cell.invariant.0 c.loop-cell-test.true c.argument_at.ensures c.in-Expr.is), (h.1, turn_in c.requires.converting.0 c.requires.converting.1 c.requires.kind c.loop-cell.invariant.0 c.loop-cell-test.true)))

pub convert_args-returns-in-Err : goal.convert_args-returns-in-Err
convert_args-returns-in-Err t c = record { call_args_as = turn-stop c.requires.converting.0 c.requires.converting.1 c.requires.kind c.loop-cell.invariant.0 c.loop-cell-test.true c.argument_at.ensures c.in-Expr.is c.convert_expr.ensures.converts_as (ap (converted _) c.in-Err.is); types = args-refused-types }

pub convert_args-next_cell-cell-requires : goal.convert_args-next_cell-cell-requires
convert_args-next_cell-cell-requires t c = cell-low c.requires.converting.0 c.requires.converting.1 c.requires.kind c.loop-cell.invariant.0 c.loop-cell-test.true

pub convert_args-loop-cell-smaller : goal.convert_args-loop-cell-smaller
convert_args-loop-cell-smaller t c = next-less c.requires.converting.0 c.requires.converting.1 c.requires.kind c.loop-cell.invariant.0 c.loop-cell-test.true _ c.next_cell-cell.ensures

pub convert_args-loop-cell-preserved : goal.convert_args-loop-cell-preserved
convert_args-loop-cell-preserved t c = (
  elim c.match-argument_at.branch [ convert_args-in-Expr+in-Ok w ↦ turn-value c.requires.converting.0 c.requires.converting.1 c.requires.kind c.loop-cell.invariant.0 c.loop-cell-test.true c.argument_at.ensures w.in-Expr.is w.convert_expr.ensures.converts_as (ap (converted _) w.in-Ok.is) w.convert_expr.ensures.types w.push_operand.ensures.written w.push_operand.ensures.back w.arena-is w.scratch-is (at_same w.at-is w.k-is) _ c.next_cell-cell.ensures | convert_args-in_default w ↦ turn-type c.requires.converting.0 c.requires.converting.1 c.requires.kind c.loop-cell.invariant.0 c.loop-cell-test.true c.argument_at.ensures _ w.in_default.is w.arena-is w.scratch-is (at_same w.at-is w.k-is) _ c.next_cell-cell.ensures ],
  omega (arith, c.match-argument_at.auto.k, c.loop-cell.invariant.1),
)

pub convert_args-returns : goal.convert_args-returns
convert_args-returns t c = record { call_args_as = loop_end_lem c.requires.converting.0 c.requires.converting.1 c.requires.kind c.loop-cell.invariant.0 c.loop-cell-test.false _ refl; types = loop_end-types c.requires.converting.0 c.requires.converting.1 c.requires.kind c.loop-cell.invariant.0 c.loop-cell-test.false _ }

pub convert_binary-convert_logic-requires : goal.convert_binary-convert_logic-requires
convert_binary-convert_logic-requires t c = (omega (arith, c.decreases), ((fitted_converting c.requires.converting.0 c.requires.kind.0 ((c.operand_type.ensures.by_index_2 c.args.k.now)), c.requires.converting.1), ((c.requires.kind.0, c.requires.kind.1), common_in-turn c.requires.converting.0 ((c.operand_type.ensures.by_index_2 c.args.k.now)) ((c.operand_type.ensures.types c.args.k.now)) c.in-Ok.is)))

pub convert_binary-returns-then-detail-le-AND : goal.convert_binary-returns-then-detail-le-AND
convert_binary-returns-then-detail-le-AND t c = record { converts_as = fitted_logic c.requires.converting.0 c.requires.kind.0 ((c.operand_type.ensures.by_index_2 c.args.k.now)) c.in-Ok.is c.detail.ensures c.if-detail-le-AND.true c.convert_logic.ensures.converts_as; types = common_types_lem c.requires.converting.0 ((c.operand_type.ensures.by_index_2 c.args.k.now)) ((c.operand_type.ensures.types c.args.k.now)) c.in-Ok.is c.convert_logic.ensures.types }

pub convert_binary-convert_other-requires : goal.convert_binary-convert_other-requires
convert_binary-convert_other-requires t c = (omega (arith, c.decreases), ((fitted_converting c.requires.converting.0 c.requires.kind.0 ((c.operand_type.ensures.by_index_2 c.args.k.now)), c.requires.converting.1), ((c.requires.kind.0, c.requires.kind.1, is-typed _ _ _ ((c.operand_type.ensures.by_index_2 c.args.k.now)).typed c.in-Ok.is), common_in-turn c.requires.converting.0 ((c.operand_type.ensures.by_index_2 c.args.k.now)) ((c.operand_type.ensures.types c.args.k.now)) c.in-Ok.is)))

pub convert_binary-returns-in-Err : goal.convert_binary-returns-in-Err
convert_binary-returns-in-Err t c = record { converts_as = fitted-stop c.requires.converting.0 c.requires.kind.0 ((c.operand_type.ensures.by_index_2 c.args.k.now)) c.in-Err.is; types = refused-types }

pub convert_binary-returns-else-detail-le-AND : goal.convert_binary-returns-else-detail-le-AND
convert_binary-returns-else-detail-le-AND t c = record { converts_as = fitted-other c.requires.converting.0 c.requires.kind.0 ((c.operand_type.ensures.by_index_2 c.args.k.now)) c.in-Ok.is c.detail.ensures c.if-detail-le-AND.false c.convert_other.ensures.converts_as; types = common_types_lem c.requires.converting.0 ((c.operand_type.ensures.by_index_2 c.args.k.now)) ((c.operand_type.ensures.types c.args.k.now)) c.in-Ok.is c.convert_other.ensures.types }

pub convert_call_value-returns-in-Err : goal.convert_call_value-returns-in-Err
convert_call_value-returns-in-Err t c = record { converts_as = called_stop c.requires.converting.0 c.requires.converting.1 c.requires.kind.0 c.resolve_call.ensures _ c.in-Err.is; types = refused-types }

pub convert_call_value-convert_args-requires : goal.convert_call_value-convert_args-requires
convert_call_value-convert_args-requires t c = (omega (arith, c.decreases), ((called_converting c.requires.converting.0 c.requires.converting.1 c.requires.kind.0 c.resolve_call.ensures, called_afforded c.requires.converting.0 c.requires.converting.1 c.requires.kind.0 c.resolve_call.ensures), (c.requires.kind.0, called_in_turn c.requires.converting.0 c.resolve_call.ensures c.in-Ok.is)))

pub convert_call_value-finish_call-requires : goal.convert_call_value-finish_call-requires
convert_call_value-finish_call-requires t c = record { converting = (finish_converting c.requires.converting.0 c.requires.converting.1 c.requires.kind.0 c.resolve_call.ensures c.convert_args.ensures.call_args_as (ap (converted_args _) c.in-Ok-convert_args.is), finish_afforded c.requires.converting.0 c.requires.converting.1 c.requires.kind.0 c.resolve_call.ensures c.convert_args.ensures.call_args_as (ap (converted_args _) c.in-Ok-convert_args.is)); kind = (c.requires.kind.0, c.requires.kind.1, subst (IsCallee _) c.in-Ok.is c.resolve_call.ensures.callee, (c.convert_args.ensures.call_args_as.operands _ _ (ap (converted_args _) c.in-Ok-convert_args.is)).1) }

pub convert_call_value-returns-in-Err-convert_args : goal.convert_call_value-returns-in-Err-convert_args
convert_call_value-returns-in-Err-convert_args t c = record { converts_as = args-stop c.requires.converting.0 c.requires.converting.1 c.requires.kind.0 c.resolve_call.ensures c.convert_args.ensures.call_args_as _ c.in-Ok.is (ap (converted_args _) c.in-Err-convert_args.is); types = refused-types }

pub convert_call_value-returns-in-Ok-convert_args : goal.convert_call_value-returns-in-Ok-convert_args
convert_call_value-returns-in-Ok-convert_args t c = record { converts_as = called_next c.requires.converting.0 c.requires.converting.1 c.requires.kind.0 c.resolve_call.ensures c.convert_args.ensures.call_args_as (ap (converted_args _) c.in-Ok-convert_args.is) _ c.in-Ok.is (λ to m. c.finish_call.ensures.call_ends_as to (sym (ap (callee_of _ _) c.in-Ok.is) ∙ m)); types = called_types c.requires.converting.0 c.resolve_call.ensures c.in-Ok.is c.convert_args.ensures.types (ap (converted_args _) c.in-Ok-convert_args.is) c.finish_call.ensures.turns }

pub convert_expr-returns-then-node-le-KIND_SIZE_OF : goal.convert_expr-returns-then-node-le-KIND_SIZE_OF
convert_expr-returns-then-node-le-KIND_SIZE_OF t c = record { converts_as = converts-most (omega arith) c.operand.ensures; types = leaf_types c.requires.converting.0 c.requires.expr c.kind-node.ensures c.if-node-le-KIND_SIZE_OF.true c.requires.in_turn }

pub convert_expr-convert_unary-requires : goal.convert_expr-convert_unary-requires
convert_expr-convert_unary-requires t c = (omega (arith, c.decreases), ((typed_converting c.requires.converting.0 c.requires.expr c.get_type.ensures, c.requires.converting.1), ((is-kind _ _ c.requires.converting.0.ready.keyed.good _ _ c.requires.expr c.kind-node.ensures 9 c.if-node-eq-KIND_UNARY.true, is-typed _ _ _ c.get_type.ensures.typed c.in-Ok.is), typed-in_turn c.requires.converting.0 c.get_type.ensures c.in-Ok.is)))

pub convert_expr-returns-then-node-eq-KIND_UNARY : goal.convert_expr-returns-then-node-eq-KIND_UNARY
convert_expr-returns-then-node-eq-KIND_UNARY t c = record { converts_as = typed-unary c.requires.converting.0 c.requires.expr c.get_type.ensures c.kind-node.ensures c.in-Ok.is c.if-node-eq-KIND_UNARY.true c.convert_unary.ensures.converts_as; types = unary_types_lem c.requires.converting.0 c.get_type.ensures c.in-Ok.is c.requires.expr c.kind-node.ensures c.if-node-eq-KIND_UNARY.true c.convert_unary.ensures.types }

pub convert_expr-convert_binary-requires : goal.convert_expr-convert_binary-requires
convert_expr-convert_binary-requires t c = (omega (arith, c.decreases), ((typed_converting c.requires.converting.0 c.requires.expr c.get_type.ensures, c.requires.converting.1), ((is-kind _ _ c.requires.converting.0.ready.keyed.good _ _ c.requires.expr c.kind-node.ensures 10 c.if-node-eq-KIND_BINARY.true, is-typed _ _ _ c.get_type.ensures.typed c.in-Ok.is), typed-in_turn c.requires.converting.0 c.get_type.ensures c.in-Ok.is)))

pub convert_expr-returns-then-node-eq-KIND_BINARY : goal.convert_expr-returns-then-node-eq-KIND_BINARY
convert_expr-returns-then-node-eq-KIND_BINARY t c = record { converts_as = typed-binary c.requires.converting.0 c.requires.expr c.get_type.ensures c.kind-node.ensures c.in-Ok.is c.if-node-eq-KIND_BINARY.true c.convert_binary.ensures.converts_as; types = binary_types_lem c.requires.converting.0 c.get_type.ensures c.in-Ok.is c.requires.expr c.kind-node.ensures c.if-node-eq-KIND_BINARY.true c.convert_binary.ensures.types }

pub convert_expr-convert_call_value-requires : goal.convert_expr-convert_call_value-requires
convert_expr-convert_call_value-requires t c = (omega (arith, c.decreases), ((typed_converting c.requires.converting.0 c.requires.expr c.get_type.ensures, c.requires.converting.1), ((record { below = expr-low _ _ c.requires.converting.0.ready.keyed.good _ c.requires.expr; kind = call-kind c.requires.expr c.kind-node.ensures c.if-node-le-KIND_SIZE_OF.false c.if-node-eq-KIND_UNARY.false c.if-node-eq-KIND_BINARY.false }, is-typed _ _ _ c.get_type.ensures.typed c.in-Ok.is), typed-in_turn c.requires.converting.0 c.get_type.ensures c.in-Ok.is)))

pub convert_expr-returns-in-Err : goal.convert_expr-returns-in-Err
convert_expr-returns-in-Err t c = record { converts_as = typed-stop c.requires.converting.0 c.requires.expr c.get_type.ensures c.kind-node.ensures c.if-node-le-KIND_SIZE_OF.false c.in-Err.is; types = refused-types }

pub convert_expr-returns-else-node-eq-KIND_BINARY : goal.convert_expr-returns-else-node-eq-KIND_BINARY
convert_expr-returns-else-node-eq-KIND_BINARY t c = record { converts_as = typed_call c.requires.converting.0 c.requires.expr c.get_type.ensures c.kind-node.ensures c.in-Ok.is (call-kind c.requires.expr c.kind-node.ensures c.if-node-le-KIND_SIZE_OF.false c.if-node-eq-KIND_UNARY.false c.if-node-eq-KIND_BINARY.false) c.convert_call_value.ensures.converts_as; types = call_types_lem c.requires.converting.0 c.get_type.ensures c.in-Ok.is c.requires.expr c.kind-node.ensures (call-kind c.requires.expr c.kind-node.ensures c.if-node-le-KIND_SIZE_OF.false c.if-node-eq-KIND_UNARY.false c.if-node-eq-KIND_BINARY.false) c.convert_call_value.ensures.types }

pub convert_logic-begin_logic-dest-requires : goal.convert_logic-begin_logic-dest-requires
convert_logic-begin_logic-dest-requires t c = let h = begin_room c.requires.converting.0 c.requires.converting.1 c.requires.kind.0 c.reference-left.ensures c.reference-right.ensures in (h.0, h.1, omega (arith, c.requires.kind.1.below, c.requires.converting.0.ready.keyed.good.few))

pub convert_logic-convert_expr-requires : goal.convert_logic-convert_expr-requires
convert_logic-convert_expr-requires t c = let h = left_side c.requires.converting.0.ready.keyed.good c.requires.kind.0 c.reference-left.ensures in (omega (arith, h.0, c.decreases), ((logic_converting c.requires.converting.0 c.requires.converting.1 c.requires.kind.0 c.reference-left.ensures c.reference-right.ensures _ c.begin_logic-dest.ensures.adds, logic_left_afforded c.requires.converting.0 c.requires.converting.1 c.requires.kind.0 c.reference-left.ensures c.reference-right.ensures _ c.begin_logic-dest.ensures.adds), (h.1, c.requires.in_turn)))

pub convert_logic-join_logic-requires : goal.convert_logic-join_logic-requires
convert_logic-join_logic-requires t c = let h = logic_room c.requires.converting.0 c.requires.converting.1 c.requires.kind.0 c.reference-left.ensures c.reference-right.ensures _ c.begin_logic-dest.ensures.adds c.convert_expr.ensures.converts_as (ap (converted _) c.in-Ok.is) in (h.0, h.1, omega (arith, c.requires.kind.0.below, c.requires.converting.0.ready.keyed.good.whole))

pub convert_logic-convert_expr-requires-in-Ok : goal.convert_logic-convert_expr-requires-in-Ok
convert_logic-convert_expr-requires-in-Ok t c = let h = right_side c.requires.converting.0.ready.keyed.good c.requires.kind.0 c.reference-right.ensures in (omega (arith, h.0, c.decreases), ((logic_right_converting c.requires.converting.0 c.requires.converting.1 c.requires.kind.0 c.reference-left.ensures c.reference-right.ensures _ c.begin_logic-dest.ensures.adds c.convert_expr.ensures.converts_as (ap (converted _) c.in-Ok.is) c.join_logic.ensures, logic_right_afforded c.requires.converting.0 c.requires.converting.1 c.requires.kind.0 c.reference-left.ensures c.reference-right.ensures _ c.begin_logic-dest.ensures.adds c.convert_expr.ensures.converts_as (ap (converted _) c.in-Ok.is) c.join_logic.ensures), (h.1, left-in_turn c.requires.converting.0 _ c.reference-left.ensures c.convert_expr.ensures.types (ap (converted _) c.in-Ok.is) c.convert_expr.ensures.converts_as.stays)))

pub convert_logic-end_logic-requires : goal.convert_logic-end_logic-requires
convert_logic-end_logic-requires t c = logic_end-room c.requires.converting.0 c.requires.converting.1 c.requires.kind.0 c.reference-left.ensures c.reference-right.ensures _ c.begin_logic-dest.ensures.adds c.convert_expr.ensures.converts_as (ap (converted _) c.in-Ok.is) c.join_logic.ensures c.convert_expr-in-Ok.ensures.converts_as (ap (converted _) c.in-Ok-convert_expr.is)

pub convert_logic-returns-in-Err : goal.convert_logic-returns-in-Err
convert_logic-returns-in-Err t c = record { converts_as = logic_left c.requires.converting.0 c.requires.converting.1 c.requires.kind.0 c.reference-left.ensures c.reference-right.ensures _ c.begin_logic-dest.ensures.adds c.convert_expr.ensures.converts_as (ap (converted _) c.in-Err.is); types = refused-types }

pub convert_logic-returns-in-Err-convert_expr : goal.convert_logic-returns-in-Err-convert_expr
convert_logic-returns-in-Err-convert_expr t c = record { converts_as = logic_right c.requires.converting.0 c.requires.converting.1 c.requires.kind.0 c.reference-left.ensures c.reference-right.ensures _ c.begin_logic-dest.ensures.adds c.convert_expr.ensures.converts_as (ap (converted _) c.in-Ok.is) c.join_logic.ensures c.convert_expr-in-Ok.ensures.converts_as (ap (converted _) c.in-Err-convert_expr.is); types = refused-types }

pub convert_logic-returns-in-Ok-convert_expr : goal.convert_logic-returns-in-Ok-convert_expr
convert_logic-returns-in-Ok-convert_expr t c = record { converts_as = logic_next c.requires.converting.0 c.requires.converting.1 c.requires.kind.0 c.reference-left.ensures c.reference-right.ensures _ c.begin_logic-dest.ensures.adds c.convert_expr.ensures.converts_as (ap (converted _) c.in-Ok.is) c.join_logic.ensures c.convert_expr-in-Ok.ensures.converts_as (ap (converted _) c.in-Ok-convert_expr.is) (c.end_logic.ensures _ (variable_type_lem c.begin_logic-dest.ensures.typed c.requires.kind.1)) refl; types = sides_types_lem c.requires.converting.0 _ c.reference-left.ensures c.convert_expr.ensures.types (ap (converted _) c.in-Ok.is) c.convert_expr.ensures.converts_as.stays c.reference-right.ensures c.convert_expr-in-Ok.ensures.types (ap (converted _) c.in-Ok-convert_expr.is) }

pub convert_other-convert_expr-requires : goal.convert_other-convert_expr-requires
convert_other-convert_expr-requires t c = let h = left_side c.requires.converting.0.ready.keyed.good c.requires.kind.0 c.reference-left.ensures in (omega (arith, h.0, c.decreases), ((c.requires.converting.0, left_afforded c.requires.converting.0 c.requires.converting.1 c.requires.kind.0 c.reference-left.ensures c.reference-right.ensures), (h.1, c.requires.in_turn)))

pub convert_other-convert_expr-requires-in-Ok : goal.convert_other-convert_expr-requires-in-Ok
convert_other-convert_expr-requires-in-Ok t c = let h = right_side c.requires.converting.0.ready.keyed.good c.requires.kind.0 c.reference-right.ensures in (omega (arith, h.0, c.decreases), ((converting_after c.convert_expr.ensures.converts_as (ap (converted _) c.in-Ok.is) c.requires.converting.0, other_afforded c.requires.converting.0 c.requires.converting.1 c.requires.kind.0 c.reference-left.ensures c.reference-right.ensures c.convert_expr.ensures.converts_as (ap (converted _) c.in-Ok.is)), (h.1, left-in_turn c.requires.converting.0 _ c.reference-left.ensures c.convert_expr.ensures.types (ap (converted _) c.in-Ok.is) c.convert_expr.ensures.converts_as.stays)))

pub convert_other-finish_binary-requires : goal.convert_other-finish_binary-requires
convert_other-finish_binary-requires t c = record { room_for = (other-room c.requires.converting.0 c.requires.converting.1 c.requires.kind.0 c.reference-left.ensures c.reference-right.ensures c.convert_expr.ensures.converts_as (ap (converted _) c.in-Ok.is) c.convert_expr-in-Ok.ensures.converts_as (ap (converted _) c.in-Ok-convert_expr.is), omega (arith, c.requires.kind.1.below, c.requires.converting.0.ready.keyed.good.few), omega (arith, c.requires.kind.2.below, c.requires.converting.0.ready.keyed.good.few)); type_at = (c.requires.kind.1, c.requires.kind.2); operand_in = (c.convert_expr.ensures.converts_as.operand _ _ (ap (converted _) c.in-Ok.is), c.convert_expr-in-Ok.ensures.converts_as.operand _ _ (ap (converted _) c.in-Ok-convert_expr.is)) }

pub convert_other-returns-in-Err : goal.convert_other-returns-in-Err
convert_other-returns-in-Err t c = record { converts_as = other-left c.requires.converting.0 c.requires.converting.1 c.requires.kind.0 c.reference-left.ensures c.reference-right.ensures c.convert_expr.ensures.converts_as _ _ (ap (converted _) c.in-Err.is); types = refused-types }

pub convert_other-returns-in-Err-convert_expr : goal.convert_other-returns-in-Err-convert_expr
convert_other-returns-in-Err-convert_expr t c = record { converts_as = other-right c.requires.converting.0 c.requires.converting.1 c.requires.kind.0 c.reference-left.ensures c.reference-right.ensures c.convert_expr.ensures.converts_as (ap (converted _) c.in-Ok.is) c.convert_expr-in-Ok.ensures.converts_as _ _ (ap (converted _) c.in-Err-convert_expr.is); types = refused-types }

pub convert_other-returns-in-Ok-convert_expr : goal.convert_other-returns-in-Ok-convert_expr
convert_other-returns-in-Ok-convert_expr t c = record { converts_as = other-next c.requires.converting.0 c.requires.converting.1 c.requires.kind.0 c.reference-left.ensures c.reference-right.ensures c.convert_expr.ensures.converts_as (ap (converted _) c.in-Ok.is) c.convert_expr-in-Ok.ensures.converts_as _ _ c.detail-op.ensures (ap (converted _) c.in-Ok-convert_expr.is) (c.finish_binary.ensures _) refl; types = sides_types_lem c.requires.converting.0 _ c.reference-left.ensures c.convert_expr.ensures.types (ap (converted _) c.in-Ok.is) c.convert_expr.ensures.converts_as.stays c.reference-right.ensures c.convert_expr-in-Ok.ensures.types (ap (converted _) c.in-Ok-convert_expr.is) }

pub convert_unary-convert_expr-requires : goal.convert_unary-convert_expr-requires
convert_unary-convert_expr-requires t c = let h = operand_side c.requires.converting.0.ready.keyed.good c.requires.kind.0 c.reference-part.ensures in (omega (arith, h.0, c.decreases), ((c.requires.converting.0, unary-part c.requires.converting.0 c.requires.converting.1 c.requires.kind.0 c.reference-part.ensures), (h.1, c.requires.in_turn)))

pub convert_unary-finish_unary-requires : goal.convert_unary-finish_unary-requires
convert_unary-finish_unary-requires t c = (unary-room c.requires.converting.0 c.requires.converting.1 c.requires.kind.0 c.reference-part.ensures c.convert_expr.ensures.converts_as (ap (converted _) c.in-Ok.is), omega (arith, c.requires.kind.1.below, c.requires.converting.0.ready.keyed.good.few))

pub convert_unary-returns-in-Err : goal.convert_unary-returns-in-Err
convert_unary-returns-in-Err t c = record { converts_as = unary-stop c.requires.converting.0 c.requires.converting.1 c.requires.kind.0 c.reference-part.ensures c.convert_expr.ensures.converts_as _ (ap (converted _) c.in-Err.is); types = refused-types }

pub convert_unary-returns-in-Ok : goal.convert_unary-returns-in-Ok
convert_unary-returns-in-Ok t c = record { converts_as = unary-next c.requires.converting.0 c.requires.converting.1 c.requires.kind.0 c.reference-part.ensures c.convert_expr.ensures.converts_as _ c.detail-op.ensures (ap (converted _) c.in-Ok.is) (c.finish_unary.ensures _ c.requires.kind.1) refl; types = operand-types c.requires.converting.0 _ c.reference-part.ensures c.convert_expr.ensures.types (ap (converted _) c.in-Ok.is) }
