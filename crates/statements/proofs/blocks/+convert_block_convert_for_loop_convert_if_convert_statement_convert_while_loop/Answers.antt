-- The functions that convert statements and blocks meet their contracts. Their measures are 3r + 2 for a statement, 3r + 1 for an If, While or For, and three times the first cell's place for a block: a call goes to a lower record, or down this order.
-- Each need is a law of BlockLaws, BlockParts or BlockTurns; the loop's invariant is `BlockLeft`, its measure the cell's place. Assumes nothing.
use Rattle.std.proofs.lemmas.Result.{err_from_is_err_and}
use Rattle.ir.specs.Counted.{counted}
use Rattle.ir.proofs.LentLaws.{in_words}
use Rattle.statements.specs.Lent.{stated, finished_with}
use mathlib.Core.Path.{◌≡◌, refl, ap, sym, ◌∙◌}
use mathlib.Core.List.{List}
use Prim.Native.Nat.{ℕ}
use Rattle.std.specs.Prelude.{Result, Ok, Err}
use Rattle.records.specs.declared.convert_error.ConvertError.{ConvertError}
use Rattle.scope.specs.declared.Scope.{Scope}
use Rattle.statements.specs.Answers.{stated_with}
use native.Mathlib.Omega.{arith}
use Rattle.records.proofs.GoodLaws.{if_detail}
use Rattle.statements.proofs.StatedLaws.{finished_converting}
use Rattle.statements.proofs.BlockLaws.{comment_converting, comment_afforded, commented_plain, commented_jump, commented_if, commented_while, commented_for}
use Rattle.statements.proofs.BlockParts.{while_list, while_stop, while_converting, while_afforded, while_body-stop, while_room, while_next, for_list, for_stop, for_converting, for_afforded, for_body-stop, for_room, for_next, then_list, other-list, if-stop, then_afforded, then_stop, if-room, if-next, middle_room, other_converting, other_afforded, other-stop, other-room, if_else_next}
use Rattle.statements.proofs.HeadLaws.{refused-finished}
use Rattle.statements.proofs.BlockVisits.{comment_fresh, comment_small, comment_in_turn, plain_visited, jump_visited, stated-visited, head_visited, while_visited, if-visited, middle_turns, else_visited, for_head-visited, for_visited}
use Rattle.statements.proofs.BlockTurns.{block_done, block_visited, cell-low, block_less, turn_statement, turn_afforded, turn-stop, turn-next}
use Rattle.statements.proofs.blocks.+convert_block_convert_for_loop_convert_if_convert_statement_convert_while_loop.Goals.{convert_if-then-has_otherwise+in_ok-convert_block-2, convert_if-else-has_otherwise}
use Rattle.statements.proofs.blocks.+convert_block_convert_for_loop_convert_if_convert_statement_convert_while_loop.Goals as goal

-- a statement with blocks answers what they answer, and leaves the scope as it was
done-stated : (k : List ℕ) (sc : Scope) {d : Result (Unit {0}) ConvertError} → d ≡ Ok tt → stated k (Ok sc) ≡ stated_with sc (finished_with k d)
done-stated k sc e = ap (λ (y : Result (Unit {0}) ConvertError). stated_with sc (finished_with k y)) (sym e)

stop-stated : (k : List ℕ) (sc : Scope) {d : Result (Unit {0}) ConvertError} {z : ConvertError} → d ≡ Err z → stated k (Err z) ≡ stated_with sc (finished_with k d)
stop-stated k sc e = ap (λ (y : Result (Unit {0}) ConvertError). stated_with sc (finished_with k y)) (sym e)

pub convert_block-reference-r-requires : goal.convert_block-reference-r-requires
convert_block-reference-r-requires t c = record { record_bytes_in_bounds = omega (arith, cell-low c.requires.converting.0 c.requires.converting.1 c.requires.body_at c.loop-cell.invariant.0 c.loop-cell-test.true, c.requires.converting.0.ready.keyed.good.whole); k_bound = omega arith }

pub convert_block-convert_statement-requires : goal.convert_block-convert_statement-requires
convert_block-convert_statement-requires t c = let h = turn_statement c.requires.converting.0 c.requires.converting.1 c.requires.body_at c.loop-cell.invariant.0 c.loop-cell-test.true c.reference-r.ensures in (omega (arith, h.0, c.decreases), ((c.loop-cell.invariant.0.converting, turn_afforded c.requires.converting.0 c.requires.converting.1 c.requires.body_at c.loop-cell.invariant.0 c.loop-cell-test.true c.reference-r.ensures), (h.1, c.loop-cell.invariant.0.visited.turns)))

pub convert_block-returns-in-Err : goal.convert_block-returns-in-Err
convert_block-returns-in-Err t c = record { block_as = turn-stop c.requires.converting.0 c.requires.converting.1 c.requires.body_at c.loop-cell.invariant.0 c.loop-cell-test.true c.reference-r.ensures c.convert_statement.ensures.statement_as (ap (stated _) c.in-Err.is); visits = λ k q. refused-finished k q }

pub convert_block-next_cell-cell-requires : goal.convert_block-next_cell-cell-requires
convert_block-next_cell-cell-requires t c = cell-low c.requires.converting.0 c.requires.converting.1 c.requires.body_at c.loop-cell.invariant.0 c.loop-cell-test.true

pub convert_block-loop-cell-smaller : goal.convert_block-loop-cell-smaller
convert_block-loop-cell-smaller t c = block_less c.requires.converting.0 c.requires.converting.1 c.requires.body_at c.loop-cell.invariant.0 c.loop-cell-test.true _ c.next_cell-cell.ensures

pub convert_block-loop-cell-preserved : goal.convert_block-loop-cell-preserved
convert_block-loop-cell-preserved t c = (turn-next c.requires.converting.0 c.requires.converting.1 c.requires.body_at c.loop-cell.invariant.0 c.loop-cell-test.true c.reference-r.ensures c.convert_statement.ensures.statement_as (ap (stated _) c.in-Ok.is) c.convert_statement.ensures.visits _ c.next_cell-cell.ensures, omega (arith, c.loop-cell.invariant.1, c.k-1.given))

pub convert_block-returns : goal.convert_block-returns
convert_block-returns t c = record { block_as = block_done c.requires.converting.0 c.requires.converting.1 c.requires.body_at c.loop-cell.invariant.0 c.loop-cell-test.false; visits = block_visited c.requires.converting.0 c.requires.converting.1 c.requires.body_at c.loop-cell.invariant.0 c.loop-cell-test.false }

pub convert_for_loop-convert_block-requires : goal.convert_for_loop-convert_block-requires
convert_for_loop-convert_block-requires t c = let h = for_list c.requires.converting.0 c.requires.converting.1 c.requires.kind c.reference-body.ensures in (omega (arith, h.0, c.decreases), ((for_converting c.requires.converting.0 c.requires.converting.1 c.requires.kind c.for_head.ensures.for_head_as (ap (stated _) c.in-Ok.is) c.with_loop.ensures c.reference-body.ensures, for_afforded c.requires.converting.0 c.requires.converting.1 c.requires.kind c.for_head.ensures.for_head_as (ap (stated _) c.in-Ok.is) c.with_loop.ensures c.reference-body.ensures), (h.1, (for_head-visited c.requires.converting.0 c.requires.kind c.requires.fresh c.for_head.ensures.for_head_as (ap (stated _) c.in-Ok.is) c.for_head.ensures.types).turns)))

pub convert_for_loop-loop_end-requires : goal.convert_for_loop-loop_end-requires
convert_for_loop-loop_end-requires t c = for_room c.requires.converting.0 c.requires.converting.1 c.requires.kind c.for_head.ensures.for_head_as (ap (stated _) c.in-Ok.is) c.with_loop.ensures c.reference-body.ensures c.convert_block.ensures.block_as (ap (finished_with _) c.in_ok-convert_block-in-Ok.was)

pub convert_for_loop-returns-in-Err : goal.convert_for_loop-returns-in-Err
convert_for_loop-returns-in-Err t c = record { finishes_as = for_stop c.requires.converting.0 c.requires.converting.1 c.requires.kind c.for_head.ensures.for_head_as (ap (stated _) c.in-Err.is); visits = λ k q. refused-finished k q }

pub convert_for_loop-returns-in_err-convert_block-in-Ok : goal.convert_for_loop-returns-in_err-convert_block-in-Ok
convert_for_loop-returns-in_err-convert_block-in-Ok t c = let p = err_from_is_err_and c.from_residual.result c.from_residual.ensures.1 in rw (p.1, p.2) (record { finishes_as = for_body-stop c.requires.converting.0 c.requires.converting.1 c.requires.kind c.for_head.ensures.for_head_as (ap (stated _) c.in-Ok.is) c.with_loop.ensures c.reference-body.ensures c.convert_block.ensures.block_as (ap (finished_with _) c.in_err-convert_block-in-Ok.was); visits = λ k q. refused-finished k q })

pub convert_for_loop-returns-in_ok-convert_block-in-Ok : goal.convert_for_loop-returns-in_ok-convert_block-in-Ok
convert_for_loop-returns-in_ok-convert_block-in-Ok t c = record { finishes_as = for_next c.requires.converting.0 c.requires.converting.1 c.requires.kind c.for_head.ensures.for_head_as (ap (stated _) c.in-Ok.is) c.with_loop.ensures c.reference-body.ensures c.convert_block.ensures.block_as (ap (finished_with _) c.in_ok-convert_block-in-Ok.was) c.loop_end.ensures; visits = for_visited c.requires.converting.0 c.requires.kind c.requires.fresh c.for_head.ensures.for_head_as (ap (stated _) c.in-Ok.is) c.for_head.ensures.types refl c.reference-body.ensures c.convert_block.ensures.visits (ap (finished_with _) c.in_ok-convert_block-in-Ok.was) c.loop_end.ensures }

pub convert_if-convert_block-requires : goal.convert_if-convert_block-requires
convert_if-convert_block-requires t c = let h = then_list c.requires.converting.0 c.requires.converting.1 c.requires.kind c.reference-then.ensures in (omega (arith, h.0, c.decreases), ((finished_converting c.if_head.ensures.head_as (ap (finished_with _) c.in_ok-if_head.was) c.requires.converting.0, then_afforded c.requires.converting.0 c.requires.converting.1 c.requires.kind c.if_head.ensures.head_as (ap (finished_with _) c.in_ok-if_head.was) c.reference-then.ensures), (h.1, (head_visited c.requires.converting.0 c.requires.kind c.requires.fresh c.if_head.ensures.head_as (ap (finished_with _) c.in_ok-if_head.was) c.if_head.ensures.types).turns)))

pub convert_if-has_otherwise-requires : goal.convert_if-has_otherwise-requires
convert_if-has_otherwise-requires t c = record { record_bytes_in_bounds = omega (arith, c.requires.kind.below, c.requires.converting.0.ready.keyed.good.whole); r_bound = omega (arith, if_detail _ _ c.requires.converting.0.ready.keyed.good _ c.requires.kind.below c.requires.kind.kind) }

pub convert_if-returns-in_err-if_head : goal.convert_if-returns-in_err-if_head
convert_if-returns-in_err-if_head t c = let p = err_from_is_err_and c.from_residual.result c.from_residual.ensures.1 in rw (p.1, p.2) (record { finishes_as = if-stop c.requires.converting.0 c.requires.converting.1 c.requires.kind c.if_head.ensures.head_as (ap (finished_with _) c.in_err-if_head.was); visits = λ k q. refused-finished k q })

pub convert_if-returns-in_err-convert_block : goal.convert_if-returns-in_err-convert_block
convert_if-returns-in_err-convert_block t c = let p = err_from_is_err_and c.from_residual-in_err-convert_block.result c.from_residual-in_err-convert_block.ensures.1 in rw (p.1, p.2) (record { finishes_as = then_stop c.requires.converting.0 c.requires.converting.1 c.requires.kind c.if_head.ensures.head_as (ap (finished_with _) c.in_ok-if_head.was) c.reference-then.ensures c.convert_block.ensures.block_as (ap (finished_with _) c.in_err-convert_block.was); visits = λ k q. refused-finished k q })

pub convert_if-if_middle-requires : goal.convert_if-if_middle-requires
convert_if-if_middle-requires t c = middle_room c.requires.converting.0 c.requires.converting.1 c.requires.kind c.if_head.ensures.head_as (ap (finished_with _) c.in_ok-if_head.was) c.reference-then.ensures c.convert_block.ensures.block_as (ap (finished_with _) c.in_ok-convert_block.was) c.has_otherwise.ensures c.if-has_otherwise.true

pub convert_if-convert_block-requires-then-has_otherwise : goal.convert_if-convert_block-requires-then-has_otherwise
convert_if-convert_block-requires-then-has_otherwise t c = let h = other-list c.requires.converting.0 c.requires.converting.1 c.requires.kind c.reference-otherwise.ensures in (omega (arith, h.0, c.decreases), ((other_converting c.requires.converting.0 c.requires.converting.1 c.requires.kind c.if_head.ensures.head_as (ap (finished_with _) c.in_ok-if_head.was) c.reference-then.ensures c.convert_block.ensures.block_as (ap (finished_with _) c.in_ok-convert_block.was) c.has_otherwise.ensures c.if-has_otherwise.true c.if_middle.ensures c.reference-otherwise.ensures, other_afforded c.requires.converting.0 c.requires.converting.1 c.requires.kind c.if_head.ensures.head_as (ap (finished_with _) c.in_ok-if_head.was) c.reference-then.ensures c.convert_block.ensures.block_as (ap (finished_with _) c.in_ok-convert_block.was) c.has_otherwise.ensures c.if-has_otherwise.true c.if_middle.ensures c.reference-otherwise.ensures), (h.1, middle_turns c.requires.converting.0 c.requires.kind c.requires.fresh c.if_head.ensures.head_as (ap (finished_with _) c.in_ok-if_head.was) c.if_head.ensures.types c.reference-then.ensures c.convert_block.ensures.visits (ap (finished_with _) c.in_ok-convert_block.was) c.if_middle.ensures c.has_otherwise.ensures)))

pub convert_if-returns-in_err-convert_block-2 : goal.convert_if-returns-in_err-convert_block-2
convert_if-returns-in_err-convert_block-2 t c = let p = err_from_is_err_and c.from_residual-in_err-convert_block-2.result c.from_residual-in_err-convert_block-2.ensures.1 in rw (p.1, p.2) (record { finishes_as = other-stop c.requires.converting.0 c.requires.converting.1 c.requires.kind c.if_head.ensures.head_as (ap (finished_with _) c.in_ok-if_head.was) c.reference-then.ensures c.convert_block.ensures.block_as (ap (finished_with _) c.in_ok-convert_block.was) c.has_otherwise.ensures c.if-has_otherwise.true c.if_middle.ensures c.reference-otherwise.ensures c.convert_block-then-has_otherwise.ensures.block_as (ap (finished_with _) c.in_err-convert_block-2.was); visits = λ k q. refused-finished k q })

pub convert_if-if_end-requires : goal.convert_if-if_end-requires
convert_if-if_end-requires t c = elim c.if-has_otherwise.branch [
  | convert_if-then-has_otherwise+in_ok-convert_block-2 w ↦ rw (w.arena-is, w.k-is) (other-room c.requires.converting.0 c.requires.converting.1 c.requires.kind c.if_head.ensures.head_as (ap (finished_with _) c.in_ok-if_head.was) c.reference-then.ensures c.convert_block.ensures.block_as (ap (finished_with _) c.in_ok-convert_block.was) c.has_otherwise.ensures w.if-has_otherwise.true w.if_middle.ensures c.reference-otherwise.ensures w.convert_block-then-has_otherwise.ensures.block_as (ap (finished_with _) w.in_ok-convert_block-2.was))
  | convert_if-else-has_otherwise w ↦ rw (w.arena-is, w.k-is) (if-room c.requires.converting.0 c.requires.converting.1 c.requires.kind c.if_head.ensures.head_as (ap (finished_with _) c.in_ok-if_head.was) c.reference-then.ensures c.convert_block.ensures.block_as (ap (finished_with _) c.in_ok-convert_block.was) c.has_otherwise.ensures w.if-has_otherwise.false)
]

pub convert_if-returns : goal.convert_if-returns
convert_if-returns t c = elim c.if-has_otherwise.branch [
  | convert_if-then-has_otherwise+in_ok-convert_block-2 w ↦ let j = rw (w.arena-is, w.k-is) at c.if_end.ensures in rw w.scratch-is (record { finishes_as = if_else_next c.requires.converting.0 c.requires.converting.1 c.requires.kind c.if_head.ensures.head_as (ap (finished_with _) c.in_ok-if_head.was) c.reference-then.ensures c.convert_block.ensures.block_as (ap (finished_with _) c.in_ok-convert_block.was) c.has_otherwise.ensures w.if-has_otherwise.true w.if_middle.ensures c.reference-otherwise.ensures w.convert_block-then-has_otherwise.ensures.block_as (ap (finished_with _) w.in_ok-convert_block-2.was) j; visits = else_visited c.requires.converting.0 c.requires.kind c.requires.fresh c.if_head.ensures.head_as (ap (finished_with _) c.in_ok-if_head.was) c.if_head.ensures.types c.reference-then.ensures c.convert_block.ensures.visits (ap (finished_with _) c.in_ok-convert_block.was) w.if_middle.ensures c.has_otherwise.ensures refl w.if-has_otherwise.true c.reference-otherwise.ensures w.convert_block-then-has_otherwise.ensures.visits (ap (finished_with _) w.in_ok-convert_block-2.was) j })
  | convert_if-else-has_otherwise w ↦ let j = rw (w.arena-is, w.k-is) at c.if_end.ensures in rw w.scratch-is (record { finishes_as = if-next c.requires.converting.0 c.requires.converting.1 c.requires.kind c.if_head.ensures.head_as (ap (finished_with _) c.in_ok-if_head.was) c.reference-then.ensures c.convert_block.ensures.block_as (ap (finished_with _) c.in_ok-convert_block.was) c.has_otherwise.ensures w.if-has_otherwise.false j; visits = if-visited c.requires.converting.0 c.requires.kind c.requires.fresh c.if_head.ensures.head_as (ap (finished_with _) c.in_ok-if_head.was) c.if_head.ensures.types c.reference-then.ensures c.convert_block.ensures.visits (ap (finished_with _) c.in_ok-convert_block.was) j c.has_otherwise.ensures refl w.if-has_otherwise.false })
]

pub convert_statement-bounds-k-1 : goal.convert_statement-bounds-k-1
convert_statement-bounds-k-1 t c = in_words 1 _ _ (omega arith) c.emit_comment.ensures.next.room

pub convert_statement-overflow_cast-at : goal.convert_statement-overflow_cast-at
unfolding counted
convert_statement-overflow_cast-at t c = record { fits = comment_small c.requires.converting.0 c.requires.converting.1 c.requires.statement c.requires.turns c.emit_comment.ensures }

pub convert_statement-convert_plain-requires : goal.convert_statement-convert_plain-requires
unfolding counted
convert_statement-convert_plain-requires t c = record { converting = (comment_converting c.requires.converting.0 c.requires.converting.1 c.requires.statement (omega arith) c.emit_comment.ensures, comment_afforded c.requires.converting.0 c.requires.converting.1 c.requires.statement (omega arith) c.emit_comment.ensures); statement = (c.requires.statement, omega arith); in_turn = comment_in_turn c.requires.converting.0 c.requires.converting.1 c.requires.statement c.requires.turns c.emit_comment.ensures }

pub convert_statement-returns-in-15-to-18 : goal.convert_statement-returns-in-15-to-18
unfolding counted
convert_statement-returns-in-15-to-18 t c = record { statement_as = commented_plain c.requires.converting.0 c.requires.converting.1 c.requires.statement (omega arith) c.emit_comment.ensures c.kind.ensures (omega arith) c.convert_plain.ensures.states_as; visits = plain_visited c.requires.converting.0 c.requires.converting.1 c.requires.statement c.requires.turns c.emit_comment.ensures c.convert_plain.ensures.states_as c.kind.ensures (omega arith) c.convert_plain.ensures.types }

pub convert_statement-returns-in_default : goal.convert_statement-returns-in_default
unfolding counted
convert_statement-returns-in_default t c = record { statement_as = commented_jump c.requires.converting.0 c.requires.converting.1 c.requires.statement (omega arith) c.emit_comment.ensures c.kind.ensures (omega arith) c.convert_jump.ensures; visits = jump_visited c.requires.converting.0 c.requires.converting.1 c.requires.statement c.requires.turns c.emit_comment.ensures c.convert_jump.ensures c.kind.ensures (omega arith) refl }

pub convert_statement-convert_if-requires : goal.convert_statement-convert_if-requires
unfolding counted
convert_statement-convert_if-requires t c = (omega (arith, c.decreases), ((comment_converting c.requires.converting.0 c.requires.converting.1 c.requires.statement (omega arith) c.emit_comment.ensures, comment_afforded c.requires.converting.0 c.requires.converting.1 c.requires.statement (omega arith) c.emit_comment.ensures), (record { below = c.requires.statement.below; kind = sym c.kind.ensures ∙ c.in-19.is }, comment_fresh c.requires.converting.0 c.requires.converting.1 c.requires.statement c.requires.turns c.emit_comment.ensures)))

pub convert_statement-returns-in-Ok : goal.convert_statement-returns-in-Ok
unfolding counted
convert_statement-returns-in-Ok t c = record { statement_as = commented_if c.requires.converting.0 c.requires.converting.1 c.requires.statement (omega arith) c.emit_comment.ensures c.kind.ensures (done-stated c.convert_if.new.k c.args.c.scope c.in-Ok.is) c.in-19.is c.convert_if.ensures.finishes_as; visits = stated-visited _ _ _ _ (done-stated c.convert_if.new.k c.args.c.scope c.in-Ok.is) c.convert_if.ensures.visits }

pub convert_statement-returns-in-Err : goal.convert_statement-returns-in-Err
unfolding counted
convert_statement-returns-in-Err t c = record { statement_as = commented_if c.requires.converting.0 c.requires.converting.1 c.requires.statement (omega arith) c.emit_comment.ensures c.kind.ensures (stop-stated c.convert_if.new.k c.args.c.scope c.in-Err.is) c.in-19.is c.convert_if.ensures.finishes_as; visits = stated-visited _ _ _ _ (stop-stated c.convert_if.new.k c.args.c.scope c.in-Err.is) c.convert_if.ensures.visits }

pub convert_statement-convert_while_loop-requires : goal.convert_statement-convert_while_loop-requires
unfolding counted
convert_statement-convert_while_loop-requires t c = (omega (arith, c.decreases), ((comment_converting c.requires.converting.0 c.requires.converting.1 c.requires.statement (omega arith) c.emit_comment.ensures, comment_afforded c.requires.converting.0 c.requires.converting.1 c.requires.statement (omega arith) c.emit_comment.ensures), (record { below = c.requires.statement.below; kind = sym c.kind.ensures ∙ c.in-20.is }, comment_fresh c.requires.converting.0 c.requires.converting.1 c.requires.statement c.requires.turns c.emit_comment.ensures)))

pub convert_statement-returns-in-Ok-convert_while_loop : goal.convert_statement-returns-in-Ok-convert_while_loop
unfolding counted
convert_statement-returns-in-Ok-convert_while_loop t c = record { statement_as = commented_while c.requires.converting.0 c.requires.converting.1 c.requires.statement (omega arith) c.emit_comment.ensures c.kind.ensures (done-stated c.convert_while_loop.new.k c.args.c.scope c.in-Ok-convert_while_loop.is) c.in-20.is c.convert_while_loop.ensures.finishes_as; visits = stated-visited _ _ _ _ (done-stated c.convert_while_loop.new.k c.args.c.scope c.in-Ok-convert_while_loop.is) c.convert_while_loop.ensures.visits }

pub convert_statement-returns-in-Err-convert_while_loop : goal.convert_statement-returns-in-Err-convert_while_loop
unfolding counted
convert_statement-returns-in-Err-convert_while_loop t c = record { statement_as = commented_while c.requires.converting.0 c.requires.converting.1 c.requires.statement (omega arith) c.emit_comment.ensures c.kind.ensures (stop-stated c.convert_while_loop.new.k c.args.c.scope c.in-Err-convert_while_loop.is) c.in-20.is c.convert_while_loop.ensures.finishes_as; visits = stated-visited _ _ _ _ (stop-stated c.convert_while_loop.new.k c.args.c.scope c.in-Err-convert_while_loop.is) c.convert_while_loop.ensures.visits }

pub convert_statement-convert_for_loop-requires : goal.convert_statement-convert_for_loop-requires
unfolding counted
convert_statement-convert_for_loop-requires t c = (omega (arith, c.decreases), ((comment_converting c.requires.converting.0 c.requires.converting.1 c.requires.statement (omega arith) c.emit_comment.ensures, comment_afforded c.requires.converting.0 c.requires.converting.1 c.requires.statement (omega arith) c.emit_comment.ensures), (record { below = c.requires.statement.below; kind = sym c.kind.ensures ∙ c.in-21.is }, comment_fresh c.requires.converting.0 c.requires.converting.1 c.requires.statement c.requires.turns c.emit_comment.ensures)))

pub convert_statement-returns-in-Ok-convert_for_loop : goal.convert_statement-returns-in-Ok-convert_for_loop
unfolding counted
convert_statement-returns-in-Ok-convert_for_loop t c = record { statement_as = commented_for c.requires.converting.0 c.requires.converting.1 c.requires.statement (omega arith) c.emit_comment.ensures c.kind.ensures (done-stated c.convert_for_loop.new.k c.args.c.scope c.in-Ok-convert_for_loop.is) c.in-21.is c.convert_for_loop.ensures.finishes_as; visits = stated-visited _ _ _ _ (done-stated c.convert_for_loop.new.k c.args.c.scope c.in-Ok-convert_for_loop.is) c.convert_for_loop.ensures.visits }

pub convert_statement-returns-in-Err-convert_for_loop : goal.convert_statement-returns-in-Err-convert_for_loop
unfolding counted
convert_statement-returns-in-Err-convert_for_loop t c = record { statement_as = commented_for c.requires.converting.0 c.requires.converting.1 c.requires.statement (omega arith) c.emit_comment.ensures c.kind.ensures (stop-stated c.convert_for_loop.new.k c.args.c.scope c.in-Err-convert_for_loop.is) c.in-21.is c.convert_for_loop.ensures.finishes_as; visits = stated-visited _ _ _ _ (stop-stated c.convert_for_loop.new.k c.args.c.scope c.in-Err-convert_for_loop.is) c.convert_for_loop.ensures.visits }

pub convert_while_loop-convert_block-requires : goal.convert_while_loop-convert_block-requires
convert_while_loop-convert_block-requires t c = let h = while_list c.requires.converting.0 c.requires.converting.1 c.requires.kind c.reference-body.ensures in (omega (arith, h.0, c.decreases), ((while_converting c.requires.converting.0 c.requires.converting.1 c.requires.kind c.while_head.ensures.head_as (ap (finished_with _) c.in_ok-while_head.was) c.with_loop.ensures c.reference-body.ensures, while_afforded c.requires.converting.0 c.requires.converting.1 c.requires.kind c.while_head.ensures.head_as (ap (finished_with _) c.in_ok-while_head.was) c.with_loop.ensures c.reference-body.ensures), (h.1, (head_visited c.requires.converting.0 c.requires.kind c.requires.fresh c.while_head.ensures.head_as (ap (finished_with _) c.in_ok-while_head.was) c.while_head.ensures.types).turns)))

pub convert_while_loop-loop_end-requires : goal.convert_while_loop-loop_end-requires
convert_while_loop-loop_end-requires t c = while_room c.requires.converting.0 c.requires.converting.1 c.requires.kind c.while_head.ensures.head_as (ap (finished_with _) c.in_ok-while_head.was) c.with_loop.ensures c.reference-body.ensures c.convert_block.ensures.block_as (ap (finished_with _) c.in_ok-convert_block.was)

pub convert_while_loop-returns-in_err-while_head : goal.convert_while_loop-returns-in_err-while_head
convert_while_loop-returns-in_err-while_head t c = let p = err_from_is_err_and c.from_residual.result c.from_residual.ensures.1 in rw (p.1, p.2) (record { finishes_as = while_stop c.requires.converting.0 c.requires.converting.1 c.requires.kind c.while_head.ensures.head_as (ap (finished_with _) c.in_err-while_head.was); visits = λ k q. refused-finished k q })

pub convert_while_loop-returns-in_err-convert_block : goal.convert_while_loop-returns-in_err-convert_block
convert_while_loop-returns-in_err-convert_block t c = let p = err_from_is_err_and c.from_residual-in_err-convert_block.result c.from_residual-in_err-convert_block.ensures.1 in rw (p.1, p.2) (record { finishes_as = while_body-stop c.requires.converting.0 c.requires.converting.1 c.requires.kind c.while_head.ensures.head_as (ap (finished_with _) c.in_ok-while_head.was) c.with_loop.ensures c.reference-body.ensures c.convert_block.ensures.block_as (ap (finished_with _) c.in_err-convert_block.was); visits = λ k q. refused-finished k q })

pub convert_while_loop-returns : goal.convert_while_loop-returns
convert_while_loop-returns t c = record { finishes_as = while_next c.requires.converting.0 c.requires.converting.1 c.requires.kind c.while_head.ensures.head_as (ap (finished_with _) c.in_ok-while_head.was) c.with_loop.ensures c.reference-body.ensures c.convert_block.ensures.block_as (ap (finished_with _) c.in_ok-convert_block.was) c.loop_end.ensures; visits = while_visited c.requires.converting.0 c.requires.kind c.requires.fresh c.while_head.ensures.head_as (ap (finished_with _) c.in_ok-while_head.was) c.while_head.ensures.types c.reference-body.ensures c.convert_block.ensures.visits (ap (finished_with _) c.in_ok-convert_block.was) c.loop_end.ensures refl }
