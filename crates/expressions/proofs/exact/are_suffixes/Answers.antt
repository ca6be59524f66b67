-- The loop says whether the suffixes stand in the text, one behind the other.
-- What was asked equals what is left: the suffixes from the present cell on, and the text from the present place on. Assumes nothing.
use native.Mathlib.Omega.{arith}
use Rattle.expressions.proofs.SuffixLaws.{first_cell, match_cell, match_end, match_room, match_mark, match_other, match_more}
use Rattle.expressions.proofs.exact.are_suffixes.Goals as goal

pub argument_type-requires : goal.argument_type-requires
argument_type-requires c = record { argued = c.loop.invariant.argued; fact = match_cell _ _ _ _ _ _ _ _ _ c.loop.invariant c.loop-test.true }

pub bounds-text-here : goal.bounds-text-here
bounds-text-here c = omega (arith, match_room _ _ _ _ _ _ _ _ _ c.loop.invariant _ _ c.loop-test.true (first_cell _ _ _ _ _ c.loop.invariant.argued (match_cell _ _ _ _ _ _ _ _ _ c.loop.invariant c.loop-test.true) c.argument_type.ensures.0) c.type_key-piece.ensures)

pub returns-then-text-here-ne-DOLLAR : goal.returns-then-text-here-ne-DOLLAR
returns-then-text-here-ne-DOLLAR c = match_mark _ _ _ _ _ _ _ _ _ c.loop.invariant _ _ c.loop-test.true (first_cell _ _ _ _ _ c.loop.invariant.argued (match_cell _ _ _ _ _ _ _ _ _ c.loop.invariant c.loop-test.true) c.argument_type.ensures.0) c.type_key-piece.ensures c.if-text-here-ne-DOLLAR.true

pub same_part-requires : goal.same_part-requires
same_part-requires c = (
  omega (arith, match_room _ _ _ _ _ _ _ _ _ c.loop.invariant _ _ c.loop-test.true (first_cell _ _ _ _ _ c.loop.invariant.argued (match_cell _ _ _ _ _ _ _ _ _ c.loop.invariant c.loop-test.true) c.argument_type.ensures.0) c.type_key-piece.ensures),
  c.type_key-piece.ensures.inside,
)

pub returns-then-not-same_part : goal.returns-then-not-same_part
returns-then-not-same_part c = match_other _ _ _ _ _ _ _ _ _ c.loop.invariant _ _ c.loop-test.true (first_cell _ _ _ _ _ c.loop.invariant.argued (match_cell _ _ _ _ _ _ _ _ _ c.loop.invariant c.loop-test.true) c.argument_type.ensures.0) c.type_key-piece.ensures c.if-text-here-ne-DOLLAR.false _ c.same_part.ensures c.if-not-same_part.true

pub next_cell-cell-requires : goal.next_cell-cell-requires
next_cell-cell-requires c = (first_cell _ _ _ _ _ c.loop.invariant.argued (match_cell _ _ _ _ _ _ _ _ _ c.loop.invariant c.loop-test.true) c.argument_type.ensures.0).inside

pub loop-preserved : goal.loop-preserved
loop-preserved c = rw c.next_cell-cell.ensures
    (match_more _ _ _ _ _ _ _ _ _ c.loop.invariant _ _ c.loop-test.true (first_cell _ _ _ _ _ c.loop.invariant.argued (match_cell _ _ _ _ _ _ _ _ _ c.loop.invariant c.loop-test.true) c.argument_type.ensures.0) c.type_key-piece.ensures c.if-text-here-ne-DOLLAR.false _ c.same_part.ensures c.if-not-same_part.false)

pub returns : goal.returns
returns c = match_end _ _ _ _ _ _ _ _ _ c.loop.invariant c.loop-test.false
