-- The sum is the bytes of all suffixes, and small.
-- The loop keeps that the sum so far and what the cells left have make up the whole. Assumes nothing.
use native.Mathlib.Omega.{arith}
use Rattle.expressions.proofs.SuffixLaws.{first_cell, key_short, sum_start, sum_more, sum_end}
use Rattle.expressions.proofs.exact.suffix_bytes.Goals as goal

pub loop-cell-init : goal.loop-cell-init
loop-cell-init c = sum_start _ _ _ _ c.requires

pub next_cell-cell-requires : goal.next_cell-cell-requires
next_cell-cell-requires c = (first_cell _ _ _ _ _ c.loop-cell.invariant.argued c.loop-cell-test.true c.argument_type.ensures.0).inside

pub loop-cell-smaller : goal.loop-cell-smaller
loop-cell-smaller c = rw c.next_cell-cell.ensures (first_cell _ _ _ _ _ c.loop-cell.invariant.argued c.loop-cell-test.true c.argument_type.ensures.0).falls

pub loop-cell-preserved : goal.loop-cell-preserved
loop-cell-preserved c = rw c.next_cell-cell.ensures
    (sum_more _ _ _ _ _ _ _ _ c.loop-cell.invariant (first_cell _ _ _ _ _ c.loop-cell.invariant.argued c.loop-cell-test.true c.argument_type.ensures.0) c.type_key-key.ensures
    (key_short _ _ _ _ c.type_key-key.ensures (λ i. omega (arith, c.shared_slice_known-1.given i))))

pub returns : goal.returns
returns c = sum_end _ _ _ _ _ _ c.loop-cell.invariant c.loop-cell-test.false
