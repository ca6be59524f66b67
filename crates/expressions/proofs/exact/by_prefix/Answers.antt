-- The function with the longest prefix and `$...`: each prefix is looked for, and the last found is kept.
-- The invariant: what was asked is what is left from the cell at hand on, or else the best so far. Assumes nothing.
use native.Mathlib.Omega.{arith}
use Rattle.expressions.proofs.SuffixLaws.{first_cell, key_short}
use Rattle.expressions.proofs.PrefixLaws.{prefix_start, prefix_marked, prefix_more, prefix_end}
use Rattle.expressions.proofs.exact.by_prefix.Goals as goal

pub loop-cell-init : goal.loop-cell-init
loop-cell-init c = prefix_start _ _ _ _ c.requires.called _ c.verb_digest-digest.ensures

pub by_marked-found-requires : goal.by_marked-found-requires
by_marked-found-requires c = record { keyed = c.requires.keyed; called = c.requires.called; k_le_count = (c.loop-cell.invariant.number, c.loop-cell.invariant.sized, prefix_marked _ _ _ _ c.requires.called _ _ _ _ _ c.loop-cell.invariant _ c.marked_digest-marked.ensures) }

pub next_cell-cell-requires : goal.next_cell-cell-requires
next_cell-cell-requires c = (first_cell _ _ _ _ _ c.loop-cell.invariant.argued c.loop-cell-test.true c.argument_type.ensures.0).inside

pub loop-cell-smaller : goal.loop-cell-smaller
loop-cell-smaller c = rw c.next_cell-cell.ensures (first_cell _ _ _ _ _ c.loop-cell.invariant.argued c.loop-cell-test.true c.argument_type.ensures.0).falls

pub loop-cell-preserved : goal.loop-cell-preserved
loop-cell-preserved c = rw (c.next_cell-cell.ensures, c.or-best.ensures)
    (prefix_more _ _ _ _ c.requires.called _ _ _ _ _ c.loop-cell.invariant _ c.by_marked-found.ensures _ _ (first_cell _ _ _ _ _ c.loop-cell.invariant.argued c.loop-cell-test.true c.argument_type.ensures.0) c.type_key-key.ensures
    (key_short _ _ _ _ c.type_key-key.ensures (λ i. omega (arith, c.shared_slice_known-1.given i))) _ _ c.roll_byte.ensures.0 c.roll-digest.ensures)

pub by_marked-requires : goal.by_marked-requires
by_marked-requires c = record { keyed = c.requires.keyed; called = c.requires.called; k_le_count = (c.loop-cell.invariant.number, c.loop-cell.invariant.sized, prefix_marked _ _ _ _ c.requires.called _ _ _ _ _ c.loop-cell.invariant _ c.marked_digest-marked-2.ensures) }

pub returns : goal.returns
returns c = rw c.or.ensures (prefix_end _ _ _ _ c.requires.called _ _ _ _ _ c.loop-cell.invariant _ c.by_marked.ensures c.loop-cell-test.false)
