-- The digest of the verb with all suffixes. The invariant: what was asked is the digest at hand, gone on over the cells that are left.
-- By the laws of that digest, cell by cell. Assumes nothing.
use mathlib.Core.Path.{refl}
use Rattle.expressions.proofs.SuffixLaws.{first_cell}
use Rattle.expressions.proofs.NameDigest.{rolled-more, rolled_end}
use Rattle.expressions.proofs.exact.full_digest.Goals as goal

pub next_cell-cell-requires : goal.next_cell-cell-requires
next_cell-cell-requires c = (first_cell _ _ _ _ _ c.loop-cell.invariant.argued c.loop-cell-test.true c.argument_type.ensures.0).inside

pub loop-cell-smaller : goal.loop-cell-smaller
loop-cell-smaller c = rw c.next_cell-cell.ensures (first_cell _ _ _ _ _ c.loop-cell.invariant.argued c.loop-cell-test.true c.argument_type.ensures.0).falls

pub loop-cell-preserved : goal.loop-cell-preserved
loop-cell-preserved c = rw c.next_cell-cell.ensures
    (rolled-more _ _ _ _ _ _ _ c.loop-cell.invariant _ _ (first_cell _ _ _ _ _ c.loop-cell.invariant.argued c.loop-cell-test.true c.argument_type.ensures.0) c.type_key-key.ensures _ c.roll_byte.ensures.0 _ c.roll-d.ensures)

pub returns : goal.returns
returns c = rolled_end _ _ _ _ _ _ _ c.loop-cell.invariant c.loop-cell-test.false _ c.requires.0 refl c.verb_digest-d.ensures.0
